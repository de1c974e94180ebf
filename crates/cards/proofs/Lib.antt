pub mod LaneViews
pub mod Largest
pub mod OwnRow
pub mod Stays
