pub mod Faults
pub mod LaneViews
pub mod Parts
pub mod Sizes
