pub mod Indices
pub mod RingLaws
pub mod Calls
pub mod Through
pub mod Bounds
