pub mod Faults
pub mod Lanes
pub mod Quiet
pub mod Blank
pub mod Ports
