pub mod Faults
pub mod Opening
pub mod Reading
pub mod Seats
pub mod Sound
pub mod View
