pub mod Slots
pub mod Rings
