pub mod Bytes
pub mod Slots
pub mod Reading
pub mod Filling
pub mod Parsing
pub mod Numbers
pub mod Tail
