pub mod Widths
pub mod Turns
pub mod Served
