pub mod Lifts
pub mod Turns
pub mod Reaching
