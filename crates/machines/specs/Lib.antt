pub mod Guard
pub mod Lone
pub mod Turn
