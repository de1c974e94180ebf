pub mod Verdicts
pub mod Wholes
pub mod Tokens
pub mod Openings
pub mod Parts
