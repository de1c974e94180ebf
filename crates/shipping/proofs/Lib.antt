pub mod Sends
pub mod Entering
pub mod Diffs
pub mod Ships
