pub mod Framed
pub mod Pushed
pub mod Looked
