pub mod Kinds
pub mod Fields
pub mod Views
pub mod Carried
pub mod Slot
pub mod Made
pub mod Numbers
pub mod Samples
