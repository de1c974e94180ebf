pub mod Kinds
pub mod Order
pub mod Rows
pub mod Least
pub mod Samples
pub mod Orders
