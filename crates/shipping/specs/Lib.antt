pub mod Lanes
pub mod Shipping
