pub mod Ranges
pub mod Bookings
pub mod Loads
pub mod Laws
pub mod Packed
pub mod Made
