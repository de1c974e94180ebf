pub mod Ranges
pub mod Postings
pub mod Balances
pub mod Laws
pub mod Packed
pub mod Made
