pub mod Log
pub mod Places
