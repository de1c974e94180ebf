pub mod Logs
pub mod Cuts
pub mod Folds
pub mod Deliveries
