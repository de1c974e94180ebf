pub mod Asked
pub mod RowCount
pub mod Standing
pub mod Cards
