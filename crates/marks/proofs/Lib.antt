pub mod RowLoops
