pub mod Ring
pub mod Index
pub mod Rings
pub mod Table
pub mod Shapes
