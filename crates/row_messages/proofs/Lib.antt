pub mod Bounds
pub mod Choosing
pub mod Rows
pub mod Values
pub mod Written
pub mod RelationParts
