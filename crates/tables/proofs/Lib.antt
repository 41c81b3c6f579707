pub mod ChangeBodies
pub mod Lengths
pub mod Lent
pub mod Names
pub mod RowBodies
pub mod Sides
pub mod Values
mod Wide
