pub mod Fields
pub mod Putting
pub mod Steps
pub mod Writing
pub mod Quoting
