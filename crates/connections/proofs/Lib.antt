pub mod Crossing
pub mod Dropping
pub mod Naming
pub mod Writing
pub mod Messages
pub mod Turning
pub mod Proving
