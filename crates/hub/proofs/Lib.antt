pub mod Crossing
pub mod Resuming
pub mod Streams
pub mod Turns
