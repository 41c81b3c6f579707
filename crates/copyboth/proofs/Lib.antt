pub mod Faults
pub mod Bodies
pub mod Writing
