pub mod Published
pub mod Config
pub mod Faults
