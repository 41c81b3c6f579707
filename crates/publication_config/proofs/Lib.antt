pub mod Configured
pub mod Reading
pub mod Filtering
pub mod Naming
