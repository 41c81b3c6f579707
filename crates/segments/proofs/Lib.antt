pub mod Reading
pub mod Files
pub mod Prefixes
pub mod Told
pub mod Beside
pub mod Events
pub mod Recovered
pub mod Kept
