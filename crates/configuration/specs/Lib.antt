pub mod Setting
pub mod Config
