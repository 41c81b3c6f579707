pub mod Names
pub mod Asking
