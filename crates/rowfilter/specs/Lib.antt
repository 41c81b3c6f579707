pub mod Readings
pub mod Codes
pub mod Answers
