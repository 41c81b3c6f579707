pub mod Kinds
pub mod Tuples
pub mod Relations
pub mod Messages
pub mod Spelling
