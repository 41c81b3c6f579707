pub mod Declared
pub mod Integers
pub mod Told
