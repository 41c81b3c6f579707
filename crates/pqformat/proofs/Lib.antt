pub mod Codec
pub mod Loop
pub mod Numbers
pub mod Putting
pub mod Texts
pub mod Writing
pub mod Quoting
mod Digits
