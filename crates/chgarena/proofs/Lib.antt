mod Rows
pub mod Runs
pub mod Adding
pub mod Releasing
pub mod Places
pub mod Steps
pub mod Lent
pub mod Regions
pub mod Written
pub mod Coding
pub mod Appending
pub mod Reading
pub mod Joining
pub mod Pushing
pub mod Counting
pub mod Seeing
pub mod Finding
pub mod Going
mod Crosses
