pub mod Emptying
pub mod History
pub mod Keeping
pub mod Rows
pub mod Slots
pub mod Snapshots
