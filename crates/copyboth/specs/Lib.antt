pub mod XLogData
pub mod Keepalive
pub mod Server
pub mod Status
pub mod Reading
pub mod Clocks
