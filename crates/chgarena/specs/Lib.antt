pub mod Books
pub mod Entries
pub mod Fill
pub mod Joined
pub mod Links
pub mod Pages
pub mod Places
pub mod Strands
