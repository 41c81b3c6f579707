pub mod Bodies
pub mod Log
pub mod Places
pub mod Records
pub mod Restart
pub use Rattle.tables.specs.Spelling
pub use Rattle.tables.specs.Tables
pub use Rattle.pqformat.specs.Fields
