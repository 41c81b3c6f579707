pub mod Kinds
pub mod Reading
pub mod Refs
pub mod Spelling
pub mod Tables
pub use Rattle.pqformat.specs.Fields
