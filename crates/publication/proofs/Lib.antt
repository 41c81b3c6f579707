pub mod Catalogued
pub mod Fields
pub mod Fitting
pub mod Judgements
pub mod LoggedMessages
pub mod Oids
pub mod Projecting
pub mod Relations
pub mod Repeats
pub mod Room
pub mod Standing
pub mod Worked
pub mod WorkedNames
mod Judged
