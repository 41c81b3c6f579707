mod Rounds
mod Differences
mod Passing
mod Failing
pub mod Proved
mod ServerFailing
mod Confirming
