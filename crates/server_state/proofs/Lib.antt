pub mod Crossing
pub mod Ends
pub mod Filters
pub mod Marks
pub mod Refused
pub mod Telling
