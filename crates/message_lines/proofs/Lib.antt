pub mod HexMarks
pub mod Numerals
pub mod Contents
pub mod Cells
pub mod Olds
pub mod ReadBack
pub mod Ends
pub mod Starts
