pub mod Transactions
pub mod Rows
pub mod SessionLines
pub mod Sessions
