pub mod Decimals
pub mod Commands
pub mod Answers
pub mod Running
pub mod Totals
pub mod Logs
