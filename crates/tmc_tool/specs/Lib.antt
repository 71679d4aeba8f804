pub mod Command
pub mod Line
pub mod Judged
pub mod Refusal
pub mod Told
pub mod Going
pub mod Tool
pub mod Script
