pub mod Accepting
pub mod Logging
pub mod Running
