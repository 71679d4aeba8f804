pub mod Net
pub mod MemNet
pub mod Command
pub mod Line
pub mod Served
pub mod Live
pub mod Next
