pub mod Sized
pub mod Cutting
pub mod Reading
pub mod Rows
pub mod Layouts
pub mod Exact
pub mod Packets
