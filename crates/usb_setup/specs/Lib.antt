pub mod Setup
pub mod Standard
pub mod Identity
pub mod Descriptors
pub mod Interface
pub mod Scan
