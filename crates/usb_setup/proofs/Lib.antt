pub mod Lists
pub mod Scanning
pub mod Cutting
pub mod Judging
