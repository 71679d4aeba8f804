pub mod Counts
pub mod Words
pub mod Lines
pub mod Serving
pub mod Causes
