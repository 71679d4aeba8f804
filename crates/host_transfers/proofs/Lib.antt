pub mod Cuts
pub mod Transfers
pub mod Grows
pub mod Reading
pub mod Refusals
pub mod Given
pub mod Parting
