pub mod Cut
pub mod Piece
pub mod Answer
pub mod Assembly
pub mod Judged
pub mod Tags
pub mod Part
