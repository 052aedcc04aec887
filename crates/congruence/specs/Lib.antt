pub mod Drawn
pub mod Working
pub mod Waiting
pub mod Whole
