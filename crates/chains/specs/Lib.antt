pub mod Chain
pub mod Seek
pub mod Walk
pub mod Build
pub mod Thread
