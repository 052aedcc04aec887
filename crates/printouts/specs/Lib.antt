pub mod Form
pub mod Numerals
pub mod Faults
pub mod Lines
pub mod Replies
pub mod Printouts
