pub mod Meaning
pub mod Links
pub mod Counting
pub mod Roots
pub mod Reps
pub mod Linking
pub mod Drops
pub mod ClassCounts
