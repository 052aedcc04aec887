pub mod Numbers
pub mod Deciding
pub mod Telling
pub mod Stopping
pub mod Alikes
pub mod Adding
pub mod Values
