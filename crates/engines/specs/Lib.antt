pub mod Faults
pub mod Content
pub mod Checks
pub mod Breaking
pub mod Whole
pub mod Tables
pub mod Values
pub mod Locked
