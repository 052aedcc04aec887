pub mod Paths
pub mod Edits
pub mod Sought
pub mod Relinked
mod Threads
mod Walking
