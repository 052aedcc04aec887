mod Marked
mod Writing
mod Rows
mod States
mod Telling
