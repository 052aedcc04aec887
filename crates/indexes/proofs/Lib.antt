mod Removing
mod Long
mod Placing
mod Moves
mod Bodies
mod Shifts
