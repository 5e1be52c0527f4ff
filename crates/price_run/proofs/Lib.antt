mod Steps
mod Pushed
mod Counted
mod Sums
