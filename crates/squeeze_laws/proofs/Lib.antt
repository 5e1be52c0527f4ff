mod Counted
mod Least
mod Possible
mod Plans
mod Ranges
mod Start
mod Held
