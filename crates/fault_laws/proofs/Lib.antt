mod Free
mod Stops
mod Written
