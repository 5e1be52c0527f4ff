mod Said
mod Orders
mod Places
mod Stops
mod Refusals
