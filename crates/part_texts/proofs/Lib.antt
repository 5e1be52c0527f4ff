mod Between
mod Bounds
mod Division
mod First
mod OneMore
