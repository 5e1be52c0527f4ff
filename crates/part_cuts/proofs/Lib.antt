mod Division
mod Listed
