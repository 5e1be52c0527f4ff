mod Cut
mod Open
