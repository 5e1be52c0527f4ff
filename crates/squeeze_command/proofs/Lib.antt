mod Said
mod Written
