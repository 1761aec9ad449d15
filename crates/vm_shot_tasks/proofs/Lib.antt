mod Standing
mod Rows
