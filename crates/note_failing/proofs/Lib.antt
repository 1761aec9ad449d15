mod Steps
mod Ifs
