mod Typing
mod Noting
