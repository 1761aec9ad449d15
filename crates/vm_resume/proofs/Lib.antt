mod Resuming
mod Keeping
