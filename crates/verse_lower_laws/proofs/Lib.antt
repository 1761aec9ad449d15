mod Waits
mod Stages
mod Runs
