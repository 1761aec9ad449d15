mod Bodies
mod Wholes
