mod Passing
mod Defining
mod Turns
mod Forms
mod Trees
mod Calls
