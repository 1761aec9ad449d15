mod Callees
mod Trees
mod Whole
