mod Opening
mod OpeningForms
mod OpeningTrees
mod Leaving
mod Contexts
mod Calls
