mod OpenTurns
mod Steps
mod Clauses
mod Claused
mod Leveled
