mod Moved
mod Spelled
mod SpelledItems
mod Numbered
