mod Lists
mod Changes
