mod Calls
mod Entries
mod Fronts
