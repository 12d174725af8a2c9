mod Globals
mod WellFormed
