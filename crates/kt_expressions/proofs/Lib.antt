mod Lists
mod Terms
mod Words
