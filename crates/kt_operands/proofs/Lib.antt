mod Steps
mod Trees
