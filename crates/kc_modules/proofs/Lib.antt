mod Following
mod Loops
mod Steps
