mod Counted
mod Referenced
