mod Company
mod Scanning
mod Counting
mod Turns
mod Counts
