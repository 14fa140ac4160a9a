mod Counting
mod WordBits
