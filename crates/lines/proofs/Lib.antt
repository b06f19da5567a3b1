mod Names
mod Numerals
mod Pieces
mod Reading
mod SoFar
mod Writing
