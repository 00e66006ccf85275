mod MemRows
mod CallRows
mod Listed
mod Fronts
mod Tails
