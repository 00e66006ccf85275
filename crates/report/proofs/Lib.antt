mod Cuts
mod Along
