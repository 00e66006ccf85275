mod HeaderChecks
mod Tails
mod SameBytes
mod RowSteps
mod NumberSteps
mod Parts
mod FrontReads
