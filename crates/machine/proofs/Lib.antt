mod Searches
pub mod WarpRows
mod SoundQueue
mod TurnOrder
mod ServeSteps
mod Withdrawals
mod Retries
mod TransactionEnd
mod AccessSteps
mod CheckedCalls
mod LateStamps
mod FirstRows
mod Runs
