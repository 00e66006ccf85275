mod ListFacts
mod SerialAccount
mod SerialOrders
mod History
mod Commits
mod BookCalls
mod Ledgers
mod StoreCounts
mod Verdicts
mod Logs
mod Invariant
mod OneWarp
mod Retries
mod Calls
pub mod AccountsLaw
pub mod Explanation
pub mod Fetches
pub mod WaitsLaw
pub mod TablesLaw
pub mod ProductOrder
pub mod ProductLaws
mod Examples
mod WorkedRuns
