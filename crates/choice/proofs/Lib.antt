pub mod ChoiceLaw
mod LoopSteps
