pub mod AllTurns
pub mod OneTurn
pub mod Started
pub mod WholeRun
