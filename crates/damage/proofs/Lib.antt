pub mod JudgedCounted
pub mod Walking
pub mod WrongBySum
