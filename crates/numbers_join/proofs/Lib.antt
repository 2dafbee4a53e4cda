pub mod JoinsKept
