pub mod SendersKept
