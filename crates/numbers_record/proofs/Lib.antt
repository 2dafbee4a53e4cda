pub mod RecordsKept
