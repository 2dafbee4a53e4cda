pub mod ReportsTold
