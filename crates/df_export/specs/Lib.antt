pub mod CsvTables
pub mod JsonLines
pub mod Numbered
pub mod ReadBack
