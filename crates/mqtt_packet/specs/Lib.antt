pub mod Texts
pub mod RareProperties
