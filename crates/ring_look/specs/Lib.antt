pub mod Archives
pub mod Fetched
pub mod Findings
pub mod FindingText
pub mod Found
pub mod InfoText
pub mod ValuesText
pub mod Words
