pub mod CommandLine
pub mod HostTexts
