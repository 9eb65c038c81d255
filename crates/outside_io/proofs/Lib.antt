pub mod Known
pub mod Ranges
mod FileNames
pub mod FrameLemmas
mod TornFiles
pub mod CrashLemmas
mod LogLemmas
