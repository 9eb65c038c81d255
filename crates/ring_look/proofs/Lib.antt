mod FoundLemmas
mod ArchiveLemmas
