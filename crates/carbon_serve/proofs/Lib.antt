mod PaceLemmas
mod WorkLemmas
mod DeedLemmas
mod LineLemmas
mod HttpLemmas
mod EntryLemmas
mod PendingLemmas
mod PassLemmas
mod CourseLemmas
mod ReplyLemmas
mod PutLemmas
mod OrderLemmas
mod MusterLemmas
mod CrewLemmas
mod EndLemmas
mod WovenLemmas
pub mod HeadlineLemmas
