mod AskLemmas
mod LinkLemmas
mod StandingLemmas
mod EndLemmas
mod PromptLemmas
mod EntryLemmas
mod ReplyLemmas
