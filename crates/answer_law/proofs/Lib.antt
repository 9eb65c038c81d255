mod AnswerLemmas
mod RowLemmas
mod SortLemmas
mod ValueLemmas
