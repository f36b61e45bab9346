mod CompleteLemmas
mod HeadlineLemmas
mod KeptLemmas
mod PublishedLemmas
