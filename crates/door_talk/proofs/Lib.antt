mod AskLemmas
mod LimitLemmas
mod ReadLemmas
