mod Merging
mod StopLemmas
mod TallyLemmas
