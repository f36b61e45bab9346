mod ArrivalLemmas
mod BoardLemmas
mod DeliveryLemmas
pub mod FeedSteps
mod MadeFacts
mod SampleLemmas
pub mod StepLemmas
mod UpdateLemmas
