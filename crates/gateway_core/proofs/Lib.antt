mod BodyAnswers
mod ChangeLemmas
mod EstimatedLemmas
mod FaultlessLemmas
mod FeedAnswers
pub mod FewerLemmas
mod FirstDayLemmas
mod GivesLemmas
mod HeldLemmas
mod JourneyLemmas
mod JsonLemmas
mod KeepsLemmas
mod KeptAnswers
pub mod LatestLemmas
mod LeastLemmas
mod LengthLemmas
mod OneLemmas
mod OneTextLemmas
mod OrderOfArrival
pub mod OrderedLemmas
pub mod ReadingOrder
mod RecordingLemmas
mod ReportLemmas
mod RollLemmas
mod RollingLemmas
mod RoomLemmas
mod SaidLemmas
mod SeenLemmas
mod ServedLemmas
mod ServingLemmas
mod ShortLemmas
mod SituationAnswers
mod SituationLemmas
pub mod StandingLemmas
pub mod SortedLemmas
mod StateLemmas
mod StepLemmas
mod TallyLemmas
mod WindowLemmas
pub mod WinnerLemmas
