pub mod SaidAgain
pub mod SaidAgainCalls
pub mod SaidAgainItems
pub mod SaidAgainPlain
pub mod SaidAgainRuns
pub mod WrittenLemmas
pub mod WrittenTimes
