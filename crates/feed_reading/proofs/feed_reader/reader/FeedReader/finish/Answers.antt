-- The end of the bytes says what the reader answers.
use Rattle.feed_reading.proofs.FeedEnds.{stopped_here, cut_here, finishes, none_of, head_said, faultless_said, fault_said}
use Rattle.feed_reading.proofs.feed_reader.reader.FeedReader.finish.Goals as goal

pub returns-in-Some-clause-fault : goal.returns-in-Some-clause-fault
returns-in-Some-clause-fault c =
    rw (← c.self.view_is) (λ bytes given h. stopped_here _ bytes given c.in-Some.fault c.in-Some.is h)

pub returns-in-Some-end-clause-fault : goal.returns-in-Some-end-clause-fault
returns-in-Some-end-clause-fault c =
    rw (← c.self.view_is)
    (λ bytes given h.
    cut_here _ bytes given c.in-Some-end.fault (none_of c.self.inside.fault c.in_default.not-Some)
    (λ b s. (c.in-Some-end.ensures.says b s).0) c.in-Some-end.ensures.at.0 h)

pub returns-clause-head : goal.returns-clause-head
returns-clause-head c =
    let at_end = c.end.ensures.none.0 (none_of c.end.result c.in_default-end.not-Some) in
    rw (← c.self.view_is, c.whole_head.ensures)
    (λ bytes given h.
    head_said bytes given _ (finishes _ bytes given (none_of c.self.inside.fault c.in_default.not-Some) at_end h))

pub returns-clause-no_fault : goal.returns-clause-no_fault
returns-clause-no_fault c =
    let at_end = c.end.ensures.none.0 (none_of c.end.result c.in_default-end.not-Some) in
    rw (← c.self.view_is, c.whole_head.ensures)
    (λ bytes given h.
    faultless_said bytes given _ (finishes _ bytes given (none_of c.self.inside.fault c.in_default.not-Some) at_end h))

pub returns-clause-fault : goal.returns-clause-fault
returns-clause-fault c =
    let at_end = c.end.ensures.none.0 (none_of c.end.result c.in_default-end.not-Some) in
    rw (← c.self.view_is, c.whole_head.ensures)
    (λ bytes given h.
    fault_said bytes given _ (finishes _ bytes given (none_of c.self.inside.fault c.in_default.not-Some) at_end h))
