-- What the end of the feed is answered, once its bytes have no fault; or the fault.
use Rattle.std.proofs.Common.{subst, sym}
use Rattle.feed_reading.specs.FeedPieces.{feed_of}
use Rattle.feed_reading.proofs.Told.{told}
use Rattle.gateway_core.specs.FeedTexts.{IsRefusedFeed}
use Rattle.gateway_core.specs.declared.accepted.FeedRefusal.{FeedRefusal}
use Rattle.gateway_core.proofs.FeedAnswers.{bytes_refused, ended_refuses, ended_says}
use Rattle.gateway_core.proofs.take.feed.siri_text.Goals as goal

pub returns-in-Ok-clause-says : goal.returns-in-Ok-clause-says
returns-in-Ok-clause-says c = λ bytes h.
    ended_says c.args.context.now c.args.moment bytes (feed_of c.in-Ok.head h.given)
    (record { means = c.in-Ok.ensures.head bytes h.given h.read; faultless = c.in-Ok.ensures.no_fault bytes h.given h.read })
    c.of_head.result (c.of_head.ensures h.given h.folded)

pub returns-in-Ok-clause-refuses : goal.returns-in-Ok-clause-refuses
returns-in-Ok-clause-refuses c = λ bytes h.
    ended_refuses c.args.context.now c.args.moment bytes (feed_of c.in-Ok.head h.given)
    (record { means = c.in-Ok.ensures.head bytes h.given h.read; faultless = c.in-Ok.ensures.no_fault bytes h.given h.read })
    c.of_head.result (c.of_head.ensures h.given h.folded)

pub returns-in-Err-clause-refuses : goal.returns-in-Err-clause-refuses
returns-in-Err-clause-refuses c = λ bytes h.
    subst (λ (one : FeedRefusal). IsRefusedFeed c.args.context.now bytes one) (sym c.of_bytes.ensures)
    (bytes_refused c.args.context.now bytes c.in-Err.fault (told bytes c.in-Err.fault (c.in-Err.ensures.fault bytes h.given h.read)))
