-- Lists of kept bodies by hand, and what they give: a check of the definition that no function needs.
use Rattle.std.proofs.Common.{◌≡◌, List, [], ◌∷◌, refl, pos}
use Rattle.gw_base.specs.declared.kind.Kind.TheVariants.{Feed}
use Rattle.journey_model.specs.declared.report.Report.{Report}
use Rattle.delivery_journal.specs.Kept.{KeptBody}
use Rattle.gateway_core.specs.Arrivals.{Arrival, Given}
use Rattle.gateway_core.specs.Bodies.{Brings}
use Rattle.gateway_core.specs.declared.setting.Setting.{Setting}
use Rattle.gateway_durable.specs.Replays.{Replays}

-- no body leaves what arrived before
none_gives_nothing : (setting : Setting) (before : List Arrival) → Replays setting before [] before
none_gives_nothing setting before = refl

only_that : (setting : Setting) (before now : List Arrival) → Replays setting before [] now → now ≡ before
only_that setting before now replays = replays

-- of two bodies the second is judged after the first, and what it gives stands before what that gave
abbrev body_at_10 : KeptBody
body_at_10 = record { kind = Feed; moment = pos 10; body = 1 ∷ [] }

abbrev body_at_20 : KeptBody
body_at_20 = record { kind = Feed; moment = pos 20; body = 2 ∷ [] }

two_bodies : (setting : Setting) (one two : Report) (first second : Given)
    → Brings setting [] (pos 10) Feed (1 ∷ []) one first
    → Brings setting (record { moment = pos 10; gives = first } ∷ []) (pos 20) Feed (2 ∷ []) two second
    → Replays setting [] (body_at_10 ∷ body_at_20 ∷ [])
    (record { moment = pos 20; gives = second } ∷ record { moment = pos 10; gives = first } ∷ [])
two_bodies setting one two first second brings next = (one, first, brings, (two, second, next, refl))
