-- A body that is posted, while it arrives.
use Rattle.std.specs.Prelude.{◌≡◌, ℕ, ℤ, List, [], length}
use Rattle.gw_base.specs.declared.kind.Kind.{Kind}
use Rattle.gw_base.specs.declared.kind.Kind.TheVariants as kind
use Rattle.gateway_core.specs.Bodies.{FeedStands}
use Rattle.gateway_core.specs.Standing.{Kept}
use Rattle.gateway_server.specs.declared.posted_body.PostedBody.{PostedBody}
use Rattle.gateway_server.specs.declared.posted_body.PostedBody.TheVariants.{Estimated, Feed, Nothing, Situations}

-- how many bytes of it came
abbrev pub came : PostedBody → ℕ
came Nothing = 0
came (Estimated held) = length held
came (Situations held) = length held
came (Feed one buffer) = one.reader.taken

-- what is posted at a moment stands for these bytes of a kind: those of a delivery are kept; of a feed, which is read
-- on the way, none is
abbrev pub PostedStands : Kept → PostedBody → ℤ → Kind → List ℕ → Type 0
PostedStands gate Nothing moment of bytes = ⊥
PostedStands gate (Estimated held) moment of bytes = (of ≡ kind.Estimated) × (held ≡ bytes)
PostedStands gate (Situations held) moment of bytes = (of ≡ kind.Situations) × (held ≡ bytes)
PostedStands gate (Feed one buffer) moment of bytes =
    (of ≡ kind.Feed) × FeedStands gate moment one bytes × (buffer ≡ [])
