-- What of a message is known after some of its fields, as the quick reader keeps it.
use Rattle.std.specs.Prelude.{◌≡◌, ◌≢◌, ℕ, ◌≤◌, List, [], ◌∷◌, ◌++◌, length, Option, option_map}
use denote.Bor.{Bor}
use Rattle.std.specs.List.{AllByRecursion, concat}
use Rattle.gw_base.specs.declared.messages.Entity.{Entity}
use Rattle.gw_base.specs.declared.messages.Feed.{Feed}
use Rattle.wire_fields.specs.Grammar.{WireField}
use Rattle.feed_reading.specs.declared.quick.found.Found.{Found}
use Rattle.feed_reading.specs.declared.quick.found.Found.TheVariants.{Nothing, One, Joined}
use Rattle.feed_reading.specs.Limits.{entity_limit}
use Rattle.feed_reading.specs.Meaning.{bodies, Means, AreBodies, AreMessages}
use Rattle.feed_reading.specs.Tables.{OfFeedEntity, OfFeedMessage}

-- what is known of fields, is known of one field more
abbrev pub Goes : {X : Type 0} → (List WireField → X → Type 0) → WireField → X → X → Type 0
Goes Known field old new = (fields : List WireField) → Known fields old → Known (fields ++ field ∷ []) new

-- texts, without where they lie in memory
abbrev pub seen : Option (Bor (List ℕ)) → Option (List ℕ)
seen text = option_map (λ t. t.now) text

-- the bodies of a field number: none; one; or several that are lists of fields, put together
abbrev pub IsFoundIn : List (List ℕ) → Found → Type 0
IsFoundIn bodies Nothing = bodies ≡ []
IsFoundIn bodies (One body) = bodies ≡ body.now ∷ []
IsFoundIn bodies (Joined bytes) = (bodies ≢ []) × AreBodies bodies × (bytes ≡ concat bodies)

abbrev pub IsFound : ℕ → List WireField → Found → Type 0
IsFound number fields found = IsFoundIn (bodies number fields) found

-- two bodies, each a list of fields, put together
abbrev pub AreJoined : List ℕ → List ℕ → List ℕ → Type 0
AreJoined first second bytes = AreBodies (first ∷ second ∷ []) × (bytes ≡ first ++ second)

-- bodies of entities of which none is too long
abbrev pub AreShort : List (List ℕ) → Type 0
AreShort bodies = AllByRecursion (λ body. length body ≤ entity_limit) bodies

-- such entities
abbrev pub AreShortEntities : List WireField → List Entity → Type 0
AreShortEntities fields entities = AreMessages OfFeedEntity 2 fields entities × AreShort (bodies 2 fields)

-- a feed of such entities
abbrev pub OfShortFeed : List WireField → Feed → Type 0
OfShortFeed fields feed = OfFeedMessage fields feed × AreShort (bodies 2 fields)

abbrev pub MeansShortFeed : List ℕ → Feed → Type 0
MeansShortFeed bytes feed = Means OfShortFeed bytes feed
