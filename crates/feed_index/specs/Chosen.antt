-- What is written of the entries, and how far it came while some of it is still gathered.
use Rattle.std.specs.Prelude.{◌≡◌, ◌++◌, ℕ, Bool, List, Option, filter}
use Rattle.std.specs.List.{flat_map}
use Rattle.gw_base.specs.Told.{with_bytes}
use Rattle.feed_index.specs.declared.entry.Entry.{Entry}

-- the bytes of the entries whose value passes, one after the other
abbrev pub chosen : {K R : Type 0} → (R → Bool) → List (Entry K R) → List ℕ
chosen passes entries = flat_map (λ one. one.bytes) (filter (λ one. passes one.value) entries)

-- a sink got some bytes, and these with the gathered ones are a text
pub record Sends (before now : Option (List ℕ)) (gathered text : List ℕ) : Type 0 where
  pub sent : List ℕ
  pub told : now ≡ with_bytes before sent
  pub rest : sent ++ gathered ≡ text
