-- Where the places of updates rise, the update of the greatest position is the last one.
use Rattle.std.proofs.Common.{◌≡◌, ◌∙◌, ◌+◌, ◌≤◌, ◌∷◌, [], ℕ, Bool, true, false, List, Option, Some, None, IfSome, if◌then◌else◌, le-leb, refl, ap, arith}
use Rattle.std.specs.Prelude.{⊤}
use Rattle.std.specs.Option.{option_or}
use Rattle.gw_base.specs.declared.messages.StopUpdate.{StopUpdate}
use Rattle.journey_model.specs.Propagation.{greater, supplier, supplies}

-- the places rise, from a position on
abbrev pub Rise : ℕ → List (ℕ × StopUpdate) → Type 0
Rise from [] = ⊤
Rise from (one ∷ others) = (from ≤ one.0) × Rise (one.0 + 1) others

-- the last of the updates that supply a stop
abbrev pub last_supplier : ℕ → List (ℕ × StopUpdate) → Option (ℕ × StopUpdate)
last_supplier position [] = None
last_supplier position (one ∷ others) =
    option_or (last_supplier position others) (if supplies position one then Some one else None)

stands_from : (position from : ℕ) (placed : List (ℕ × StopUpdate)) → Rise from placed
    → IfSome (last_supplier position placed) (λ one. from ≤ one.0)
stands_from position from [] rise = tt
stands_from position from (one ∷ others) rise =
    by (last_supplier position others) (stands_from position (one.0 + 1) others rise.1) (supplies position one)
  where
    by : (found : Option (ℕ × StopUpdate)) → IfSome found (λ later. one.0 + 1 ≤ later.0) → (own : Bool)
        → IfSome (option_or found (if own then Some one else None)) (λ later. from ≤ later.0)
    by (Some later) h own = let least : from ≤ one.0 = rise.0 in omega arith
    by None h true = rise.0
    by None h false = tt

pub supplier-last : (position from : ℕ) (placed : List (ℕ × StopUpdate)) → Rise from placed
    → supplier position placed ≡ last_supplier position placed
supplier-last position from [] rise = refl
supplier-last position from (one ∷ others) rise =
    ap (greater (if supplies position one then Some one else None)) (supplier-last position (one.0 + 1) others rise.1)
    ∙ by (supplies position one) (last_supplier position others) (stands_from position (one.0 + 1) others rise.1)
  where
    by : (own : Bool) (found : Option (ℕ × StopUpdate)) → IfSome found (λ later. one.0 + 1 ≤ later.0)
        → greater (if own then Some one else None) found ≡ option_or found (if own then Some one else None)
    by true None h = refl
    by true (Some later) h = rw (le-leb one.0 later.0 (omega arith)) refl
    by false None h = refl
    by false (Some later) h = refl
