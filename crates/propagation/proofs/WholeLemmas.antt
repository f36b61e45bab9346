-- Updates that stand at their places without a fault, and the one of them that supplies a stop.
use Rattle.std.proofs.Common.{◌≡◌, ◌+◌, ◌&&◌, ◌∷◌, [], ℕ, Bool, true, false, List, Option, Some, None, not, Result, Ok, Err, if◌then◌else◌, refl}
use Rattle.std.specs.Prelude.{nat_le}
use Rattle.std.proofs.lemmas.Bool.{false≢true}
use Rattle.std.proofs.lemmas.Option.{none-some}
use Rattle.std.specs.List.{AllByRecursion, zip}
use Rattle.gw_base.specs.declared.messages.StopUpdate.{StopUpdate}
use Rattle.gw_base.specs.Chains.{◌>>=◌}
use Rattle.journey_model.specs.Propagation.{greater, supplier, supplies}
use Rattle.journey_model.specs.Runs.{Run}
use Rattle.journey_model.specs.Updates.{is_no_data, is_read, is_scheduled, is_skipped, position_of, places_from, update_fault}
use Rattle.journey_model.specs.declared.fault.Fault.{Fault}
use Rattle.propagation.proofs.PlaceLemmas.{position-fits, scheduled-else}

-- an update at its position, without a fault
pub record IsWhole (run : Run) (one : ℕ × StopUpdate) : Type 0 where
  pub read : is_read one.1 ≡ true
  pub number : ℕ
  pub whole : update_fault run number one.0 one.1 ≡ None

-- updates at their places have no fault
pub whole-all : (run : Run) (number : ℕ) (after : Option ℕ) (updates : List StopUpdate) (at : List ℕ)
    → places_from run number after updates ≡ Ok at
    → AllByRecursion (IsWhole run) (zip at updates)
whole-all run number after [] at e = let none : [] ≡ at = cc in rw (← none) tt
whole-all run number after (update ∷ updates) at e =
    first (λ position others is. whole-all run (number + 1) (Some position) updates others is)
    (position_of run number after update) refl e
  where
    rest : (position : ℕ)
        → ((others : List ℕ) → places_from run (number + 1) (Some position) updates ≡ Ok others
        → AllByRecursion (IsWhole run) (zip others updates))
        → IsWhole run (position, update) → (said : Result (List ℕ) Fault)
        → places_from run (number + 1) (Some position) updates ≡ said
        → (said >>= λ others. Ok (position ∷ others)) ≡ Ok at → AllByRecursion (IsWhole run) (zip at (update ∷ updates))
    rest position more here (Ok others) is same = let all : position ∷ others ≡ at = cc in rw (← all) (here, more others is)
    rest position more here (Err fault) is same = cc

    first : ((position : ℕ) (others : List ℕ) → places_from run (number + 1) (Some position) updates ≡ Ok others
        → AllByRecursion (IsWhole run) (zip others updates))
        → (said : Result ℕ Fault) → position_of run number after update ≡ said
        → (said >>= λ position. places_from run (number + 1) (Some position) updates >>= λ others. Ok (position ∷ others))
        ≡ Ok at
        → AllByRecursion (IsWhole run) (zip at (update ∷ updates))
    first more (Ok position) is same =
        let fits = position-fits run number after update position is in
        rest position (more position) (record { read = fits.read; number = number; whole = fits.whole })
        (places_from run (number + 1) (Some position) updates) refl same
    first more (Err fault) is same = cc

-- it is SCHEDULED where it has times
pub whole-scheduled : (run : Run) (one : ℕ × StopUpdate) → IsWhole run one → is_skipped one.1 ≡ false
    → is_no_data one.1 ≡ false → is_scheduled one.1 ≡ true
whole-scheduled run one h kept known = scheduled-else one.1 h.read kept known

-- the update that supplies a stop
pub record Supplies (run : Run) (one : ℕ × StopUpdate) : Type 0 where
  pub whole : IsWhole run one
  pub kept : is_skipped one.1 ≡ false

pub supplier-whole : (run : Run) (position : ℕ) (updates : List (ℕ × StopUpdate)) (one : ℕ × StopUpdate)
    → AllByRecursion (IsWhole run) updates → supplier position updates ≡ Some one → Supplies run one
supplier-whole run position [] one h e = absurd (none-some one e)
supplier-whole run position (first ∷ others) one h e =
    by (supplies position first) refl (supplier position others) (λ same. supplier-whole run position others one h.1 same) e
  where
    kept-first : (a b : Bool) → (a && not b) ≡ true → b ≡ false
    kept-first true true e = absurd (false≢true e)
    kept-first true false e = refl
    kept-first false b e = absurd (false≢true e)

    here : supplies position first ≡ true → ◌≡◌ {A = Option (ℕ × StopUpdate)} (Some first) (Some one) → Supplies run one
    here taken same = let is : first ≡ one =
        cc in rw (← is) (record { whole = h.0; kept = kept-first _ (is_skipped first.1) taken })

    greater-one : (b : Bool) (later : ℕ × StopUpdate) → supplies position first ≡ true
        → (Some later ≡ Some one → Supplies run one)
        → ◌≡◌ {A = Option (ℕ × StopUpdate)} (if b then Some later else Some first) (Some one) → Supplies run one
    greater-one true later taken rest same = rest same
    greater-one false later taken rest same = here taken same

    by : (own : Bool) → supplies position first ≡ own → (found : Option (ℕ × StopUpdate))
        → (found ≡ Some one → Supplies run one)
        → greater (if own then Some first else None) found ≡ Some one → Supplies run one
    by true taken (Some later) rest same = greater-one (nat_le first.0 later.0) later taken rest same
    by true taken None rest same = here taken same
    by false taken found rest same = rest same

pub and_both : (a b : Bool) → a ≡ true → b ≡ true → (a && b) ≡ true
and_both a b p q = rw (p, q) refl
