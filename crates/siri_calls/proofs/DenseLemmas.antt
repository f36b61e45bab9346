-- The dense reading of calls whose positions rise, position by position.
use Rattle.std.proofs.Common.{◌≡◌, ◌∙◌, ◌<◌, ◌≤◌, ◌+◌, ◌==◌, ◌-◌, ℕ, zero, suc, Bool, true, false, List, [], ◌∷◌, ◌++◌, map, find, Some, None, nat_le, refl, ap, sym, arith, append_assoc, subst}
use Rattle.std.specs.List.{range_with_len}
use Rattle.std.proofs.lemmas.Bool.{leb-true}
use Rattle.std.proofs.lemmas.Bool.Decides.{nat_tests}
use Rattle.timetable.proofs.IdLemmas.{and-left, and-right}
use Rattle.journey_model.specs.Runs.{Run, planned_at}
use Rattle.journey_model.specs.declared.readings.StopReading.{StopReading}
use Rattle.journey_model.specs.declared.readings.StopReading.TheVariants.{Absent}
use Rattle.siri_calls.specs.Journeys.{Call}
use Rattle.siri_calls.specs.Judged.{call_reading, dense}
use Rattle.siri_calls.specs.MatchedCalls.{rise_from}

other : (n m : ℕ) → n < m → (m == n) ≡ false
other n m less = grind (arith, nat_tests)

pub other-above : (n m : ℕ) → n < m → (n == m) ≡ false
other-above n m less = grind (arith, nat_tests)

pub elsewhere : (n m : ℕ) → (n ≡ m → ⊥) → (n == m) ≡ false
elsewhere n m differ = grind (arith, nat_tests)

-- calls that rise from a position on have none before it
pub none-before : (position from : ℕ) (placed : List (ℕ × (ℕ × (ℕ × Call)))) → position < from → rise_from from placed ≡ true
    → find (λ one. one.0 == position) placed ≡ None
none-before position from [] less rising = refl
none-before position from (one ∷ others) less rising =
    let after : from ≤ one.0 = leb-true from one.0 (and-left (nat_le from one.0) _ rising) in
    rw (other position one.0 (omega arith)) (none-before position (one.0 + 1) others (omega arith) (and-right (nat_le from one.0) _ rising))

-- a call says nothing of the positions after its own
passed : (run : Run) (one : ℕ × (ℕ × (ℕ × Call))) (others : List (ℕ × (ℕ × (ℕ × Call)))) (from n : ℕ) → one.0 < from
    → map (dense run (one ∷ others)) (range_with_len from n) ≡ map (dense run others) (range_with_len from n)
passed run one others from zero less = refl
passed run one others from (suc n) less =
    let rest : map (dense run (one ∷ others)) (range_with_len (from + 1) n) ≡ map (dense run others) (range_with_len (from + 1) n) =
    passed run one others (from + 1) n (omega arith) in
    rw (other-above one.0 from less, rest) refl

-- the position of a call
step-call : (run : Run) (one : ℕ × (ℕ × (ℕ × Call))) (others : List (ℕ × (ℕ × (ℕ × Call)))) (position n : ℕ) (front : List StopReading) → one.0 ≡ position
    → front ++ map (dense run (one ∷ others)) (range_with_len position (suc n))
    ≡ (front ++ call_reading (planned_at run position) one.1.0 one.1.1.1 ∷ []) ++ map (dense run others) (range_with_len (position + 1) n)
step-call run one others position n front here =
    let eq : (one.0 == position) ≡ true = grind (arith, nat_tests) in
    let rest = passed run one others (position + 1) n (omega arith) in
    rw (eq, rest) (sym (append_assoc front (call_reading (planned_at run position) one.1.0 one.1.1.1 ∷ []) (map (dense run others) (range_with_len (position + 1) n))))

-- a position without a call
step-none : (run : Run) (placed : List (ℕ × (ℕ × (ℕ × Call)))) (position n : ℕ) (front : List StopReading) → find (λ one. one.0 == position) placed ≡ None
    → front ++ map (dense run placed) (range_with_len position (suc n))
    ≡ (front ++ Absent ∷ []) ++ map (dense run placed) (range_with_len (position + 1) n)
step-none run placed position n front none =
    rw none (sym (append_assoc front (Absent ∷ []) (map (dense run placed) (range_with_len (position + 1) n))))

-- one position more, with its call or without
pub one-call : (run : Run) (all front pushed : List StopReading) (list others : List (ℕ × (ℕ × (ℕ × Call)))) (one : ℕ × (ℕ × (ℕ × Call))) (position stops : ℕ) (reading : StopReading)
    → list ≡ one ∷ others → one.0 ≡ position → position < stops
    → pushed ≡ front ++ reading ∷ [] → reading ≡ call_reading (planned_at run one.0) one.1.0 one.1.1.1
    → front ++ map (dense run list) (range_with_len position (stops - position)) ≡ all
    → pushed ++ map (dense run others) (range_with_len (position + 1) (stops - (position + 1))) ≡ all
one-call run all front pushed list others one position stops reading is here less push read whole =
    let more : stops - position ≡ suc (stops - (position + 1)) = omega arith in
    let before : front ++ map (dense run (one ∷ others)) (range_with_len position (suc (stops - (position + 1)))) ≡ all = rw (is, more) at whole in
    let said : reading ≡ call_reading (planned_at run position) one.1.0 one.1.1.1 = read ∙ ap (λ p. call_reading (planned_at run p) one.1.0 one.1.1.1) here in
    rw (push, said) (sym (step-call run one others position (stops - (position + 1)) front here) ∙ before)

pub one-none : (run : Run) (all front pushed : List StopReading) (list : List (ℕ × (ℕ × (ℕ × Call)))) (position stops : ℕ) (reading : StopReading)
    → find (λ one. one.0 == position) list ≡ None → position < stops
    → pushed ≡ front ++ reading ∷ [] → reading ≡ Absent
    → front ++ map (dense run list) (range_with_len position (stops - position)) ≡ all
    → pushed ++ map (dense run list) (range_with_len (position + 1) (stops - (position + 1))) ≡ all
one-none run all front pushed list position stops reading none less push read whole =
    let more : stops - position ≡ suc (stops - (position + 1)) = omega arith in
    let before : front ++ map (dense run list) (range_with_len position (suc (stops - (position + 1)))) ≡ all = rw more at whole in
    rw (push, read) (sym (step-none run list position (stops - (position + 1)) front none) ∙ before)

-- the others rise from the next position on
pub rise-after : (position : ℕ) (list others : List (ℕ × (ℕ × (ℕ × Call)))) (one : ℕ × (ℕ × (ℕ × Call))) → list ≡ one ∷ others → one.0 ≡ position → rise_from position list ≡ true
    → rise_from (position + 1) others ≡ true
rise-after position list others one is here rising =
    let all : rise_from position (one ∷ others) ≡ true = rw is at rising in
    subst (λ p. rise_from (p + 1) others ≡ true) here (and-right (nat_le position one.0) _ all)

-- the first of calls that rise from a position on isn't at it
pub none-here : (position : ℕ) (one : ℕ × (ℕ × (ℕ × Call))) (others : List (ℕ × (ℕ × (ℕ × Call)))) → rise_from position (one ∷ others) ≡ true → (one.0 == position) ≡ false
    → find (λ other. other.0 == position) (one ∷ others) ≡ None
none-here position one others rising elsewhere =
    let after : position ≤ one.0 = leb-true position one.0 (and-left (nat_le position one.0) _ rising) in
    let above : position < one.0 + 1 = omega arith in
    rw elsewhere (none-before position (one.0 + 1) others above (and-right (nat_le position one.0) _ rising))

-- calls that rise from a position on at which none stands rise from the next one on
pub rise-on : (position : ℕ) (placed : List (ℕ × (ℕ × (ℕ × Call)))) → rise_from position placed ≡ true → find (λ one. one.0 == position) placed ≡ None
    → rise_from (position + 1) placed ≡ true
rise-on position [] rising none = refl
rise-on position (one ∷ others) rising none = by (one.0 == position) refl
  where
    by : (b : Bool) → (one.0 == position) ≡ b → rise_from (position + 1) (one ∷ others) ≡ true
    by true e = let absent : Some one ≡ None = rw e at none in absurd (cc)
    by false e =
        let after : position ≤ one.0 = leb-true position one.0 (and-left (nat_le position one.0) _ rising) in
        let more : nat_le (position + 1) one.0 ≡ true = grind (arith, nat_tests) in
        rw more (and-right (nat_le position one.0) _ rising)
