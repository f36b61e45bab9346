-- A step of the merging of two runs of rows.
use Rattle.std.proofs.Common.{◌≡◌, ◌∙◌, ◌++◌, ◌<◌, ◌≤◌, ◌+◌, ◌-◌, ℕ, List, length, get_or, take, drop, sym, ap, subst, arith, append_assoc}
use Rattle.std.proofs.lemmas.List.{append-nil, drop_all, length-drop, length-take-le, take-append-drop, take_all, take_at}
use Rattle.std.specs.Cmp.{IsTotalOrder}
use Rattle.std.specs.declared.cmp.Ordering.{Ordering}
use Rattle.feed_index.specs.declared.row.Row.{Row}
use Rattle.feed_index.specs.Rows.{IsGapAt}
use Rattle.feed_index.specs.Staged.{IsTurned}
use Rattle.feed_index.proofs.RisingLemmas.{split_at}
use Rattle.feed_index.proofs.RunLemmas.{Runs, last, runs_more}

-- a list that was lent and written whole
pub kept : {X : Type 0} (new old : List X) (n : ℕ) → length new ≡ n → length old ≡ n → take n (new ++ drop (length new) old) ≡ new
kept new old n a b = rw (drop_all (length new) old (omega arith), append-nil new) (take_all n new (omega arith))

module _ {K R : Type 0} {cmp : K → K → Ordering} (o : IsTotalOrder cmp) where
  pub gap_within : (rows : List (Row K R)) (front end at : ℕ) → front < end → end ≤ length rows → ((other : Row K R) → IsGapAt cmp (take front rows) (get_or rows (end - 1) other).key at) → at ≤ front
  gap_within rows front end at lt le gap =
      let one = (split_at rows front (omega arith)).0 in
      let within : at ≤ length (take front rows) = (gap one).within in
      omega (arith, length-take-le front rows (omega arith))

  pub runs_step : (rows now first after : List (Row K R)) (front end at : ℕ) → Runs (λ (row : Row K R). row.key) cmp rows first after front end → front < end → end ≤ length rows →
      ((other : Row K R) → IsGapAt cmp (take front rows) (get_or rows (end - 1) other).key at) → IsTurned at front end rows now →
      Runs (λ (row : Row K R). row.key) cmp now first after at (end - (front - at + 1))
  runs_step rows now first after front end at runs lt le gap turned =
      let at_le : at ≤ front = gap_within rows front end at lt le gap in
      let parts = split_at rows (end - 1) (omega arith) in
      let one = parts.0 in
      let low = runs.low in
      let front_is : length low ≡ front = runs.front_is in
      let end_is : length low + length runs.run ≡ end = runs.end_is in
      let low_is : take front rows ≡ low = ap (take front) runs.is ∙ take_at low (runs.run ++ runs.done) front front_is in
      let P : List (Row K R) → Type 0 = λ xs. IsGapAt cmp xs (get_or rows (end - 1) one).key at in
      let Q : Row K R → Type 0 = λ row. IsGapAt cmp low row.key at in
      let here = subst Q (parts.2 one) (subst P low_is (gap one)) in
      let whole : rows ≡ take at low ++ (drop at low ++ (runs.run ++ runs.done)) =
      runs.is ∙ ap (λ (ys : List (Row K R)). ys ++ (runs.run ++ runs.done)) (sym (take-append-drop at low)) ∙ append_assoc (take at low) (drop at low) (runs.run ++ runs.done) in
      let short : length (take at low) ≡ at = length-take-le at low (omega arith) in
      let rest : length (drop at low) ≡ length low - at = length-drop at low in
      let moved = turned (take at low) (drop at low) runs.run runs.done whole short (omega arith) (omega arith) in
      runs_more (λ (row : Row K R). row.key) o rows now first after front end runs one lt
      (last (λ (row : Row K R). row.key) o rows first after front end runs lt one (sym (parts.2 one))) at at_le here.low here.high moved
