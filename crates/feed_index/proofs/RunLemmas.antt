-- Two runs in one list, of which the second is merged into the first from its end.
use Rattle.std.proofs.Common.{◌≡◌, ◌∙◌, ◌++◌, ◌∷◌, [], ◌<◌, ◌≤◌, ◌+◌, ◌-◌, ℕ, false, List, length, get_or, take, drop, sym, ap, subst, arith, append_assoc, length-append}
use Rattle.std.proofs.lemmas.List.{append-nil, get_or_at, length-take-le, length-drop, take-append-drop}
use Rattle.std.specs.Cmp.{IsTotalOrder}
use Rattle.std.specs.List.{AllByRecursion}
use Rattle.std.specs.Ordering.{is_eq, is_lt}
use Rattle.std.specs.declared.cmp.Ordering.{Ordering}
use Rattle.gw_base.proofs.Elements.{all_filter}
use Rattle.feed_index.specs.Order.{AreRising, above, below, with_all}
use Rattle.feed_index.specs.Staged.{IsNew}
use Rattle.feed_index.proofs.OrderLemmas.{AreBelow, all_round, each_front, each_weaker}
use Rattle.feed_index.proofs.RisingLemmas.{rising_parts, rising_take}
use Rattle.feed_index.proofs.TurnLemmas.{last_of}

module _ {K X : Type 0} (key_of : X → K) (cmp : K → K → Ordering) where
  -- the list is a first run, a second one and what is merged; and the runs are still to be merged to what was to come
  pub record Runs (rows first after : List X) (front end : ℕ) : Type 0 where
    pub low : List X
    pub run : List X
    pub done : List X
    pub is : rows ≡ low ++ (run ++ done)
    pub front_is : length low ≡ front
    pub end_is : length low + length run ≡ end
    pub result : with_all key_of cmp first after ≡ with_all key_of cmp low run ++ done
    pub low_rises : AreRising key_of cmp low
    pub run_rises : AreRising key_of cmp run
    pub apart : AllByRecursion (λ x. IsNew key_of cmp low (key_of x)) run

module _ {K X : Type 0} (key_of : X → K) {cmp : K → K → Ordering} (o : IsTotalOrder cmp) where
  -- a key that is new to a list is new to its part below another one
  new_below : (b k : K) (xs : List X) → IsNew key_of cmp xs k → IsNew key_of cmp (below key_of cmp b xs) k
  new_below b k xs h = all_filter (λ (x : X). is_eq (cmp (key_of x) k) ≡ false) (λ (x : X). is_lt (cmp (key_of x) b)) xs h

  pub runs_begin : (rows : List X) (front : ℕ) → front ≤ length rows → AreRising key_of cmp (take front rows) → AreRising key_of cmp (drop front rows) → AllByRecursion (λ x. IsNew key_of cmp (take front rows) (key_of x)) (drop front rows) →
      Runs key_of cmp rows (take front rows) (drop front rows) front (length rows)
  runs_begin rows front le low run apart = record {
    low = take front rows;
    run = drop front rows;
    done = [];
    is = sym (take-append-drop front rows) ∙ ap (λ (ys : List X). take front rows ++ ys) (sym (append-nil (drop front rows)));
    front_is = length-take-le front rows le;
    end_is = omega (arith, length-take-le front rows le, length-drop front rows);
    result = sym (append-nil (with_all key_of cmp (take front rows) (drop front rows)));
    low_rises = low;
    run_rises = run;
    apart = apart;
  }

  -- the last of the second run
  pub record Last (rows first after : List X) (front end : ℕ) (runs : Runs key_of cmp rows first after front end) (one : X) : Type 0 where
    pub run : List X
    pub run_is : runs.run ≡ run ++ one ∷ []
    pub below_it : AreBelow key_of o (key_of one) run
    pub rises : AreRising key_of cmp run
    pub apart : AllByRecursion (λ x. IsNew key_of cmp runs.low (key_of x)) run

  pub last : (rows first after : List X) (front end : ℕ) (runs : Runs key_of cmp rows first after front end) → front < end → (one : X) → one ≡ get_or rows (end - 1) one → Last rows first after front end runs one
  last rows first after front end runs lt one is_one =
      let a : length runs.low ≡ front = runs.front_is in
      let b : length runs.low + length runs.run ≡ end = runs.end_is in
      let parts = last_of runs.run (omega arith) in
      let long : length runs.run ≡ length parts.0 + 1 = ap length parts.2 ∙ length-append parts.0 (parts.1 ∷ []) in
      let here : get_or rows (end - 1) one ≡ parts.1 =
      ap (λ (ys : List X). get_or ys (end - 1) one) (runs.is ∙ ap (λ (ys : List X). runs.low ++ (ys ++ runs.done)) parts.2 ∙ ap (λ (ys : List X). runs.low ++ ys) (append_assoc parts.0 (parts.1 ∷ []) runs.done) ∙ sym (append_assoc runs.low parts.0 (parts.1 ∷ runs.done)))
      ∙ get_or_at (runs.low ++ parts.0) parts.1 runs.done one (end - 1) (omega (arith, length-append runs.low parts.0)) in
      let same : parts.1 ≡ one = sym (is_one ∙ here) in
      let run_is : runs.run ≡ parts.0 ++ one ∷ [] = parts.2 ∙ ap (λ (x : X). parts.0 ++ x ∷ []) same in
      let R : List X → Type 0 = λ ys. AreRising key_of cmp ys in
      let N : List X → Type 0 = λ ys. AllByRecursion (λ x. IsNew key_of cmp runs.low (key_of x)) ys in
      let rises = rising_parts key_of o parts.0 one [] (subst R run_is runs.run_rises) in
      let new = subst N run_is runs.apart in
      record {
        run = parts.0;
        run_is = run_is;
        below_it = rises.low;
        rises = rises.front;
        apart = each_front (λ x. IsNew key_of cmp runs.low (key_of x)) parts.0 (one ∷ []) new;
      }

  pub runs_more : (rows now first after : List X) (front end : ℕ) (runs : Runs key_of cmp rows first after front end) (one : X) → front < end → Last rows first after front end runs one → (at : ℕ) → at ≤ front →
      below key_of cmp (key_of one) runs.low ≡ take at runs.low → above key_of cmp (key_of one) runs.low ≡ drop at runs.low →
      now ≡ take at runs.low ++ (runs.run ++ (drop at runs.low ++ runs.done)) → Runs key_of cmp now first after at (end - (front - at + 1))
  runs_more rows now first after front end runs one lt at_last at le low high is =
      let a : length runs.low ≡ front = runs.front_is in
      let b : length runs.low + length runs.run ≡ end = runs.end_is in
      let short : at ≤ length runs.low = omega arith in
      let long : length runs.run ≡ length at_last.run + 1 = ap length at_last.run_is ∙ length-append at_last.run (one ∷ []) in
      let N : List X → Type 0 = λ ys. AllByRecursion (λ x. IsNew key_of cmp ys (key_of x)) at_last.run in
      record {
        low = take at runs.low;
        run = at_last.run;
        done = one ∷ (drop at runs.low ++ runs.done);
        is = is ∙ ap (λ (ys : List X). take at runs.low ++ (ys ++ (drop at runs.low ++ runs.done))) at_last.run_is
            ∙ ap (λ (ys : List X). take at runs.low ++ ys) (append_assoc at_last.run (one ∷ []) (drop at runs.low ++ runs.done));
        front_is = length-take-le at runs.low short;
        end_is = omega (arith, length-take-le at runs.low short);
        result = runs.result
            ∙ ap (λ (ys : List X). with_all key_of cmp runs.low ys ++ runs.done) at_last.run_is
            ∙ ap (λ (ys : List X). ys ++ runs.done) (all_round key_of o runs.low at_last.run one [] at_last.below_it tt)
            ∙ rw (low, high) (append_assoc (with_all key_of cmp (take at runs.low) at_last.run) (one ∷ drop at runs.low) runs.done);
        low_rises = rising_take key_of o at runs.low runs.low_rises;
        run_rises = at_last.rises;
        apart = subst N low (each_weaker (λ x. IsNew key_of cmp runs.low (key_of x)) (λ x. IsNew key_of cmp (below key_of cmp (key_of one) runs.low) (key_of x)) (λ x h. new_below (key_of one) (key_of x) runs.low h) at_last.run at_last.apart);
      }
