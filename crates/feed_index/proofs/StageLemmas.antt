-- Two runs that stand for a list, when one more element comes.
use Rattle.std.proofs.Common.{◌≡◌, ◌∙◌, ◌++◌, ◌∷◌, [], ◌<◌, ◌≤◌, ◌+◌, ◌-◌, ℕ, false, List, length, get_or, take, drop, set, sym, ap, subst, arith}
use Rattle.std.proofs.lemmas.List.{drop_at, length-set, length-take-le, set-append_left, set-append_right, take-append-drop, take_at}
use Rattle.std.proofs.lemmas.List.Edits.{insert-append_right}
use Rattle.std.proofs.lemmas.List.Elements.{All-from_recursion}
use Rattle.std.specs.Prelude.{insert}
use Rattle.std.specs.Cmp.{IsTotalOrder}
use Rattle.std.specs.List.{AllByRecursion}
use Rattle.std.specs.Ordering.{is_eq}
use Rattle.std.specs.declared.cmp.Ordering.{Ordering}
use Rattle.std.specs.declared.cmp.Ordering.TheVariants.{Equal}
use Rattle.gw_base.proofs.Elements.{all_append, all_filter}
use Rattle.feed_index.specs.Order.{above, below, with_one}
use Rattle.feed_index.specs.Staged.{AreStaged, IsNew, Stages}
use Rattle.feed_index.proofs.AllLemmas.{all_one, eq_turned, new_to_put, one_apart}
use Rattle.feed_index.proofs.OrderLemmas.{each_weaker}
use Rattle.feed_index.proofs.RisingLemmas.{high_parts, low_parts, rising_one}

module _ {K X : Type 0} (key_of : X → K) {cmp : K → K → Ordering} (o : IsTotalOrder cmp) where
  -- its key is new to the back: it comes among the front
  pub stages_front : (front back : List X) (one : X) → AreStaged key_of cmp front back → IsNew key_of cmp back (key_of one) → Stages key_of cmp front back one (with_one key_of cmp front one) back
  stages_front front back one h new = record {
    staged = record {
      front_rises = rising_one key_of o front one h.front_rises;
      back_rises = h.back_rises;
      apart = both back h.apart new;
    };
    merged = sym (one_apart key_of o front back one new);
  }
    where
      both : (xs : List X) → AllByRecursion (λ x. IsNew key_of cmp front (key_of x)) xs → IsNew key_of cmp xs (key_of one) → AllByRecursion (λ x. IsNew key_of cmp (with_one key_of cmp front one) (key_of x)) xs
      both [] h new = tt
      both (x ∷ xs) h new = (new_to_put key_of o front one (key_of x) (ap is_eq (o.antisymm (key_of one) (key_of x)) ∙ eq_turned (cmp (key_of x) (key_of one)) ∙ new.0) h.0, both xs h.1 new.1)

  -- its key is new to the front: it comes among the back
  pub stages_back : (front back : List X) (one : X) → AreStaged key_of cmp front back → IsNew key_of cmp front (key_of one) → Stages key_of cmp front back one front (with_one key_of cmp back one)
  stages_back front back one h new = record {
    staged = record {
      front_rises = h.front_rises;
      back_rises = rising_one key_of o back one h.back_rises;
      apart = all_append (λ x. IsNew key_of cmp front (key_of x)) _ (one ∷ above key_of cmp (key_of one) back) (all_filter _ _ back h.apart) (new, all_filter _ _ back h.apart);
    };
    merged = all_one key_of o front back one h.back_rises;
  }

  -- a key that stands between the parts is new
  pub new_at_gap : (k : K) (front : List X) → below key_of cmp k front ++ above key_of cmp k front ≡ front → IsNew key_of cmp front k
  new_at_gap k front h =
      let P : List X → Type 0 = λ xs. IsNew key_of cmp xs k in
      subst P h (all_append (λ x. is_eq (cmp (key_of x) k) ≡ false) _ _ (each_weaker _ _ (λ x g. ap is_eq g) _ (low_parts key_of o k front)) (each_weaker _ _ (λ x g. ap is_eq g) _ (high_parts key_of o k front)))

  -- an element of the front has the key: it is new to the back
  pub new_after : (front back : List X) (at : ℕ) (k : K) → at < length front → ((d : X) → cmp (key_of (get_or front at d)) k ≡ Equal) → AllByRecursion (λ x. IsNew key_of cmp front (key_of x)) back → IsNew key_of cmp back k
  new_after front back at k lt same apart =
      each_weaker (λ x. IsNew key_of cmp front (key_of x)) (λ x. is_eq (cmp (key_of x) k) ≡ false) (λ x new.
      let other = All-from_recursion (λ y. is_eq (cmp (key_of y) (key_of x)) ≡ false) front new at x lt in
      ap is_eq (o.antisymm (key_of x) k) ∙ eq_turned (cmp k (key_of x)) ∙ ap is_eq (sym (o.congr (key_of (get_or front at x)) k (key_of x) (same x))) ∙ other) back apart

  -- the same where the two are the parts of one list
  pub list_found : (xs : List X) (front at : ℕ) (one : X) → front ≤ length xs → AreStaged key_of cmp (take front xs) (drop front xs) → IsNew key_of cmp (drop front xs) (key_of one) → at < front →
      set (take front xs) at one ≡ with_one key_of cmp (take front xs) one → Stages key_of cmp (take front xs) (drop front xs) one (take front (set xs at one)) (drop front (set xs at one))
  list_found xs front at one le h new lt e =
      let long : length (take front xs) ≡ front = length-take-le front xs le in
      let split : set xs at one ≡ set (take front xs) at one ++ drop front xs =
      ap (λ (ys : List X). set ys at one) (sym (take-append-drop front xs)) ∙ set-append_left (take front xs) (drop front xs) at one (omega arith) in
      let longer : length (set (take front xs) at one) ≡ front = length-set (take front xs) at one ∙ long in
      let one_front : take front (set xs at one) ≡ with_one key_of cmp (take front xs) one = ap (take front) split ∙ take_at (set (take front xs) at one) (drop front xs) front longer ∙ e in
      let one_back : drop front (set xs at one) ≡ drop front xs = ap (drop front) split ∙ drop_at (set (take front xs) at one) (drop front xs) front longer in
      rw (one_front, one_back) (stages_front (take front xs) (drop front xs) one h new)

  -- a list whose front stays
  list_back : (xs now : List X) (front : ℕ) (one : X) → front ≤ length xs → AreStaged key_of cmp (take front xs) (drop front xs) → IsNew key_of cmp (take front xs) (key_of one) →
      now ≡ take front xs ++ with_one key_of cmp (drop front xs) one → Stages key_of cmp (take front xs) (drop front xs) one (take front now) (drop front now)
  list_back xs now front one le h new e =
      let long : length (take front xs) ≡ front = length-take-le front xs le in
      let one_front : take front now ≡ take front xs = ap (take front) e ∙ take_at (take front xs) _ front long in
      let one_back : drop front now ≡ with_one key_of cmp (drop front xs) one = ap (drop front) e ∙ drop_at (take front xs) _ front long in
      rw (one_front, one_back) (stages_back (take front xs) (drop front xs) one h new)

  pub list_set : (xs : List X) (front at : ℕ) (one : X) → front ≤ length xs → AreStaged key_of cmp (take front xs) (drop front xs) → IsNew key_of cmp (take front xs) (key_of one) →
      set (drop front xs) at one ≡ with_one key_of cmp (drop front xs) one → Stages key_of cmp (take front xs) (drop front xs) one (take front (set xs (front + at) one)) (drop front (set xs (front + at) one))
  list_set xs front at one le h new e =
      let rest : front + at - front ≡ at = omega arith in
      list_back xs (set xs (front + at) one) front one le h new
      (ap (λ (ys : List X). set ys (front + at) one) (sym (take-append-drop front xs))
      ∙ set-append_right (take front xs) (drop front xs) front (front + at) one (length-take-le front xs le) (omega arith)
      ∙ ap (λ (ys : List X). take front xs ++ ys) (ap (λ n. set (drop front xs) n one) rest ∙ e))

  pub list_insert : (xs : List X) (front at : ℕ) (one : X) → front ≤ length xs → AreStaged key_of cmp (take front xs) (drop front xs) → IsNew key_of cmp (take front xs) (key_of one) →
      insert (drop front xs) at one ≡ with_one key_of cmp (drop front xs) one → Stages key_of cmp (take front xs) (drop front xs) one (take front (insert xs (front + at) one)) (drop front (insert xs (front + at) one))
  list_insert xs front at one le h new e =
      let rest : front + at - front ≡ at = omega arith in
      list_back xs (insert xs (front + at) one) front one le h new
      (ap (λ (ys : List X). insert ys (front + at) one) (sym (take-append-drop front xs))
      ∙ insert-append_right (take front xs) (drop front xs) front (front + at) one (length-take-le front xs le) (omega arith)
      ∙ ap (λ (ys : List X). take front xs ++ ys) (ap (λ n. insert (drop front xs) n one) rest ∙ e))
