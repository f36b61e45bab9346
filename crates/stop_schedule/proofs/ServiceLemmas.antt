-- What is held of services by their numbers, after one more row.
use Rattle.std.proofs.Common.{◌≡◌, ◌∙◌, ◌<◌, ◌≤◌, Bool, true, false, cond, ℕ, zero, suc, nat_eq, List, [], ◌∷◌, ◌++◌, map, length, slice_get, Option, Some, None, refl, ap, sym, arith, length-append}
use Rattle.std.specs.Str.{bytes_eq}
use Rattle.std.proofs.lemmas.Bool.{false≢true}
use Rattle.std.proofs.lemmas.Bool.Decides.{nat_tests}
use Rattle.std.proofs.lemmas.Slice.Eq.{bytes_eq-Decides}
use Rattle.std.proofs.lemmas.List.Folds.{list_any-append}
use Rattle.std.proofs.lemmas.Option.{slice_get_within}
use Rattle.stop_schedule.specs.Holding.{AreNumbers, Extends}
use Rattle.timetable.specs.Ids.{are_distinct, has_id, with_id}
use Rattle.timetable.proofs.IdLemmas.{id-after, place-of-id}

-- ---- ids with one more

pub front-at : (ids more : List (List ℕ)) (n : ℕ) (id : List ℕ) → slice_get ids n ≡ Some id
    → slice_get (ids ++ more) n ≡ Some id
front-at [] more n id at = cc
front-at (first ∷ ids) more zero id at = at
front-at (first ∷ ids) more (suc n) id at = front-at ids more n id at

at-front : (ids : List (List ℕ)) (last id : List ℕ) (n : ℕ) → slice_get (ids ++ last ∷ []) n ≡ Some id
    → (n ≡ length ids → ⊥) → slice_get ids n ≡ Some id
at-front [] last id zero at apart = absurd (apart refl)
at-front [] last id (suc n) at apart = at
at-front (first ∷ ids) last id zero at apart = at
at-front (first ∷ ids) last id (suc n) at apart = at-front ids last id n at (λ same. apart (ap (λ k. suc k) same))

pub extends-with : (ids : List (List ℕ)) (id : List ℕ) → Extends ids (with_id id ids)
extends-with ids id = by (has_id id ids)
  where
    by : (b : Bool) (n : ℕ) (other : List ℕ) → slice_get ids n ≡ Some other
        → slice_get (cond b ids (ids ++ id ∷ [])) n ≡ Some other
    by true n other at = at
    by false n other at = front-at ids (id ∷ []) n other at

one-number : (ids : List (List ℕ)) (a b : ℕ) (id : List ℕ) → are_distinct ids ≡ true → slice_get ids a ≡ Some id
    → slice_get ids b ≡ Some id → a ≡ b
one-number ids a b id distinct one two =
    let first = place-of-id ids a id distinct one in
    let second = place-of-id ids b id distinct two in
    cc (first, second)

pub has-grown : (ids : List (List ℕ)) (id other : List ℕ) → has_id other ids ≡ true
    → has_id other (with_id id ids) ≡ true
has-grown ids id other has = by (has_id id ids)
  where
    by : (b : Bool) → has_id other (cond b ids (ids ++ id ∷ [])) ≡ true
    by true = has
    by false = rw (list_any-append (bytes_eq other) ids (id ∷ []), has) refl

-- ---- numbers of names

pub numbers-grow : (ids more : List (List ℕ)) (numbers : List ℕ) (names : List (List ℕ)) → Extends ids more
    → AreNumbers ids numbers names → AreNumbers more numbers names
numbers-grow ids more [] [] extends are = refl
numbers-grow ids more [] (name ∷ names) extends are = cc
numbers-grow ids more (number ∷ numbers) [] extends are = cc
numbers-grow ids more (number ∷ numbers) (name ∷ names) extends are =
    let head : slice_get ids number ≡ Some name = cc in
    let tail : map (slice_get ids) numbers ≡ map Some names = cc in
    ap (λ o. o ∷ map (slice_get more) numbers) (extends number name head)
    ∙ ap (λ rest. Some name ∷ rest) (numbers-grow ids more numbers names extends tail)

-- ---- what numbers and names agree on

module _ {V : Type 0} (services : List (List ℕ)) (id : List ℕ) (number : ℕ)
    (distinct : are_distinct (with_id id services) ≡ true)
    (numbered : slice_get (with_id id services) number ≡ Some id) (at : ℕ → Option V) (of : List ℕ → Option V)
    (inside : (n : ℕ) (service : List ℕ) → slice_get services n ≡ Some service → at n ≡ of service)
    (outside : (n : ℕ) → length services ≤ n → at n ≡ None)
    (lacking : has_id id services ≡ false → of id ≡ None) where
  now-by : (b : Bool) → has_id id services ≡ b → slice_get (cond b services (services ++ id ∷ [])) number ≡ Some id
      → are_distinct (cond b services (services ++ id ∷ [])) ≡ true → at number ≡ of id
  now-by true e numbered' distinct' = inside number id numbered'
  now-by false e numbered' distinct' =
      let last : number ≡ length services =
      one-number (services ++ id ∷ []) number (length services) id distinct' numbered' (id-after services id) in
      outside number (omega (arith, last)) ∙ sym (lacking e)

  -- the two agree on the service
  pub agree-now : at number ≡ of id
  agree-now = now-by (has_id id services) refl numbered distinct

  old-by : (b : Bool) → has_id id services ≡ b → slice_get (cond b services (services ++ id ∷ [])) number ≡ Some id
      → are_distinct (cond b services (services ++ id ∷ [])) ≡ true
      → (n : ℕ) (service : List ℕ) → slice_get (cond b services (services ++ id ∷ [])) n ≡ Some service
      → nat_eq number n ≡ false → slice_get services n ≡ Some service
  old-by true e numbered' distinct' n service found apart = found
  old-by false e numbered' distinct' n service found apart =
      let last : number ≡ length services =
      one-number (services ++ id ∷ []) number (length services) id distinct' numbered' (id-after services id) in
      at-front services id service n found
      (λ same. absurd (false≢true (let e : false ≡ true = grind (arith, nat_tests, apart, last, same) in e)))

  other-name : (n : ℕ) (service : List ℕ) → slice_get (with_id id services) n ≡ Some service → nat_eq number n ≡ false
      → bytes_eq service id ≡ false
  other-name n service found apart = by (bytes_eq service id) refl
    where
      by : (b : Bool) → bytes_eq service id ≡ b → b ≡ false
      by false e = refl
      by true e =
          let same : service ≡ id = (bytes_eq-Decides service id).0 e in
          let one : number ≡ n = one-number (with_id id services) number n id distinct numbered (rw same at found) in
          let t : false ≡ true = grind (arith, nat_tests, apart, one) in
          sym t

  module _ (at' : ℕ → Option V) (of' : List ℕ → Option V) (now : at' number ≡ of' id)
      (others : (n : ℕ) → nat_eq number n ≡ false → at' n ≡ at n)
      (names : (service : List ℕ) → bytes_eq service id ≡ false → of' service ≡ of service) where
    -- they agree on all services after the change
    pub agree : (n : ℕ) (service : List ℕ) → slice_get (with_id id services) n ≡ Some service → at' n ≡ of' service
    agree n service found = by (nat_eq number n) refl
      where
        by : (b : Bool) → nat_eq number n ≡ b → at' n ≡ of' service
        by true e =
            let same : number ≡ n = grind (arith, nat_tests, e) in
            let named : Some id ≡ Some service = sym numbered ∙ ap (slice_get (with_id id services)) same ∙ found in
            let one : id ≡ service = cc (named) in
            ap at' (sym same) ∙ now ∙ ap of' one
        by false e =
            others n e ∙ inside n service (old-by (has_id id services) refl numbered distinct n service found e)
            ∙ sym (names service (other-name n service found e))

    longer : length services ≤ length (with_id id services)
    longer = by (has_id id services)
      where
        by : (b : Bool) → length services ≤ length (cond b services (services ++ id ∷ []))
        by true = omega arith
        by false = rw (length-append services (id ∷ [])) (omega arith)

    pub still-outside : (n : ℕ) → length (with_id id services) ≤ n → at' n ≡ None
    still-outside n past =
        let within : number < length (with_id id services) =
        slice_get_within (with_id id services) number id numbered in
        let apart : nat_eq number n ≡ false = grind (arith, nat_tests, within, past) in
        let more = longer in
        others n apart ∙ outside n (omega (arith, more, past))
