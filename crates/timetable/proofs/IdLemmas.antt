-- Ids by place, and ids with one more.
use Rattle.std.proofs.Common.{◌≡◌, ◌∙◌, ◌<◌, ◌≤◌, ◌+◌, ◌&&◌, ◌||◌, ℕ, zero, suc, Bool, true, false, cond, not, nat_le, List, [], ◌∷◌, ◌++◌, map, length, slice_get, get_or, position, Some, refl, arith, sym, ap, subst, add-one, add_comm, Option, None}
use Rattle.std.specs.List.{list_all, list_any, prefix_len}
use Rattle.std.specs.Prelude.{IfSome}
use Rattle.std.specs.Str.{bytes_eq, is_utf8}
use Rattle.std.proofs.lemmas.List.{length-map, map-append}
use Rattle.std.proofs.lemmas.Str.{is_utf8-from_IsUtf8, IsUtf8-from_is_utf8}
use Rattle.std.specs.String.{string_bytes, string_eq}
use Rattle.std.specs.Prelude.{String, IsUtf8}
use Rattle.indexmap.specs.IndexSet.{insert_key}
use Rattle.std.proofs.lemmas.List.Folds.{list_all-append, list_any-append}
use Rattle.std.proofs.lemmas.Slice.Eq.{bytes_eq-Decides}
use Rattle.std.proofs.lemmas.Bool.{leb-true, lt-ltb, false≢true}
use Rattle.std.proofs.lemmas.Option.{slice_get_within, slice_get-get_or}
use Rattle.std.proofs.lemmas.List.Quantifiers.{position-Some}
use Rattle.std.proofs.Math.Bool.{and-false, or-true}
use Rattle.std.specs.Cmp.{both_ways}
use Rattle.std.specs.Cmp.Derive.{both_true}
use Rattle.timetable.specs.Ids.{are_distinct, are_ids, has_id, has_id_len, is_id}
use Rattle.timetable.specs.Limits.{id_limit, number_limit}

pub bytes_eq-refl : (id : List ℕ) → bytes_eq id id ≡ true
bytes_eq-refl id = (bytes_eq-Decides id id).1 refl

-- a test of the images is that of the values
prefix_len-map : {A B : Type 0} (test : B → Bool) (f : A → B) (xs : List A)
    → prefix_len test (map f xs) ≡ prefix_len (λ x. test (f x)) xs
prefix_len-map test f [] = refl
prefix_len-map test f (x ∷ xs) = ap (λ n. cond (test (f x)) (1 + n) 0) (prefix_len-map test f xs)

pub position-map : {A B : Type 0} (test : B → Bool) (f : A → B) (xs : List A)
    → position test (map f xs) ≡ position (λ x. test (f x)) xs
position-map test f xs = rw (prefix_len-map (λ y. not (test y)) f xs, length-map xs f) refl

pub list_any-map : {A B : Type 0} (test : B → Bool) (f : A → B) (xs : List A)
    → list_any test (map f xs) ≡ list_any (λ x. test (f x)) xs
list_any-map test f [] = refl
list_any-map test f (x ∷ xs) = ap (λ b. test (f x) || b) (list_any-map test f xs)

pub and-left : (a b : Bool) → (a && b) ≡ true → a ≡ true
and-left true b h = refl
and-left false b h = h

pub and-right : (a b : Bool) → (a && b) ≡ true → b ≡ true
and-right true b h = h
and-right false b h = absurd (false≢true h)

-- what holds of all holds at each place
pub all-at : {A : Type 0} (test : A → Bool) (xs : List A) (place : ℕ) (x : A) → list_all test xs ≡ true
    → slice_get xs place ≡ Some x → test x ≡ true
all-at test [] place x all at = cc
all-at test (first ∷ xs) zero x all at = let same : first ≡ x = cc in rw (← same) (and-left (test first) _ all)
all-at test (first ∷ xs) (suc place) x all at = all-at test xs place x (and-right (test first) _ all) at

-- an id at a place is one
pub id-at : (ids : List (List ℕ)) (place : ℕ) (id : List ℕ) → list_all is_id ids ≡ true
    → slice_get ids place ≡ Some id → is_id id ≡ true
id-at [] place id all at = cc
id-at (first ∷ ids) zero id all at = let same : first ≡ id = cc in subst (λ t. is_id t ≡ true) same (and-left _ _ all)
id-at (first ∷ ids) (suc place) id all at = id-at ids place id (and-right _ _ all) at

pub has-at : (ids : List (List ℕ)) (place : ℕ) (id : List ℕ) → slice_get ids place ≡ Some id → has_id id ids ≡ true
has-at [] place id at = cc
has-at (first ∷ ids) zero id at =
    let same : first ≡ id = cc in rw (same, bytes_eq-refl id) refl
has-at (first ∷ ids) (suc place) id at = rw (has-at ids place id at) (or-true (bytes_eq id first))

-- an id of a list is not one that the list lacks
pub lacked : (first id : List ℕ) (ids : List (List ℕ)) → not (has_id first ids) ≡ true → has_id id ids ≡ true
    → bytes_eq id first ≡ false
lacked first id ids lacks has = by (bytes_eq id first) refl
  where
    by : (b : Bool) → bytes_eq id first ≡ b → b ≡ false
    by false e = refl
    by true e = let same : id ≡ first = (bytes_eq-Decides id first).0 e in
        absurd (false≢true (rw (← same, has) at lacks))

first-place : (ids : List (List ℕ)) (place : ℕ) (id : List ℕ) → are_distinct ids ≡ true → slice_get ids place ≡ Some id
    → prefix_len (λ other. not (bytes_eq id other)) ids ≡ place
first-place [] place id distinct at = cc
first-place (first ∷ ids) zero id distinct at =
    let same : first ≡ id = cc in rw (same, bytes_eq-refl id) refl
first-place (first ∷ ids) (suc place) id distinct at =
    let other = lacked first id ids (and-left _ _ distinct) (has-at ids place id at) in
    let later : prefix_len (λ x. not (bytes_eq id x)) ids ≡ place =
    first-place ids place id (and-right _ _ distinct) at in
    rw (other, later) (add_comm 1 place ∙ add-one place)

-- where no id stands twice, the place of the id at a place is that place
pub place-of-id : (ids : List (List ℕ)) (place : ℕ) (id : List ℕ) → are_distinct ids ≡ true
    → slice_get ids place ≡ Some id
    → position (bytes_eq id) ids ≡ Some place
place-of-id ids place id distinct at =
    let within : place < length ids = slice_get_within ids place id at in
    rw (first-place ids place id distinct at, lt-ltb place (length ids) within) refl

-- ---- one more id

pub bytes_eq-flips : (a b : List ℕ) → bytes_eq a b ≡ bytes_eq b a
bytes_eq-flips a b =
    both_ways _ _ (λ e. (bytes_eq-Decides b a).1 (sym ((bytes_eq-Decides a b).0 e)))
    (λ e. (bytes_eq-Decides a b).1 (sym ((bytes_eq-Decides b a).0 e)))

regroup : (h e d g : Bool) → (not (h || (e || false)) && (d && not g)) ≡ ((not h && d) && not (e || g))
regroup true e d g = refl
regroup false true true g = refl
regroup false true false g = refl
regroup false false true g = refl
regroup false false false g = refl

are_distinct-push : (ids : List (List ℕ)) (id : List ℕ)
    → are_distinct (ids ++ id ∷ []) ≡ (are_distinct ids && not (has_id id ids))
are_distinct-push [] id = refl
are_distinct-push (first ∷ ids) id =
    rw (are_distinct-push ids id, list_any-append (bytes_eq first) ids (id ∷ []), bytes_eq-flips first id)
    (regroup (has_id first ids) (bytes_eq id first) (are_distinct ids) (has_id id ids))

push-both : (all distinct is new : Bool) → (all && distinct) ≡ true
    → ((all && (is && true)) && (distinct && new)) ≡ (is && new)
push-both true true true new h = refl
push-both true true false new h = refl
push-both true false is new h = absurd (false≢true h)
push-both false distinct is new h = absurd (false≢true h)

-- ids with one more are ids exactly where that is an id which they lack
pub are_ids-push : (ids : List (List ℕ)) (id : List ℕ) → are_ids ids ≡ true
    → are_ids (ids ++ id ∷ []) ≡ (is_id id && not (has_id id ids))
are_ids-push ids id good =
    rw (list_all-append is_id ids (id ∷ []), are_distinct-push ids id)
    (push-both (list_all is_id ids) (are_distinct ids) (is_id id) (not (has_id id ids)) good)

-- ---- the limits of an id at a place

pub id-at-has-bytes : (ids : List (List ℕ)) (place : ℕ) (id : List ℕ) → are_ids ids ≡ true
    → slice_get ids place ≡ Some id → 1 ≤ length id
id-at-has-bytes ids place id good at =
    let sound = id-at ids place id (and-left _ _ good) at in
    leb-true 1 (length id)
    (and-left (nat_le 1 (length id)) (nat_le (length id) id_limit) (and-left (has_id_len id) (is_utf8 id) sound))

pub id-at-is-short : (ids : List (List ℕ)) (place : ℕ) (id : List ℕ) → are_ids ids ≡ true
    → slice_get ids place ≡ Some id → length id ≤ id_limit
id-at-is-short ids place id good at =
    let sound = id-at ids place id (and-left _ _ good) at in
    leb-true (length id) id_limit
    (and-right (nat_le 1 (length id)) (nat_le (length id) id_limit) (and-left (has_id_len id) (is_utf8 id) sound))

-- the place of an id that stands at a place is that place
pub place-of-id-at : (ids : List (List ℕ)) (place : ℕ) (id : List ℕ) → are_ids ids ≡ true
    → slice_get ids place ≡ Some id
    → position (bytes_eq id) ids ≡ Some place
place-of-id-at ids place id good at =
    place-of-id ids place id (and-right (list_all is_id ids) (are_distinct ids) good) at

-- ---- what a test of some bytes tells

pub id-from-text : (id : List ℕ) → has_id_len id ≡ true → IsUtf8 id → is_id id ≡ true
id-from-text id some text = both_true some (is_utf8-from_IsUtf8 id text)

pub no-text-no-id : (id : List ℕ) (b : Bool) → (IsUtf8 id → ⊥) → false ≡ (is_id id && b)
no-text-no-id id b text = by (is_utf8 id) refl
  where
    by : (u : Bool) → is_utf8 id ≡ u → false ≡ (is_id id && b)
    by false e = rw (e, and-false (has_id_len id)) refl
    by true e = absurd (text (IsUtf8-from_is_utf8 id e))

-- ---- a set of texts

module _ {Z : Type 0} (key : String Z) (keys : List (String Z)) where
  -- the set lacks a text exactly where the ids lack its bytes
  pub lacks-text : (id : List ℕ) → string_bytes key ≡ id
      → list_any (string_eq key) keys ≡ has_id id (map string_bytes keys)
  lacks-text id same = rw (← same) (sym (list_any-map (bytes_eq (string_bytes key)) string_bytes keys))

  -- ids with one more text that is one are ids
  pub are_ids-insert : are_ids (map string_bytes keys) ≡ true → is_id (string_bytes key) ≡ true
      → are_ids (map string_bytes (insert_key string_eq keys key)) ≡ true
  are_ids-insert good sound = by (list_any (string_eq key) keys) refl
    where
      by : (b : Bool) → list_any (string_eq key) keys ≡ b
          → are_ids (map string_bytes (cond b keys (keys ++ key ∷ []))) ≡ true
      by true e = good
      by false e =
          rw (
            map-append string_bytes keys (key ∷ []),
            are_ids-push (map string_bytes keys) (string_bytes key) good,
            sound,
            ← lacks-text (string_bytes key) refl,
            e,
          ) refl

-- ---- the number of an id

pub not-false : (a : Bool) → not a ≡ true → a ≡ false
not-false true h = sym h
not-false false h = refl

-- an id that has a place stands there
pub id-of-place : (ids : List (List ℕ)) (place : ℕ) (id : List ℕ) → position (bytes_eq id) ids ≡ Some place
    → slice_get ids place ≡ Some id
id-of-place ids place id at =
    let found = position-Some (bytes_eq id) ids place [] at in
    let same : id ≡ get_or ids place [] = (bytes_eq-Decides id (get_or ids place [])).0 found.1 in
    slice_get-get_or ids place [] found.0 ∙ ap Some (sym same)

pub one-more : (before after : ℕ) (added : Bool) → after ≡ before + cond added 1 0 → before < number_limit
    → after ≤ number_limit
one-more before after true is few = omega arith
one-more before after false is few = omega arith

-- the id after others has the next number
pub id-after : (ids : List (List ℕ)) (id : List ℕ) → slice_get (ids ++ id ∷ []) (length ids) ≡ Some id
id-after [] id = refl
id-after (first ∷ ids) id = id-after ids id

-- where an id is found it stands
pub at-place : (ids : List (List ℕ)) (found : Option ℕ) (id : List ℕ) → found ≡ position (bytes_eq id) ids
    → IfSome found (λ place. slice_get ids place ≡ Some id)
at-place ids (Some place) id is = id-of-place ids place id (sym is)
at-place ids None id is = tt
