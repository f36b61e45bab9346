-- What is kept of each key while more is admitted.
use Rattle.std.proofs.Common.{◌≡◌, ◌∙◌, ◌++◌, ◌∷◌, ◌||◌, [], ℕ, suc, Bool, true, false, cond, not, List, map, Option, Some, None, option_map, ap, sym, refl, subst, Result, Ok, Err}
use Rattle.std.proofs.lemmas.Bool.{and_parts, both_ways}
use Rattle.std.proofs.lemmas.Cmp.{eq_by_cmp_equiv}
use Rattle.std.proofs.lemmas.Option.{none-some, same_Some}
use Rattle.std.proofs.lemmas.List.{append-nil, append_assoc}
use Rattle.std.proofs.lemmas.List.Elements.{filter-append, filter_map-append}
use Rattle.std.specs.Prelude.{filter, find, is_some, length, nat_lt}
use Rattle.std.specs.List.{AllByRecursion, list_all, list_any}
use Rattle.std.specs.Ordering.{is_eq, is_gt, is_lt}
use Rattle.std.specs.Result.{result_ok}
use Rattle.std.specs.declared.cmp.Ordering.{Ordering}
use Rattle.feed_index.specs.Order.{above, below, with_one}
use Rattle.gw_base.proofs.Elements.{all_append, all_filter}
use Rattle.journey_model.specs.declared.fault.Fault.{Fault}
use Rattle.journey_model.specs.declared.fault.Fault.TheVariants.{Full}
use Rattle.latest_store.specs.Latest.{HasLatestOf}
use Rattle.gateway_core.specs.Arrivals.{has_room}
use Rattle.gateway_core.specs.Deliveries.{taken}
use Rattle.gateway_core.specs.Feeds.{are_ordered_by}
use Rattle.gateway_core.specs.Keeping.{AreLatest, Keeps, at_key}
use Rattle.gateway_core.specs.Taking.{with_room}
use Rattle.gateway_core.specs.Winners.{IsKeyed, counts_by}
use Rattle.gateway_core.proofs.HeldLemmas.{all_among}
use Rattle.gateway_core.proofs.LatestLemmas.{key_is, latest_put, latest_same, none_after, own, room_is}
use Rattle.gateway_core.proofs.OrderedLemmas.{map-put, some_found}
use Rattle.gateway_core.proofs.RollLemmas.{all_with_room, filter_all}

-- ---- what has room, verdict by verdict

module _ {A : Type 0} (is_same : A → A → Bool) (counts : A → Bool) (limit : ℕ) where
  abbrev pub roomy : List A → List (Result A Fault) → List (Result A Fault)
  roomy before verdicts = with_room is_same counts limit before verdicts

  -- those so far, and then the others
  pub roomy-append : (before : List A) (first others : List (Result A Fault))
      → roomy before (first ++ others) ≡ roomy before first ++ roomy (before ++ taken (roomy before first)) others
  roomy-append before [] others = ap (λ (b : List A). roomy b others) (sym (append-nil before))
  roomy-append before (Err fault ∷ first) others = ap (λ (rest : List (Result A Fault)). Err fault ∷ rest) (roomy-append before first others)
  roomy-append before (Ok one ∷ first) others =
      by (has_room is_same counts limit before one) (roomy-append (before ++ one ∷ []) first others) (roomy-append before first others)
    where
      by : (b : Bool)
          → roomy (before ++ one ∷ []) (first ++ others) ≡ roomy (before ++ one ∷ []) first ++ roomy ((before ++ one ∷ []) ++ taken (roomy (before ++ one ∷ []) first)) others
          → roomy before (first ++ others) ≡ roomy before first ++ roomy (before ++ taken (roomy before first)) others
          → cond b (Ok one ∷ roomy (before ++ one ∷ []) (first ++ others)) (Err Full ∷ roomy before (first ++ others))
          ≡ cond b (Ok one ∷ roomy (before ++ one ∷ []) first) (Err Full ∷ roomy before first)
          ++ roomy (before ++ taken (cond b (Ok one ∷ roomy (before ++ one ∷ []) first) (Err Full ∷ roomy before first))) others
      by true e f =
          ap (λ (rest : List (Result A Fault)). Ok one ∷ rest)
          (e ∙ ap (λ (b : List A). roomy (before ++ one ∷ []) first ++ roomy b others) (append_assoc before (one ∷ []) (taken (roomy (before ++ one ∷ []) first))))
      by false e f = ap (λ (rest : List (Result A Fault)). Err Full ∷ rest) f

  abbrev pub now_admitted : List A → List (Result A Fault) → List A
  now_admitted before so_far = before ++ taken (roomy before so_far)

  pub roomy_aside : (before : List A) (so_far : List (Result A Fault)) (fault : Fault) → roomy before (so_far ++ Err fault ∷ []) ≡ roomy before so_far ++ Err fault ∷ []
  roomy_aside before so_far fault = roomy-append before so_far (Err fault ∷ [])

  pub roomy_taken : (before : List A) (so_far : List (Result A Fault)) (one : A) → has_room is_same counts limit (now_admitted before so_far) one ≡ true
      → roomy before (so_far ++ Ok one ∷ []) ≡ roomy before so_far ++ Ok one ∷ []
  roomy_taken before so_far one room =
      roomy-append before so_far (Ok one ∷ []) ∙ ap (λ (b : Bool). roomy before so_far ++ cond b (Ok one ∷ []) (Err Full ∷ [])) room

  pub roomy_full : (before : List A) (so_far : List (Result A Fault)) (one : A) → has_room is_same counts limit (now_admitted before so_far) one ≡ false
      → roomy before (so_far ++ Ok one ∷ []) ≡ roomy before so_far ++ Err Full ∷ []
  roomy_full before so_far one full =
      roomy-append before so_far (Ok one ∷ []) ∙ ap (λ (b : Bool). roomy before so_far ++ cond b (Ok one ∷ []) (Err Full ∷ [])) full

taken_more : {A : Type 0} (verdicts : List (Result A Fault)) (one : A) → taken (verdicts ++ Ok one ∷ []) ≡ taken verdicts ++ one ∷ []
taken_more {A} verdicts one = filter_map-append (λ (verdict : Result A Fault). result_ok verdict) verdicts (Ok one ∷ [])

taken_same : {A : Type 0} (verdicts : List (Result A Fault)) (fault : Fault) → taken (verdicts ++ Err fault ∷ []) ≡ taken verdicts
taken_same {A} verdicts fault = filter_map-append (λ (verdict : Result A Fault). result_ok verdict) verdicts (Err fault ∷ []) ∙ append-nil (taken verdicts)

-- ---- entries

module _ {A Q E : Type 0} (cmp : Q → Q → Ordering) (key_of : A → Q) (is_its : Q → A → Bool) (is_later : A → A → Bool)
    (keyed : IsKeyed cmp key_of is_its is_later) (comes_before : A → A → Bool)
    (by_key : (a b : A) → comes_before a b ≡ is_lt (cmp (key_of a) (key_of b)))
    (entry : A → E) (good : A → Type 0) (key_in : E → Q) (its_key : (a : A) → key_in (entry a) ≡ key_of a) where
  abbrev IsKept : List A → List E → Type 0
  IsKept all entries = Keeps is_its is_later comes_before entry good all entries

  pub keeps_none : IsKept [] []
  keeps_none = record { ordered = []; are_latest = record { in_order = refl; latest = λ q. refl }; entries_are = refl; all_good = tt }

  -- what is found at a key
  entry_found : (q : Q) (xs : List A) → at_key key_in cmp (map entry xs) q ≡ option_map entry (find (is_its q) xs)
  entry_found q [] = refl
  entry_found q (x ∷ xs) = by (is_its q x) same (entry_found q xs)
    where
      same : is_eq (cmp (key_in (entry x)) q) ≡ is_its q x
      same =
          ap (λ (key : Q). is_eq (cmp key q)) (its_key x) ∙ (eq_by_cmp_equiv keyed.total).symm (key_of x) q ∙ sym (keyed.its q x)

      by : (b : Bool) → is_eq (cmp (key_in (entry x)) q) ≡ b → at_key key_in cmp (map entry xs) q ≡ option_map entry (find (is_its q) xs)
          → at_key key_in cmp (map entry (x ∷ xs)) q ≡ option_map entry (cond b (Some x) (find (is_its q) xs))
      by true e rest = rw e refl
      by false e rest = rw e rest

  found_in : (all : List A) (entries : List E) (h : IsKept all entries) (q : Q) → at_key key_in cmp entries q ≡ option_map entry (find (is_its q) h.ordered)
  found_in all entries h q = ap (λ (es : List E). at_key key_in cmp es q) h.entries_are ∙ entry_found q h.ordered

  module _ (later_than : E → A → Bool) (later_is : (old one : A) → later_than (entry old) one ≡ is_later old one) where
    -- one that arrives counts where what is kept of its key isn't later
    abbrev pub counts_over : Option E → A → Bool
    counts_over None one = true
    counts_over (Some old) one = not (later_than old one)

    counts_is : (all : List A) (entries : List E) (h : IsKept all entries) (one : A)
        → counts_over (at_key key_in cmp entries (key_of one)) one ≡ counts_by is_later (find (is_its (key_of one)) h.ordered) one
    counts_is all entries h one = ap (λ (found : Option E). counts_over found one) (found_in all entries h (key_of one)) ∙ by (find (is_its (key_of one)) h.ordered)
      where
        by : (found : Option A) → counts_over (option_map entry found) one ≡ counts_by is_later found one
        by None = refl
        by (Some old) = ap not (later_is old one)

    -- one more that counts is put at its key
    pub keeps_put : (all : List A) (entries : List E) (one : A) → IsKept all entries → counts_over (at_key key_in cmp entries (key_of one)) one ≡ true → good one
        → IsKept (all ++ one ∷ []) (with_one key_in cmp entries (entry one))
    keeps_put all entries one h won its_good = record {
      ordered = with_one key_of cmp h.ordered one;
      are_latest = latest_put cmp key_of is_its is_later keyed comes_before by_key all h.ordered one h.are_latest (sym (counts_is all entries h one) ∙ won);
      entries_are =
          ap (λ (es : List E). with_one key_in cmp es (entry one)) h.entries_are
          ∙ sym (map-put cmp key_of is_its is_later keyed comes_before by_key entry key_in its_key h.ordered one);
      all_good =
          all_append good (below key_of cmp (key_of one) h.ordered) (one ∷ above key_of cmp (key_of one) h.ordered)
          (all_filter good (λ x. is_lt (cmp (key_of x) (key_of one))) h.ordered h.all_good)
          (its_good, all_filter good (λ x. is_gt (cmp (key_of x) (key_of one))) h.ordered h.all_good);
    }

    -- one more that doesn't count changes nothing
    pub keeps_same : (all : List A) (entries : List E) (one : A) → IsKept all entries → counts_over (at_key key_in cmp entries (key_of one)) one ≡ false
        → IsKept (all ++ one ∷ []) entries
    keeps_same all entries one h lost = record {
      ordered = h.ordered;
      are_latest = latest_same cmp key_of is_its is_later keyed comes_before by_key all h.ordered one h.are_latest (sym (counts_is all entries h one) ∙ lost);
      entries_are = h.entries_are;
      all_good = h.all_good;
    }

  length-map : (xs : List A) → length (map entry xs) ≡ length xs
  length-map [] = refl
  length-map (x ∷ xs) = ap (λ (n : ℕ). suc n) (length-map xs)

  -- where one has room that arrives: one of its key is kept, or fewer are than the limit
  pub keeps_room : (counts : A → Bool) (passes : Q → Bool) (limit : ℕ) (before : List A) (entries : List E) (one : A) → ((a : A) → counts a ≡ passes (key_of a))
      → counts one ≡ true → IsKept (filter counts before) entries
      → has_room (λ a b. is_its (key_of a) b) counts limit before one ≡ (is_some (at_key key_in cmp entries (key_of one)) || nat_lt (length entries) limit)
  keeps_room counts passes limit before entries one same within h =
      room_is cmp key_of is_its is_later keyed comes_before by_key counts passes limit before h.ordered one same within h.are_latest
      ∙ ap (λ (n : ℕ). is_some (find (is_its (key_of one)) h.ordered) || nat_lt n limit) (sym (ap length h.entries_are ∙ length-map h.ordered))
      ∙ ap (λ (b : Bool). b || nat_lt (length entries) limit) (by (find (is_its (key_of one)) h.ordered) ∙ sym (ap is_some (found_in (filter counts before) entries h (key_of one))))
    where
      by : (found : Option A) → is_some found ≡ is_some (option_map entry found)
      by None = refl
      by (Some old) = refl

  -- what holds of all holds of what is kept
  pub all_latest : (P : A → Type 0) (all xs : List A) → AreLatest is_its is_later comes_before all xs → AllByRecursion P all → AllByRecursion P xs
  all_latest P all xs h holds = each_found xs h.in_order (λ q x e. of (find (is_its q) xs) q (h.latest q) x e)
    where
      of : (found : Option A) (q : Q) → HasLatestOf (is_its q) is_later all found → (x : A) → found ≡ Some x → P x
      of None q none x e = absurd (none-some x e)
      of (Some one) q l x e = subst P (same_Some one x e) (all_among P l.before one l.after (subst (AllByRecursion P) l.among holds))

      each_found : (xs : List A) → are_ordered_by comes_before xs ≡ true → ((q : Q) (x : A) → find (is_its q) xs ≡ Some x → P x) → AllByRecursion P xs
      each_found [] order f = tt
      each_found (x ∷ xs) order f =
          let both = and_parts (list_all (comes_before x) xs) (are_ordered_by comes_before xs) order in (
            f (key_of x) x (ap (λ (b : Bool). cond b (Some x) (find (is_its (key_of x)) xs)) (own cmp key_of is_its is_later keyed comes_before by_key x)),
            each_found xs both.1 (λ q y e. f q y (by q y (is_its q x) refl both.0 e)),
          )
        where
          by : (q : Q) (y : A) (b : Bool) → is_its q x ≡ b → list_all (comes_before x) xs ≡ true → find (is_its q) xs ≡ Some y → cond b (Some x) (find (is_its q) xs) ≡ Some y
          by q y false its before e = e
          by q y true its before e =
              let none : list_any (is_its q) xs ≡ false =
              ap (λ (key : Q). list_any (is_its key) xs) (key_is cmp key_of is_its is_later keyed comes_before by_key q x its) ∙ none_after cmp key_of is_its is_later keyed comes_before by_key x xs before in
              absurd (both_ways (list_any (is_its q) xs) none (some_found (is_its q) xs y e))

  -- ---- a delivery's verdicts, one by one

  module _ (counts : A → Bool) (passes : Q → Bool) (same : (a : A) → counts a ≡ passes (key_of a)) (limit : ℕ) (before : List A) where
    abbrev pub is_same : A → A → Bool
    is_same a b = is_its (key_of a) b

    -- entries are those of what counts of before and of what so far has room
    abbrev pub KeepsAfter : List (Result A Fault) → List E → Type 0
    KeepsAfter so_far entries = IsKept (filter counts before ++ taken (roomy is_same counts limit before so_far)) entries

    pub after_none : (entries : List E) → IsKept (filter counts before) entries → KeepsAfter [] entries
    after_none entries h = subst (λ (all : List A). IsKept all entries) (sym (append-nil (filter counts before))) h

    after_same : (so_far more : List (Result A Fault)) (entries : List E) → taken (roomy is_same counts limit before more) ≡ taken (roomy is_same counts limit before so_far)
        → KeepsAfter so_far entries → KeepsAfter more entries
    after_same so_far more entries e h = subst (λ (new : List A). IsKept (filter counts before ++ new) entries) (sym e) h

    pub after_aside : (so_far : List (Result A Fault)) (fault : Fault) (entries : List E) → KeepsAfter so_far entries → KeepsAfter (so_far ++ Err fault ∷ []) entries
    after_aside so_far fault entries h =
        after_same so_far (so_far ++ Err fault ∷ []) entries
        (ap (λ (vs : List (Result A Fault)). taken vs) (roomy_aside is_same counts limit before so_far fault) ∙ taken_same (roomy is_same counts limit before so_far) fault) h

    pub after_full : (so_far : List (Result A Fault)) (one : A) (entries : List E) → has_room is_same counts limit (now_admitted is_same counts limit before so_far) one ≡ false
        → KeepsAfter so_far entries → KeepsAfter (so_far ++ Ok one ∷ []) entries
    after_full so_far one entries full h =
        after_same so_far (so_far ++ Ok one ∷ []) entries
        (ap (λ (vs : List (Result A Fault)). taken vs) (roomy_full is_same counts limit before so_far one full) ∙ taken_same (roomy is_same counts limit before so_far) Full) h

    one_more : (so_far : List (Result A Fault)) (one : A) (entries : List E) → has_room is_same counts limit (now_admitted is_same counts limit before so_far) one ≡ true
        → IsKept ((filter counts before ++ taken (roomy is_same counts limit before so_far)) ++ one ∷ []) entries → KeepsAfter (so_far ++ Ok one ∷ []) entries
    one_more so_far one entries room h =
        subst (λ (all : List A). IsKept all entries)
        (append_assoc (filter counts before) (taken (roomy is_same counts limit before so_far)) (one ∷ [])
        ∙ ap (λ (new : List A). filter counts before ++ new)
        (sym (ap (λ (vs : List (Result A Fault)). taken vs) (roomy_taken is_same counts limit before so_far one room) ∙ taken_more (roomy is_same counts limit before so_far) one))) h

    module _ (later_than : E → A → Bool) (later_is : (old one : A) → later_than (entry old) one ≡ is_later old one) where
      pub after_won : (so_far : List (Result A Fault)) (one : A) (entries : List E) → has_room is_same counts limit (now_admitted is_same counts limit before so_far) one ≡ true
          → counts_over later_than later_is (at_key key_in cmp entries (key_of one)) one ≡ true → good one → KeepsAfter so_far entries
          → KeepsAfter (so_far ++ Ok one ∷ []) (with_one key_in cmp entries (entry one))
      after_won so_far one entries room won its_good h =
          one_more so_far one (with_one key_in cmp entries (entry one)) room
          (keeps_put later_than later_is (filter counts before ++ taken (roomy is_same counts limit before so_far)) entries one h won its_good)

      pub after_lost : (so_far : List (Result A Fault)) (one : A) (entries : List E) → has_room is_same counts limit (now_admitted is_same counts limit before so_far) one ≡ true
          → counts_over later_than later_is (at_key key_in cmp entries (key_of one)) one ≡ false → KeepsAfter so_far entries
          → KeepsAfter (so_far ++ Ok one ∷ []) entries
      after_lost so_far one entries room lost h =
          one_more so_far one entries room
          (keeps_same later_than later_is (filter counts before ++ taken (roomy is_same counts limit before so_far)) entries one h lost)

    -- one that counts has room where one of its key is kept or fewer are than the limit
    pub after_room : (so_far : List (Result A Fault)) (one : A) (entries : List E) → counts one ≡ true → AllByRecursion (λ a. counts a ≡ true) (taken so_far)
        → KeepsAfter so_far entries
        → has_room is_same counts limit (now_admitted is_same counts limit before so_far) one ≡ (is_some (at_key key_in cmp entries (key_of one)) || nat_lt (length entries) limit)
    after_room so_far one entries its each h =
        keeps_room counts passes limit (now_admitted is_same counts limit before so_far) entries one same its
        (subst (λ (all : List A). IsKept all entries)
        (ap (λ (new : List A). filter counts before ++ new)
        (sym (filter_all counts (taken (roomy is_same counts limit before so_far)) (all_with_room (λ a. counts a ≡ true) is_same counts limit before so_far each)))
        ∙ sym (filter-append counts before (taken (roomy is_same counts limit before so_far)))) h)
