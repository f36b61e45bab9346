-- What is kept of values, items and members, one after another.
use Rattle.std.proofs.Common.{◌≡◌, ◌∙◌, ℕ, zero, suc, ◌-◌, ◌<◌, List, [], Bool, true, false, cond, ◌&&◌, Option, Some, None, option_map, option_and_then, is_some, refl, sym, ap, subst, arith}
use Rattle.std.specs.Prelude.{⊤}
use Rattle.json.specs.Token.{Token}
use Rattle.json.specs.Json as json
use Rattle.json.specs.Json.{Parse, parse_map, after_end_array, read_key, if_last}
use Rattle.json.proofs.Grammar.{items_fail, items_more, members_fail, members_more, left_some}
use Rattle.json.proofs.Trees.{none_before}
use Rattle.serde_json.specs.Data.{Data, number, array, object, no_members, put}
use Rattle.serde_json.specs.Read.{number_of, of_json, of_items, of_members, converted}
use Rattle.json_tree.specs.Trees.{data_of}
use Rattle.json_tree.specs.Faults.{Says}
use Rattle.json_tree.specs.declared.reading.TreeFault.{TreeFault}
use Rattle.json_tree.specs.declared.reading.TreeFault.TheVariants.{NotJson, Memory}
use Rattle.json_tree.specs.Kept.{kept, kept_items, kept_members, member_if}
use Rattle.json_tree.specs.Keeping.{fits, items_fit, members_fit, kept_if_fits, items_if_fit, members_if_fit}
use Rattle.json_tree.proofs.DataLemmas.{of_json-data}
use Rattle.json_tree.proofs.RangeLemmas.{is_some-map, one_item, one_member, whatever}

-- ---- what something that was kept was kept of

abbrev Holds : Bool → Type 0
Holds true = ⊤
Holds false = ⊥

some_not_none : {A : Type 0} {P : Type 0} (a : A) → None ≡ Some a → P
some_not_none a e = absurd (subst Holds (sym (ap is_some e)) tt)

fitting : {A : Type 0} (b : Bool) (whole found : A) → cond b (Some whole) None ≡ Some found → (b ≡ true) × (whole ≡ found)
fitting true whole found e = (refl, grind (arith, e))
fitting false whole found e = some_not_none found e

abbrev pub at : {B : Type 0} → List Token → B → B × List Token
at r b = (b, r)

one_found : {B : Type 0} (s : List Token) (o : Option B) (found : B) (r : List Token) → option_map (at s) o ≡ Some (found, r) → (o ≡ Some found) × (s ≡ r)
one_found s None found r e = some_not_none (at r found) e
one_found s (Some b) found r e = grind (arith, e)

pub of_converted : {A B : Type 0} (f : A → Option B) (read : Option (A × List Token)) (found : B) (r : List Token) → converted f read ≡ Some (found, r)
    → (whole : A) × (read ≡ Some (whole, r)) × (f whole ≡ Some found)
of_converted f None found r e = some_not_none (at r found) e
of_converted f (Some p) found r e = let is = one_found p.1 (f p.0) found r e in (p.0, ap (λ y. Some (p.0, y)) is.1, is.0)

nothing : {A B : Type 0} (make : A → B) (o : Option A) → option_map make o ≡ None → o ≡ None
nothing make None e = refl
nothing make (Some a) e = some_not_none (make a) (sym e)

-- ---- one more, or one that isn't kept

is_made : {A B : Type 0} (make : A → B) (b : Bool) (a : A) → cond b (Some (make a)) None ≡ option_map make (cond b (Some a) None)
is_made make true a = refl
is_made make false a = refl

is_same : {A : Type 0} (o : Option A) → o ≡ option_map (λ a. a) o
is_same None = refl
is_same (Some a) = refl

items_fit-item : (first : json.Json) (others : json.Items) → items_fit (json.item first others) ≡ fits first && items_fit others
items_fit-item first others = one_item (of_json first) (of_items others)

members_fit-member : (name : List ℕ) (first : json.Json) (others : json.Members) → members_fit (json.member name first others) ≡ fits first && members_fit others
members_fit-member name first others =
    one_member (of_json first) (λ d. of_members others (put name d no_members)) (members_fit others) (λ d. whatever others (put name d no_members) no_members)

fit_item : (has : List ℕ → Bool) (first one : json.Json) (others : json.Items) → kept_if_fits has first ≡ Some one → items_if_fit has (json.item first others) ≡ option_map (json.item one) (items_if_fit has others)
fit_item has first one others e =
    let is = fitting (fits first) (kept has first) one e in
    ap (λ b. cond b (Some (json.item (kept has first) (kept_items has others))) None) (items_fit-item first others ∙ ap (λ b. b && items_fit others) is.0)
    ∙ ap (λ j. cond (items_fit others) (Some (json.item j (kept_items has others))) None) is.1 ∙ is_made (json.item one) (items_fit others) (kept_items has others)

unfit : {A B : Type 0} (b c : Bool) (a : A) (whole : B) → cond b (Some a) None ≡ None → cond (b && c) (Some whole) None ≡ None
unfit true c a whole e = some_not_none a (sym e)
unfit false c a whole e = refl

no_fit_item : (has : List ℕ → Bool) (first : json.Json) (others : json.Items) → kept_if_fits has first ≡ None → items_if_fit has (json.item first others) ≡ None
no_fit_item has first others e =
    ap (λ b. cond b (Some (kept_items has (json.item first others))) None) (items_fit-item first others) ∙ unfit (fits first) (items_fit others) (kept has first) (kept_items has (json.item first others)) e

fit_member : (has : List ℕ → Bool) (name : List ℕ) (first one : json.Json) (others : json.Members) → has name ≡ true → kept_if_fits has first ≡ Some one
    → members_if_fit has (json.member name first others) ≡ option_map (json.member name one) (members_if_fit has others)
fit_member has name first one others named e =
    let is = fitting (fits first) (kept has first) one e in
    ap (λ b. cond b (Some (member_if (has name) name (kept has first) (kept_members has others))) None) (members_fit-member name first others ∙ ap (λ b. b && members_fit others) is.0)
    ∙ ap (λ b. cond (members_fit others) (Some (member_if b name (kept has first) (kept_members has others))) None) named
    ∙ ap (λ j. cond (members_fit others) (Some (json.member name j (kept_members has others))) None) is.1 ∙ is_made (json.member name one) (members_fit others) (kept_members has others)

left_out : (has : List ℕ → Bool) (name : List ℕ) (first : json.Json) (others : json.Members) → has name ≡ false → fits first ≡ true
    → members_if_fit has (json.member name first others) ≡ option_map (λ ms. ms) (members_if_fit has others)
left_out has name first others unnamed good =
    ap (λ b. cond b (Some (member_if (has name) name (kept has first) (kept_members has others))) None) (members_fit-member name first others ∙ ap (λ b. b && members_fit others) good)
    ∙ ap (λ b. cond (members_fit others) (Some (member_if b name (kept has first) (kept_members has others))) None) unnamed
    ∙ is_same (members_if_fit has others)

no_fit_member : (has : List ℕ → Bool) (name : List ℕ) (first : json.Json) (others : json.Members) → kept_if_fits has first ≡ None → members_if_fit has (json.member name first others) ≡ None
no_fit_member has name first others e =
    ap (λ b. cond b (Some (kept_members has (json.member name first others))) None) (members_fit-member name first others)
    ∙ unfit (fits first) (members_fit others) (kept has first) (kept_members has (json.member name first others)) e

-- ---- the same of what was read

paired : {B D : Type 0} (keep : B → D) (r : List Token) (o : Option B) → option_map (at r) (option_map keep o) ≡ parse_map keep (option_map (at r) o)
paired keep r None = refl
paired keep r (Some b) = refl

more : {A B C D : Type 0} (f : A → Option B) (g : C → Option D) (make : A → C) (keep : B → D) → ((a : A) → g (make a) ≡ option_map keep (f a))
    → (read : Option (A × List Token)) → converted g (parse_map make read) ≡ parse_map keep (converted f read)
more f g make keep same None = refl
more f g make keep same (Some p) = ap (option_map (at p.1)) (same p.0) ∙ paired keep p.1 (f p.0)

none : {A B : Type 0} (f : A → Option B) (make : A → A) → ((a : A) → f (make a) ≡ None) → (read : Option (A × List Token)) → converted f (parse_map make read) ≡ None
none f make never None = refl
none f make never (Some p) = ap (option_map (at p.1)) (never p.0)

module _ (p : Parse json.Json) (has : List ℕ → Bool) where
  pub item_kept : (n : ℕ) (ts r : List Token) (one : json.Json) → 0 < n → after_end_array ts ≡ None → converted (kept_if_fits has) (p ts) ≡ Some (one, r)
      → converted (items_if_fit has) (json.items p n ts) ≡ parse_map (json.item one) (converted (items_if_fit has) (json.items p (n - 1) r))
  item_kept n ts r one some going e =
      let whole = of_converted (kept_if_fits has) (p ts) one r e in
      ap (converted (items_if_fit has)) (items_more p n ts r whole.0 some going whole.1)
      ∙ more (items_if_fit has) (items_if_fit has) (json.item whole.0) (json.item one) (λ others. fit_item has whole.0 one others whole.2) (json.items p (n - 1) r)

  item_unfit : (n : ℕ) (ts : List Token) (first : json.Json × List Token) → after_end_array ts ≡ None → p ts ≡ Some first → kept_if_fits has first.0 ≡ None → converted (items_if_fit has) (json.items p n ts) ≡ None
  unfolding json.items
  item_unfit zero ts first going is e = refl
  item_unfit (suc n) ts first going is e =
      ap (converted (items_if_fit has)) (items_more p (suc n) ts first.1 first.0 (omega arith) going is)
      ∙ none (items_if_fit has) (json.item first.0) (λ others. no_fit_item has first.0 others e) (json.items p (suc n - 1) first.1)

  pub item_not_read : (n : ℕ) (ts : List Token) → after_end_array ts ≡ None → converted (kept_if_fits has) (p ts) ≡ None → converted (items_if_fit has) (json.items p n ts) ≡ None
  item_not_read n ts going e = by (p ts) refl e
    where
      by : (o : Option (json.Json × List Token)) → p ts ≡ o → converted (kept_if_fits has) o ≡ None → converted (items_if_fit has) (json.items p n ts) ≡ None
      by None is e = ap (converted (items_if_fit has)) (items_fail p n ts going is)
      by (Some first) is e = item_unfit n ts first going is (nothing (at first.1) (kept_if_fits has first.0) e)

  pub member_kept : (n : ℕ) (name : List ℕ) (ts s r : List Token) (one : json.Json) → 0 < n → read_key ts ≡ Some (Some name, s) → has name ≡ true → converted (kept_if_fits has) (p s) ≡ Some (one, r)
      → converted (members_if_fit has) (json.members p n ts) ≡ parse_map (json.member name one) (converted (members_if_fit has) (json.members p (n - 1) r))
  member_kept n name ts s r one some key named e =
      let whole = of_converted (kept_if_fits has) (p s) one r e in
      ap (converted (members_if_fit has)) (members_more p n name ts s r whole.0 some key whole.1)
      ∙ more (members_if_fit has) (members_if_fit has) (json.member name whole.0) (json.member name one) (λ others. fit_member has name whole.0 one others named whole.2) (json.members p (n - 1) r)

  pub member_left_out : (n : ℕ) (name : List ℕ) (ts s r : List Token) → 0 < n → read_key ts ≡ Some (Some name, s) → has name ≡ false → option_map (λ q. q.1) (converted of_json (p s)) ≡ Some r
      → converted (members_if_fit has) (json.members p n ts) ≡ converted (members_if_fit has) (json.members p (n - 1) r)
  member_left_out n name ts s r some key unnamed e =
      let seen = left_some (converted of_json (p s)) r e in
      let whole = of_converted of_json (p s) seen.0 r seen.1 in
      ap (converted (members_if_fit has)) (members_more p n name ts s r whole.0 some key whole.1)
      ∙ more (members_if_fit has) (members_if_fit has) (json.member name whole.0) (λ ms. ms) (λ others. left_out has name whole.0 others unnamed (ap is_some whole.2)) (json.members p (n - 1) r)
      ∙ sym (none_before (converted (members_if_fit has) (json.members p (n - 1) r)))

  member_unfit : (n : ℕ) (name : List ℕ) (ts s : List Token) (first : json.Json × List Token) → read_key ts ≡ Some (Some name, s) → p s ≡ Some first → kept_if_fits has first.0 ≡ None
      → converted (members_if_fit has) (json.members p n ts) ≡ None
  unfolding json.members
  member_unfit zero name ts s first key is e = refl
  member_unfit (suc n) name ts s first key is e =
      ap (converted (members_if_fit has)) (members_more p (suc n) name ts s first.1 first.0 (omega arith) key is)
      ∙ none (members_if_fit has) (json.member name first.0) (λ others. no_fit_member has name first.0 others e) (json.members p (suc n - 1) first.1)

  pub member_not_read : (n : ℕ) (name : List ℕ) (ts s : List Token) → read_key ts ≡ Some (Some name, s) → converted (kept_if_fits has) (p s) ≡ None → converted (members_if_fit has) (json.members p n ts) ≡ None
  member_not_read n name ts s key e = by (p s) refl e
    where
      by : (o : Option (json.Json × List Token)) → p s ≡ o → converted (kept_if_fits has) o ≡ None → converted (members_if_fit has) (json.members p n ts) ≡ None
      by None is e = ap (converted (members_if_fit has)) (members_fail p n name ts s key is)
      by (Some first) is e = member_unfit n name ts s first key is (nothing (at first.1) (kept_if_fits has first.0) e)

not_ranged : {A : Type 0} (whole : A) (o : Option Data) → o ≡ None → cond (is_some o) (Some whole) None ≡ None
not_ranged whole o e = ap (λ x. cond (is_some x) (Some whole) None) e

pub nothing_kept : (has : List ℕ → Bool) (read : Option (json.Json × List Token)) → converted of_json read ≡ None → converted (kept_if_fits has) read ≡ None
nothing_kept has None e = refl
nothing_kept has (Some p) e = ap (option_map (at p.1)) (not_ranged (kept has p.0) (of_json p.0) (nothing (at p.1) (of_json p.0) e))

-- ---- values that begin with a number, a bracket or a brace

pub number_fits : (has : List ℕ → Bool) (text : List ℕ) (b : Bool) → is_some (number_of text) ≡ b → kept_if_fits has (json.number text) ≡ cond b (Some (json.number text)) None
number_fits has text b e = ap (λ x. cond x (Some (json.number text)) None) (is_some-map number (number_of text) ∙ e)

pub array_read : (has : List ℕ → Bool) (read : Option (json.Items × List Token)) → converted (kept_if_fits has) (parse_map json.array read) ≡ parse_map json.array (converted (items_if_fit has) read)
array_read has read =
    more (items_if_fit has) (kept_if_fits has) json.array json.array
    (λ items. ap (λ b. cond b (Some (json.array (kept_items has items))) None) (is_some-map array (of_items items)) ∙ is_made json.array (items_fit items) (kept_items has items)) read

pub object_read : (has : List ℕ → Bool) (read : Option (json.Members × List Token)) → converted (kept_if_fits has) (parse_map json.object read) ≡ parse_map json.object (converted (members_if_fit has) read)
object_read has read =
    more (members_if_fit has) (kept_if_fits has) json.object json.object
    (λ members. ap (λ b. cond b (Some (json.object (kept_members has members))) None) (is_some-map object (of_members members no_members)) ∙ is_made json.object (members_fit members) (kept_members has members)) read

-- ---- the whole text

abbrev pub last_data : Option (json.Json × List Token) → Option Data
last_data read = option_and_then of_json (option_and_then (λ p. if_last p.0 p.1) read)

pub whole_kept : (has : List ℕ → Bool) (read : Option (json.Json × List Token)) (tree : json.Json) → converted (kept_if_fits has) read ≡ Some (tree, [])
    → (whole : json.Json) × (last_data read ≡ Some (data_of whole)) × (tree ≡ kept has whole)
whole_kept has read tree e =
    let found = of_converted (kept_if_fits has) read tree [] e in
    let is = fitting (fits found.0) (kept has found.0) tree found.2 in
    (found.0, ap last_data found.1 ∙ of_json-data found.0 is.0, sym is.1)

-- ---- what a fault says of one thing it says of another

pub says : {A B : Type 0} → (A → B) → (fault : TreeFault) → Says A fault → Says B fault
says f NotJson a = f a
says f Memory a = tt
