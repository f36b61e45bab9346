-- What is written of a tree is read back as that tree, where its texts are UTF-8, its numbers are of 64 bits without a sign, and
-- the names of an object's members rise.
use Rattle.std.proofs.Common.{◌≡◌, ℕ, zero, suc, ◌<◌, ◌≤◌, ◌^◌, List, [], ◌∷◌, ◌++◌, Bool, true, false, ◌&&◌, Option, Some, option_map, option_and_then, decimal, IsUtf8, Ordering, Less, Equal, Greater, nat_cmp, refl, sym, ap, ◌∙◌, arith, append-nil}
use Rattle.std.specs.Prelude.{⊤}
use Rattle.std.specs.Cmp.Lexicographic.{slice_cmp}
use Rattle.std.specs.Ordering.{match_ordering}
use Rattle.std.specs.Str.{is_utf8}
use Rattle.std.proofs.lemmas.Fmt.{IsAscii-decimal}
use Rattle.std.proofs.lemmas.Str.{IsUtf8-append, IsUtf8-from_ascii, is_utf8-from_IsUtf8}
use Rattle.json.specs.Json as json
use Rattle.json.specs.Print.{quoted}
use Rattle.json.specs.Token.{Token}
use Rattle.json.specs.Tree as tree
use Rattle.json.proofs.Printed.Decimals.{IsNumber-decimal}
use Rattle.json.proofs.Printed.Tokens.{tokens-print}
use Rattle.json.proofs.Printed.Trees.{ArePrintable-json_tokens, value-json_tokens}
use Rattle.json.proofs.Printed.Utf8.{IsUtf8-are_ascii, IsUtf8-quoted, IsUtf8-boolean}
use Rattle.serde_json.specs.Data.{Num, unsigned, negative, float, Data, null, boolean, number, string, array, object, Items, no_items, item, Members, no_members, member, put}
use Rattle.serde_json.specs.Read.{of_json, of_items, of_members, max_depth, read}
use Rattle.serde_json.specs.Written.{outline, items_outline, members_outline, comma_if, compact_text, items_text, members_text}
use Rattle.serde_json.proofs.Numbers.{number_of-decimal}
use Rattle.serde_json.proofs.Texts.{print-outline}

-- a name stands after all names of members
abbrev pub is_after : List ℕ → Members → Bool
is_after name no_members = true
is_after name (member other tree ms) = match_ordering (slice_cmp nat_cmp name other) false false true && is_after name ms

-- members, and then others
abbrev pub joined : Members → Members → Members
joined no_members ms = ms
joined (member name tree front) ms = member name tree (joined front ms)

-- a number of 64 bits without a sign
abbrev pub IsWhole : Num → Type 0
IsWhole (unsigned n) = n < 2 ^ 64
IsWhole (negative z) = ⊥
IsWhole (float x) = ⊥

-- a tree of such texts and numbers, whose arrays and objects nest at most so deep, and whose names rise
abbrev mutual
  pub IsPlain : ℕ → Data → Type 0
  IsPlain room null = ⊤
  IsPlain room (boolean b) = ⊤
  IsPlain room (number n) = IsWhole n
  IsPlain room (string s) = IsUtf8 s
  IsPlain zero (array ds) = ⊥
  IsPlain zero (object ms) = ⊥
  IsPlain (suc room) (array ds) = ArePlain room ds
  IsPlain (suc room) (object ms) = HasPlain room no_members ms

  pub ArePlain : ℕ → Items → Type 0
  ArePlain room no_items = ⊤
  ArePlain room (item d ds) = IsPlain room d × ArePlain room ds

  -- after these members
  pub HasPlain : ℕ → Members → Members → Type 0
  HasPlain room front no_members = ⊤
  HasPlain room front (member name d ms) =
      (is_after name front ≡ true) × IsUtf8 name × IsPlain room d × HasPlain room (joined front (member name d no_members)) ms

-- ---- the numbers' texts, and how deep it is

mutual
  has-numbers : (room : ℕ) (d : Data) → IsPlain room d → tree.HasNumbers (outline d)
  has-numbers room null h = tt
  has-numbers room (boolean b) h = tt
  has-numbers room (number (unsigned n)) h = IsNumber-decimal n h
  has-numbers room (number (negative z)) h = absurd h
  has-numbers room (number (float x)) h = absurd h
  has-numbers room (string s) h = tt
  has-numbers zero (array ds) h = absurd h
  has-numbers zero (object ms) h = absurd h
  has-numbers (suc room) (array ds) h = items-have-numbers room ds h
  has-numbers (suc room) (object ms) h = members-have-numbers room no_members ms h

  items-have-numbers : (room : ℕ) (ds : Items) → ArePlain room ds → tree.ItemsHaveNumbers (items_outline ds)
  items-have-numbers room no_items h = tt
  items-have-numbers room (item d ds) h = (has-numbers room d h.0, items-have-numbers room ds h.1)

  members-have-numbers : (room : ℕ) (front ms : Members) → HasPlain room front ms → tree.MembersHaveNumbers (members_outline ms)
  members-have-numbers room front no_members h = tt
  members-have-numbers room front (member name d ms) h =
      (has-numbers room d h.2, members-have-numbers room (joined front (member name d no_members)) ms h.3)

mutual
  nests : (room : ℕ) (d : Data) → IsPlain room d → tree.depth (outline d) ≤ room
  nests room null h = omega arith
  nests room (boolean b) h = omega arith
  nests room (number n) h = omega arith
  nests room (string s) h = omega arith
  nests zero (array ds) h = absurd h
  nests zero (object ms) h = absurd h
  nests (suc room) (array ds) h = let inner = items-nest room ds h in omega arith
  nests (suc room) (object ms) h = let inner = members-nest room no_members ms h in omega arith

  items-nest : (room : ℕ) (ds : Items) → ArePlain room ds → tree.items_depth (items_outline ds) ≤ room
  items-nest room no_items h = omega arith
  items-nest room (item d ds) h = omega (arith, nests room d h.0, items-nest room ds h.1)

  members-nest : (room : ℕ) (front ms : Members) → HasPlain room front ms → tree.members_depth (members_outline ms) ≤ room
  members-nest room front no_members h = omega arith
  members-nest room front (member name d ms) h =
      omega (arith, nests room d h.2, members-nest room (joined front (member name d no_members)) ms h.3)

-- ---- a member whose name is after all goes last

put-last : (name : List ℕ) (d : Data) (front : Members) → is_after name front ≡ true → put name d front ≡ joined front (member name d no_members)
put-last name d no_members h = refl
put-last name d (member other tree ms) h = by (slice_cmp nat_cmp name other) h (put-last name d ms)
  where
    by : (order : Ordering) → (match_ordering order false false true && is_after name ms) ≡ true
        → (is_after name ms ≡ true → put name d ms ≡ joined ms (member name d no_members))
        → match_ordering order (member name d (member other tree ms)) (member other d ms) (member other tree (put name d ms))
        ≡ member other tree (joined ms (member name d no_members))
    by Less e last = absurd (cc)
    by Equal e last = absurd (cc)
    by Greater e last = ap (member other tree) (last e)

joined-join : (front : Members) (name : List ℕ) (d : Data) (ms : Members) → joined (joined front (member name d no_members)) ms ≡ joined front (member name d ms)
joined-join no_members name d ms = refl
joined-join (member other tree front) name d ms = ap (member other tree) (joined-join front name d ms)

joined-none : (front : Members) → joined front no_members ≡ front
joined-none no_members = refl
joined-none (member name d front) = ap (member name d) (joined-none front)

-- ---- the tree is read from its JSON

mutual
  reads : (room : ℕ) (d : Data) → IsPlain room d → of_json (outline d) ≡ Some d
  reads room null h = refl
  reads room (boolean b) h = refl
  reads room (number (unsigned n)) h = ap (option_map number) (number_of-decimal n h)
  reads room (number (negative z)) h = absurd h
  reads room (number (float x)) h = absurd h
  reads room (string s) h = refl
  reads zero (array ds) h = absurd h
  reads zero (object ms) h = absurd h
  reads (suc room) (array ds) h = ap (option_map array) (items-read room ds h)
  reads (suc room) (object ms) h = ap (option_map object) (members-read room no_members ms h)

  items-read : (room : ℕ) (ds : Items) → ArePlain room ds → of_items (items_outline ds) ≡ Some ds
  items-read room no_items h = refl
  items-read room (item d ds) h =
      ap (option_and_then (λ one. option_map (item one) (of_items (items_outline ds)))) (reads room d h.0)
      ∙ ap (option_map (item d)) (items-read room ds h.1)

  members-read : (room : ℕ) (front ms : Members) → HasPlain room front ms → of_members (members_outline ms) front ≡ Some (joined front ms)
  members-read room front no_members h = ap Some (sym (joined-none front))
  members-read room front (member name d ms) h =
      ap (option_and_then (λ one. of_members (members_outline ms) (put name one front))) (reads room d h.2)
      ∙ ap (of_members (members_outline ms)) (put-last name d front h.0)
      ∙ members-read room (joined front (member name d no_members)) ms h.3
      ∙ ap Some (joined-join front name d ms)

-- what is made of a JSON value that was read
abbrev made : Option (json.Json × List Token) → Option Data
made found = option_and_then of_json (option_and_then (λ p. json.if_last p.0 p.1) found)

-- the text of a plain tree is read as that tree
pub read-compact_text : (room : ℕ) (d : Data) → room ≤ max_depth → IsPlain room d → read (compact_text d) ≡ Some d
read-compact_text room d few h =
    let j = outline d in
    let ts = tree.json_tokens j in
    let same = tokens-print ts (ArePrintable-json_tokens j (has-numbers room d h)) ∙ sym (append-nil ts) in
    ap read (sym (print-outline d))
    ∙ ap (λ ts. made (json.value max_depth ts)) same
    ∙ ap made (value-json_tokens j max_depth [] (omega (arith, few, nests room d h)))
    ∙ reads room d h

-- ---- and is UTF-8

utf8-comma : (later : Bool) → IsUtf8 (comma_if later)
utf8-comma true = IsUtf8-are_ascii (44 ∷ []) refl
utf8-comma false = IsUtf8-are_ascii [] refl

mutual
  utf8-text : (room : ℕ) (d : Data) → IsPlain room d → IsUtf8 (compact_text d)
  utf8-text room null h = IsUtf8-are_ascii (110 ∷ 117 ∷ 108 ∷ 108 ∷ []) refl
  utf8-text room (boolean b) h = IsUtf8-boolean b
  utf8-text room (number (unsigned n)) h = IsUtf8-from_ascii (decimal n) (IsAscii-decimal n h)
  utf8-text room (number (negative z)) h = absurd h
  utf8-text room (number (float x)) h = absurd h
  utf8-text room (string s) h = IsUtf8-quoted s h
  utf8-text zero (array ds) h = absurd h
  utf8-text zero (object ms) h = absurd h
  utf8-text (suc room) (array ds) h = IsUtf8-append (91 ∷ []) (items_text false ds) (IsUtf8-are_ascii (91 ∷ []) refl) (utf8-items room false ds h)
  utf8-text (suc room) (object ms) h = IsUtf8-append (123 ∷ []) (members_text false ms) (IsUtf8-are_ascii (123 ∷ []) refl) (utf8-members room no_members false ms h)

  utf8-items : (room : ℕ) (later : Bool) (ds : Items) → ArePlain room ds → IsUtf8 (items_text later ds)
  utf8-items room later no_items h = IsUtf8-are_ascii (93 ∷ []) refl
  utf8-items room later (item d ds) h =
      IsUtf8-append (comma_if later) (compact_text d ++ items_text true ds) (utf8-comma later)
      (IsUtf8-append (compact_text d) (items_text true ds) (utf8-text room d h.0) (utf8-items room true ds h.1))

  utf8-members : (room : ℕ) (front : Members) (later : Bool) (ms : Members) → HasPlain room front ms → IsUtf8 (members_text later ms)
  utf8-members room front later no_members h = IsUtf8-are_ascii (125 ∷ []) refl
  utf8-members room front later (member name d ms) h =
      IsUtf8-append (comma_if later) (quoted name ++ 58 ∷ (compact_text d ++ members_text true ms)) (utf8-comma later)
      (IsUtf8-append (quoted name) (58 ∷ (compact_text d ++ members_text true ms)) (IsUtf8-quoted name h.1)
      (IsUtf8-append (58 ∷ []) (compact_text d ++ members_text true ms) (IsUtf8-are_ascii (58 ∷ []) refl)
      (IsUtf8-append (compact_text d) (members_text true ms) (utf8-text room d h.2) (utf8-members room (joined front (member name d no_members)) true ms h.3))))

pub is_utf8-compact_text : (room : ℕ) (d : Data) → IsPlain room d → is_utf8 (compact_text d) ≡ true
is_utf8-compact_text room d h = is_utf8-from_IsUtf8 (compact_text d) (utf8-text room d h)
