-- Objects whose members may be missing: what a name finds there, and when such an object is plain.
use Rattle.std.proofs.Common.{◌≡◌, ℕ, suc, List, [], ◌∷◌, ◌++◌, Bool, true, false, ◌&&◌, Option, Some, None, IsUtf8, refl, ap, ◌∙◌}
use Rattle.std.specs.Prelude.{⊤}
use Rattle.std.specs.Cmp.Lexicographic.{slice_cmp}
use Rattle.std.specs.List.{list_all}
use Rattle.std.specs.Option.{option_or}
use Rattle.std.specs.Ordering.{match_ordering, nat_cmp}
use Rattle.std.specs.declared.cmp.Ordering.{Ordering}
use Rattle.std.specs.declared.cmp.Ordering.TheVariants.{Less, Equal, Greater}
use Rattle.std.proofs.lemmas.Bool.{and_from, and_parts}
use Rattle.serde_json.specs.Data.{Data, Members, no_members, member}
use Rattle.serde_json.specs.Find.{get, get_member}
use Rattle.siri_json.specs.Trees.{members, object_of}
use Rattle.siri_json.proofs.TreesReadAgain.{HasPlain, IsPlain, is_after, joined}

-- a member that may be missing, and members of which each may be
abbrev pub block : List ℕ → Option Data → List (List ℕ × Data)
block name None = []
block name (Some tree) = (name, tree) ∷ []

abbrev pub blocks : List (List ℕ × Option Data) → List (List ℕ × Data)
blocks [] = []
blocks (one ∷ others) = block one.0 one.1 ++ blocks others

-- what a name finds among them
abbrev pub found_in : List ℕ → List (List ℕ × Option Data) → Option Data
found_in name [] = None
found_in name (one ∷ others) =
    match_ordering (slice_cmp nat_cmp name one.0) (found_in name others) (option_or one.1 (found_in name others)) (found_in name others)

find-members : (name : List ℕ) (parts : List (List ℕ × Option Data)) → get_member name (members (blocks parts)) ≡ found_in name parts
find-members name [] = refl
find-members name (one ∷ others) = by one.1 (find-members name others)
  where
    by : (tree : Option Data) → get_member name (members (blocks others)) ≡ found_in name others
        → get_member name (members (block one.0 tree ++ blocks others))
        ≡ match_ordering (slice_cmp nat_cmp name one.0) (found_in name others) (option_or tree (found_in name others)) (found_in name others)
    by None e = e ∙ same (slice_cmp nat_cmp name one.0) (found_in name others)
      where
        same : (order : Ordering) (o : Option Data) → o ≡ match_ordering order o o o
        same Less o = refl
        same Equal o = refl
        same Greater o = refl
    by (Some tree) e = ap (λ rest. match_ordering (slice_cmp nat_cmp name one.0) rest (Some tree) rest) e

pub found : (name : List ℕ) (parts : List (List ℕ × Option Data)) → get name (object_of (blocks parts)) ≡ found_in name parts
found name parts = find-members name parts

-- ---- plain objects

-- a name stands after another
abbrev is_past : List ℕ → List ℕ → Bool
is_past name other = match_ordering (slice_cmp nat_cmp name other) false false true

-- the names of members rise, and stand after those of others
abbrev pub rising : List (List ℕ × Option Data) → Bool
rising [] = true
rising (one ∷ others) = list_all (λ later. is_past later.0 one.0) others && rising others

abbrev are_after : List (List ℕ × Option Data) → Members → Bool
are_after parts front = list_all (λ one. is_after one.0 front) parts

-- each name is a text, and each tree plain
abbrev pub IsPlainPart : ℕ → Option Data → Type 0
IsPlainPart room None = ⊤
IsPlainPart room (Some tree) = IsPlain room tree

abbrev pub ArePlainParts : ℕ → List (List ℕ × Option Data) → Type 0
ArePlainParts room [] = ⊤
ArePlainParts room (one ∷ others) = IsUtf8 one.0 × IsPlainPart room one.1 × ArePlainParts room others

after-joined : (name other : List ℕ) (tree : Data) (front : Members) → is_after name front ≡ true → is_past name other ≡ true
    → is_after name (joined front (member other tree no_members)) ≡ true
after-joined name other tree no_members h past = and_from _ true past refl
after-joined name other tree (member first d ms) h past =
    let parts = and_parts (is_past name first) (is_after name ms) h in
    and_from (is_past name first) _ parts.0 (after-joined name other tree ms parts.1 past)

all-after-joined : (parts : List (List ℕ × Option Data)) (other : List ℕ) (tree : Data) (front : Members) → are_after parts front ≡ true
    → list_all (λ later. is_past later.0 other) parts ≡ true → are_after parts (joined front (member other tree no_members)) ≡ true
all-after-joined [] other tree front h past = refl
all-after-joined (one ∷ others) other tree front h past =
    let here = and_parts (is_after one.0 front) _ h in
    let there = and_parts (is_past one.0 other) _ past in
    and_from (is_after one.0 (joined front (member other tree no_members))) _ (after-joined one.0 other tree front here.0 there.0)
    (all-after-joined others other tree front here.1 there.1)

has-plain : (room : ℕ) (front : Members) (parts : List (List ℕ × Option Data)) → are_after parts front ≡ true → rising parts ≡ true
    → ArePlainParts room parts → HasPlain room front (members (blocks parts))
has-plain room front [] h rise plain = tt
has-plain room front (one ∷ others) h rise plain =
    let here = and_parts (is_after one.0 front) (are_after others front) h in
    let rest = and_parts (list_all (λ later. is_past later.0 one.0) others) (rising others) rise in
    by one.1 plain.1 here.0 here.1 rest.0 (λ before later. has-plain room before others later rest.1 plain.2)
  where
    by : (tree : Option Data) → IsPlainPart room tree → is_after one.0 front ≡ true → are_after others front ≡ true
        → list_all (λ later. is_past later.0 one.0) others ≡ true
        → ((before : Members) → are_after others before ≡ true → HasPlain room before (members (blocks others)))
        → HasPlain room front (members (block one.0 tree ++ blocks others))
    by None part first later past next = next front later
    by (Some tree) part first later past next =
        (first, plain.0, part, next (joined front (member one.0 tree no_members)) (all-after-joined others one.0 tree front later past))

none-before : (parts : List (List ℕ × Option Data)) → are_after parts no_members ≡ true
none-before [] = refl
none-before (one ∷ others) = none-before others

-- an object of such members is plain
pub plain-object : (room : ℕ) (parts : List (List ℕ × Option Data)) → rising parts ≡ true → ArePlainParts room parts → IsPlain (suc room) (object_of (blocks parts))
plain-object room parts rise plain = has-plain room no_members parts (none-before parts) rise plain
