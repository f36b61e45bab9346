-- Skipping a group: what was walked from its start on is a part of a run, and in the end the group's spelling.
use Rattle.std.proofs.Common.{◌≡◌, ◌≢◌, ℕ, ◌<◌, ◌≤◌, eqb, ltb, List, [], ◌∷◌, ◌++◌, length, Some, None, Ok, refl, sym, ap, subst, ◌∙◌, arith, inl, inr, append_assoc}
use Rattle.std.proofs.lemmas.Bool.{ltb-true, eqb-true}
use Rattle.std.proofs.lemmas.List.{length-append, append-nil}
use Rattle.gw_base.specs.declared.wire_kind.WireKind.{WireKind}
use Rattle.wire_fields.specs.Grammar.{Payload, Varint, Fixed64, Bytes, Group, Fixed32, Item, Holds, Ends, IsItem, IsSpelling}
use Rattle.wire_fields.specs.Breaks.{open_after_field, open_after_item, IsBreak}
use Rattle.wire_fields.specs.OpenGroups.{IsWalked}
use Rattle.wire_fields.specs.Reading.{holding, item_at, kind_of_block}
use Rattle.wire_fields.proofs.Numbers.{chosen}
use Rattle.wire_fields.proofs.Items.{item_found}
use Rattle.wire_fields.proofs.Spellings.{items_apart}
use Rattle.wire_fields.proofs.Broken.{some_is, nothing_walked, walked_start, walked_field, walked_end, walked_whole, IsStop, stop_at_block, break_after}
use Rattle.wire_fields.proofs.Walks.{open_room}

-- the outermost of the open groups has this number
abbrev pub IsOutermost : ℕ → List ℕ → Type 0
IsOutermost number [] = ⊥
IsOutermost number (innermost ∷ []) = innermost ≡ number
IsOutermost number (innermost ∷ next ∷ groups) = IsOutermost number (next ∷ groups)

-- what was walked from the start of a group on: its spelling where none is open, else a part that leaves these open
abbrev pub HasWalked : ℕ → List ℕ → List ℕ → Type 0
HasWalked number [] a = IsSpelling 64 (record { number = number; payload = Group }) a
HasWalked number (innermost ∷ groups) a = IsOutermost number (innermost ∷ groups) × IsWalked (innermost ∷ groups) a

walk_field : (number innermost : ℕ) (groups now : List ℕ) (inner : ℕ) (payload : Payload) (a b : List ℕ) → HasWalked number (innermost ∷ groups) a → IsItem (holding inner payload) b
    → open_after_field (innermost ∷ groups) inner payload ≡ Some now → HasWalked number now (a ++ b)
walk_field number innermost groups now inner Group a b w h e =
    elim (chosen (ltb (length (innermost ∷ groups)) 64) (Some (inner ∷ innermost ∷ groups)) None (Some now) e) [
      | inl room ↦
          let lt : length (innermost ∷ groups) < 64 = ltb-true _ _ room.0 in
          subst (λ (g : List ℕ). HasWalked number g (a ++ b)) (some_is (inner ∷ innermost ∷ groups) now room.1) (w.0, walked_start (innermost ∷ groups) inner a b w.1 lt h)
      | inr full ↦ let d = full.1 in absurd cc
    ]
walk_field number innermost groups now inner (Varint value) a b w h e =
    subst (λ (g : List ℕ). HasWalked number g (a ++ b)) (some_is (innermost ∷ groups) now e) (w.0, walked_field groups innermost inner (Varint value) a b w.1 (λ d. absurd cc) h)
walk_field number innermost groups now inner (Fixed64 value) a b w h e =
    subst (λ (g : List ℕ). HasWalked number g (a ++ b)) (some_is (innermost ∷ groups) now e) (w.0, walked_field groups innermost inner (Fixed64 value) a b w.1 (λ d. absurd cc) h)
walk_field number innermost groups now inner (Bytes body) a b w h e =
    subst (λ (g : List ℕ). HasWalked number g (a ++ b)) (some_is (innermost ∷ groups) now e) (w.0, walked_field groups innermost inner (Bytes body) a b w.1 (λ d. absurd cc) h)
walk_field number innermost groups now inner (Fixed32 value) a b w h e =
    subst (λ (g : List ℕ). HasWalked number g (a ++ b)) (some_is (innermost ∷ groups) now e) (w.0, walked_field groups innermost inner (Fixed32 value) a b w.1 (λ d. absurd cc) h)

closes : (number innermost : ℕ) (groups : List ℕ) (a b : List ℕ) → HasWalked number (innermost ∷ groups) a → IsItem (Ends innermost) b → HasWalked number groups (a ++ b)
closes number innermost [] a b w h = subst (λ (n : ℕ). IsSpelling 64 (record { number = n; payload = Group }) (a ++ b)) w.0 (walked_whole innermost a b w.1 h)
closes number innermost (next ∷ groups) a b w h = (w.0, walked_end groups next innermost a b w.1 h)

-- one item further
pub walk_on : (number : ℕ) (groups now : List ℕ) (item : Item) (a b : List ℕ) → HasWalked number groups a → groups ≢ [] → IsItem item b → open_after_item groups item ≡ Some now → HasWalked number now (a ++ b)
walk_on number [] now item a b w some h e = absurd (some refl)
walk_on number (innermost ∷ groups) now (Holds field) a b w some h e = walk_field number innermost groups now field.number field.payload a b w h e
walk_on number (innermost ∷ groups) now (Ends inner) a b w some h e =
    elim (chosen (eqb innermost inner) (Some groups) None (Some now) e) [
      | inl same ↦
          let number_is : innermost ≡ inner = eqb-true _ _ same.0 in
          subst (λ (g : List ℕ). HasWalked number g (a ++ b)) (some_is groups now same.1) (closes number innermost groups a b w (rw number_is h))
      | inr other ↦ let d = other.1 in absurd cc
    ]

-- so far in a group after whose start the bytes stand
pub record IsSkip (number : ℕ) (bytes groups rest : List ℕ) : Type 0 where
  pub inside : List ℕ
  pub joined : bytes ≡ inside ++ rest
  pub walked : (start : List ℕ) → IsItem (holding number Group) start → HasWalked number groups (start ++ inside)

pub skip_none : (number : ℕ) (bytes : List ℕ) → IsSkip number bytes (number ∷ []) bytes
skip_none number bytes = record {
  inside = [];
  joined = refl;
  walked = λ start h. rw append-nil (refl, walked_start [] number [] start nothing_walked (omega arith) h);
}

pub skip_more : (number : ℕ) (bytes groups rest now after : List ℕ) (item : Item) → IsSkip number bytes groups rest → groups ≢ [] → item_at rest ≡ Ok (item, after) → open_after_item groups item ≡ Some now → IsSkip number bytes now after
skip_more number bytes groups rest now after item s some e step =
    let f = item_found rest item after e in
    record {
      inside = s.inside ++ f.0;
      joined = s.joined ∙ ap (λ (l : List ℕ). s.inside ++ l) f.1 ∙ sym (append_assoc s.inside f.0 after);
      walked = λ start h. subst (λ (l : List ℕ). HasWalked number now l) (append_assoc start s.inside f.0) (walk_on number groups now item (start ++ s.inside) f.0 (s.walked start h) some f.2 step);
    }

in_groups : (number : ℕ) (groups a : List ℕ) → groups ≢ [] → HasWalked number groups a → IsWalked groups a
in_groups number [] a some w = absurd (some refl)
in_groups number (innermost ∷ groups) a some w = w.1

pub skip_stops : (number : ℕ) (bytes groups rest : List ℕ) (kind : WireKind) → IsSkip number bytes groups rest → groups ≢ [] → IsStop groups rest kind
    → (start : List ℕ) → IsItem (holding number Group) start → IsBreak (start ++ bytes) kind
skip_stops number bytes groups rest kind s some stop start h =
    let whole : (start ++ s.inside) ++ rest ≡ start ++ bytes = append_assoc start s.inside rest ∙ ap (λ (l : List ℕ). start ++ l) (sym s.joined) in
    subst (λ (l : List ℕ). IsBreak l kind) whole (break_after groups (start ++ s.inside) rest kind (in_groups number groups (start ++ s.inside) some (s.walked start h)) stop)

pub skip_blocked : (number : ℕ) (bytes groups rest after : List ℕ) (item : Item) → IsSkip number bytes groups rest → groups ≢ [] → item_at rest ≡ Ok (item, after) → open_after_item groups item ≡ None
    → (start : List ℕ) → IsItem (holding number Group) start → IsBreak (start ++ bytes) (kind_of_block item)
skip_blocked number bytes groups rest after item s some e none start h =
    let w = in_groups number groups (start ++ s.inside) some (s.walked start h) in
    let le : length groups ≤ 64 = omega (arith, open_room groups w.room (start ++ s.inside) w.is_open) in
    skip_stops number bytes groups rest (kind_of_block item) s some (stop_at_block groups rest after item le e none) start h

pub positive : (a : List ℕ) → a ≢ [] → 0 < length a
positive [] some = absurd (some refl)
positive (x ∷ a) some = omega arith

-- an item takes some bytes
pub item_shorter : (rest after : List ℕ) (item : Item) → item_at rest ≡ Ok (item, after) → length after < length rest
item_shorter rest after item e =
    let f = item_found rest item after e in
    let some : 0 < length f.0 = positive f.0 (items_apart.some item f.0 f.2) in
    omega (arith, ap length f.1, length-append f.0 after)
