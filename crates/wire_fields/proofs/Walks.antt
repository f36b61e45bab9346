-- Walking through open groups, item by item: what was walked is a run, and so deep in groups.
use Rattle.std.proofs.Common.{◌≡◌, ◌≢◌, ℕ, suc, ◌+◌, ◌<◌, List, [], ◌∷◌, ◌++◌, length, Some, None, refl, sym, ap, subst, ◌∙◌, arith, inl, inr, append_assoc}
use Rattle.std.proofs.lemmas.Bool.{lt-ltb, le-ltb, eq-eqb}
use Rattle.std.proofs.lemmas.List.{append-nil}
use Rattle.wire_fields.specs.Grammar.{Payload, Varint, Fixed64, Bytes, Group, Fixed32, WireField, Item, Holds, Ends, IsItem, IsGroup, IsSpelling, Concatenates}
use Rattle.wire_fields.specs.Breaks.{open_after_field, open_after_end, open_after_item}
use Rattle.wire_fields.specs.Reading.{holding}
use Rattle.wire_fields.specs.OpenGroups.{IsLevel, IsOpen}
use Rattle.wire_fields.proofs.Lists.{Concatenates-push, Stops, one_list}
use Rattle.wire_fields.proofs.Spellings.{items_apart, fields_apart, field_cases, group_around, end_stops, regroup, held}

-- ---- groups that are open

pub open_room : (groups : List ℕ) (room : ℕ) (a : List ℕ) → IsOpen groups room a → room + length groups ≡ 64
unfolding IsOpen
open_room [] room a h = omega (arith, h.1)
open_room (number ∷ groups) room a h = omega (arith, open_room groups (suc room) h.front h.outer)

pub open_start : (groups : List ℕ) (room number : ℕ) (a b : List ℕ) → IsOpen groups (suc room) a → IsItem (holding number Group) b → IsOpen (number ∷ groups) room (a ++ b)
unfolding IsOpen
open_start groups room number a b h k = record {
  front = a;
  start = b;
  inside = [];
  fields = [];
  joined = ap (λ (l : List ℕ). a ++ l) (sym (append-nil b));
  outer = h;
  starts = k;
  holds = refl;
}

pub open_field : (groups : List ℕ) (room number : ℕ) (field : WireField) (a b : List ℕ) → IsOpen (number ∷ groups) room a → IsSpelling room field b → IsOpen (number ∷ groups) room (a ++ b)
unfolding IsOpen
open_field groups room number field a b h k = record {
  front = h.front;
  start = h.start;
  inside = h.inside ++ b;
  fields = h.fields ++ field ∷ [];
  joined = ap (λ (l : List ℕ). l ++ b) h.joined ∙ simp append_assoc;
  outer = h.outer;
  starts = h.starts;
  holds = Concatenates-push (IsSpelling room) h.fields field h.inside b h.holds k;
}

closed_group : (groups : List ℕ) (room number : ℕ) (a b : List ℕ) (h : IsLevel (IsOpen groups (suc room)) number room a) → IsItem (Ends number) b
    → IsSpelling (suc room) (record { number = number; payload = Group }) (h.start ++ h.inside ++ b)
closed_group groups room number a b h k = group_around room number (h.start ++ h.inside ++ b) (record {
  start = h.start;
  inside = h.inside;
  end = b;
  joined = refl;
  starts = h.starts;
  fields = h.fields;
  holds = h.holds;
  ends = k;
})

pub open_end : (groups : List ℕ) (room number outer : ℕ) (a b : List ℕ) → IsOpen (number ∷ outer ∷ groups) room a → IsItem (Ends number) b → IsOpen (outer ∷ groups) (suc room) (a ++ b)
unfolding IsOpen
open_end groups room number outer a b h k =
    let one = open_field groups (suc room) outer (record { number = number; payload = Group }) h.front (h.start ++ h.inside ++ b) h.outer (closed_group (outer ∷ groups) room number a b h k) in
    subst (λ (l : List ℕ). IsOpen (outer ∷ groups) (suc room) l) (sym (ap (λ (l : List ℕ). l ++ b) h.joined ∙ simp append_assoc)) (simp append_assoc at one)

pub open_close : (room number : ℕ) (a b : List ℕ) → IsOpen (number ∷ []) room a → IsItem (Ends number) b → IsSpelling 64 (record { number = number; payload = Group }) (a ++ b)
unfolding IsOpen
open_close room number a b h k =
    let one : IsSpelling 64 (record { number = number; payload = Group }) (h.start ++ h.inside ++ b) = rw (sym h.outer.1) (closed_group [] room number a b h k) in
    let whole : h.start ++ h.inside ++ b ≡ a ++ b = ap (λ (l : List ℕ). l ++ b) (sym (h.joined ∙ ap (λ (l : List ℕ). l ++ (h.start ++ h.inside)) h.outer.0)) in
    subst (λ (l : List ℕ). IsSpelling 64 (record { number = number; payload = Group }) l) whole one

-- ---- bytes that no item can begin where these groups are open

abbrev pub NoStep : List ℕ → List ℕ → Type 0
NoStep groups tail =
    (item : Item) (first rest now : List ℕ) → tail ≡ first ++ rest → IsItem item first → open_after_item groups item ≡ Some now → ⊥

pub after_whole : (groups : List ℕ) (number : ℕ) (payload : Payload) → payload ≢ Group → open_after_field groups number payload ≡ Some groups
after_whole groups number (Varint value) ne = refl
after_whole groups number (Fixed64 value) ne = refl
after_whole groups number (Bytes body) ne = refl
after_whole groups number Group ne = absurd (ne refl)
after_whole groups number (Fixed32 value) ne = refl

pub after_start : (groups : List ℕ) (number : ℕ) → length groups < 64 → open_after_field groups number Group ≡ Some (number ∷ groups)
after_start groups number lt = rw (lt-ltb (length groups) 64 lt) refl

pub after_deep : (groups : List ℕ) (number : ℕ) → length groups ≡ 64 → open_after_field groups number Group ≡ None
after_deep groups number e = rw (le-ltb (length groups) 64 (omega arith)) refl

pub after_end : (groups : List ℕ) (number : ℕ) → open_after_end (number ∷ groups) number ≡ Some groups
after_end groups number = rw (eq-eqb number number refl) refl

-- the innermost open group isn't closed
abbrev pub NotClosed : List ℕ → List ℕ → Type 0
NotClosed [] tail = Unit {0}
NotClosed (number ∷ groups) tail = (first rest : List ℕ) → tail ≡ first ++ rest → IsItem (Ends number) first → ⊥

pub not_closed : (groups tail : List ℕ) → NoStep groups tail → NotClosed groups tail
not_closed [] tail h = tt
not_closed (number ∷ groups) tail h = λ first rest e k. h (Ends number) first rest groups e k (after_end groups number)

pub no_field : (groups : List ℕ) (room : ℕ) (tail : List ℕ) → room + length groups ≡ 64 → NoStep groups tail → Stops (IsSpelling room) tail
no_field groups room tail sum h field first rest e k =
    elim (field_cases room field first k) [
      | inl whole ↦ h (Holds field) first rest groups e whole.1 (after_whole groups field.number field.payload whole.0)
      | inr group ↦
          let g = group.1.2 in
          h (holding field.number Group) g.start (g.inside ++ (g.end ++ rest)) (field.number ∷ groups)
          (e ∙ ap (λ (l : List ℕ). l ++ rest) g.joined ∙ regroup g.start g.inside g.end rest) g.starts (after_start groups field.number (omega (arith, group.1.1)))
    ]

starts_not_closed : (groups : List ℕ) (number : ℕ) (start rest : List ℕ) → IsItem (holding number Group) start → NotClosed groups (start ++ rest)
starts_not_closed [] number start rest h = tt
starts_not_closed (outer ∷ groups) number start rest h = λ first after e k.
    let same = (items_apart.same (holding number Group) (Ends outer) start first rest after h k e).0 in
    absurd cc

-- one level further out
no_field_out : (groups : List ℕ) (room number : ℕ) (start inside tail : List ℕ) (fields : List WireField) → IsItem (holding number Group) start
    → Concatenates (IsSpelling room) fields inside → Stops (IsSpelling room) tail → NotClosed (number ∷ groups) tail → Stops (IsSpelling (suc room)) (start ++ (inside ++ tail))
no_field_out groups room number start inside tail fields starts holds stops closed field first rest e k =
    elim (field_cases (suc room) field first k) [
      | inl whole ↦
          let same = (items_apart.same (holding number Group) (Holds field) start first (inside ++ tail) rest starts whole.1 e).0 in
          absurd (whole.0 (ap (λ (f : WireField). f.payload) (sym (held (record { number = number; payload = Group }) field same))))
      | inr group ↦
          let low_is : group.1.0 ≡ room = omega (arith, group.1.1) in
          let g : IsGroup (IsSpelling room) field.number first = subst (λ (n : ℕ). IsGroup (IsSpelling n) field.number first) low_is group.1.2 in
          let parts : start ++ (inside ++ tail) ≡ g.start ++ (g.inside ++ (g.end ++ rest)) = e ∙ ap (λ (l : List ℕ). l ++ rest) g.joined ∙ regroup g.start g.inside g.end rest in
          let same = items_apart.same (holding number Group) (holding field.number Group) start g.start (inside ++ tail) (g.inside ++ (g.end ++ rest)) starts g.starts parts in
          let insides = one_list (IsSpelling room) (fields_apart room) fields g.fields inside g.inside tail (g.end ++ rest) holds g.holds same.1 stops (end_stops room field.number g.end rest g.ends) in
          let number_is : number ≡ field.number = ap (λ (f : WireField). f.number) (held (record { number = number; payload = Group }) (record { number = field.number; payload = Group }) same.0) in
          let ends : IsItem (Ends number) g.end = rw number_is g.ends in
          closed g.end rest insides.1 ends
    ]

-- and so out of all groups
pub no_field_at_all : (groups : List ℕ) (room : ℕ) (a tail : List ℕ) → IsOpen groups room a → Stops (IsSpelling room) tail → NotClosed groups tail → Stops (IsSpelling 64) (a ++ tail)
unfolding IsOpen
no_field_at_all [] room a tail h stops closed = rw (h.0, ← h.1) stops
no_field_at_all (number ∷ groups) room a tail h stops closed =
    let further = no_field_out groups room number h.start h.inside tail h.fields h.starts h.holds stops closed in
    let out = no_field_at_all groups (suc room) h.front (h.start ++ (h.inside ++ tail)) h.outer further (starts_not_closed groups number h.start (h.inside ++ tail) h.starts) in
    let whole : h.front ++ (h.start ++ (h.inside ++ tail)) ≡ a ++ tail = sym (ap (λ (l : List ℕ). l ++ tail) h.joined ∙ simp append_assoc) in
    subst (λ (l : List ℕ). Stops (IsSpelling 64) l) whole out
