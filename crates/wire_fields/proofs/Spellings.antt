-- No spelling of an item or a field begins another.
use Rattle.std.proofs.Common.{◌≡◌, ◌≢◌, ℕ, zero, suc, List, [], ◌∷◌, ◌++◌, refl, sym, ap, subst, ◌∙◌, arith, inl, inr, append_assoc}
use Rattle.std.specs.Prelude.{◌⊎◌}
use Rattle.std.proofs.lemmas.List.{append-nil}
use Rattle.wire_fields.specs.Grammar.{Payload, Varint, Fixed64, Bytes, Group, Fixed32, WireField, Item, Holds, Ends, IsChain, IsItem, IsGroup, IsFieldWith, IsGroupWithin, IsSpelling}
use Rattle.wire_fields.specs.Reading.{holding, item_at}
use Rattle.wire_fields.proofs.Numbers.{ok_is}
use Rattle.wire_fields.proofs.Items.{item_again}
use Rattle.wire_fields.proofs.Lists.{IsApart, Stops, one_list}

-- ---- items

no_empty_chain : (a : List ℕ) → a ≡ [] → IsChain a → ⊥
no_empty_chain [] e h = h
no_empty_chain (byte ∷ bytes) e h = absurd cc

pub front_of_nil : (a b : List ℕ) → [] ≡ a ++ b → a ≡ []
front_of_nil [] b e = refl
front_of_nil (x ∷ a) b e = absurd cc

pub items_apart : IsApart IsItem
items_apart = record {
  same = λ x y a b rest after h k e.
      let p = ok_is (x, rest) (y, after) (sym (item_again x a rest h) ∙ ap item_at e ∙ item_again y b after k) in
      (ap (λ (q : Item × List ℕ). q.0) p, ap (λ (q : Item × List ℕ). q.1) p);
  some = λ x a h e. no_empty_chain h.tag (front_of_nil h.tag h.payload (sym e ∙ h.joined)) h.tagged.chain;
}

-- ---- fields

by_payload : (room number : ℕ) (payload : Payload) (a : List ℕ) → IsFieldWith (IsGroupWithin room) number payload a
    → ((payload ≢ Group) × IsItem (holding number payload) a) ⊎ ((payload ≡ Group) × IsGroupWithin room number a)
by_payload room number (Varint value) a h = inl (λ e. absurd cc, h)
by_payload room number (Fixed64 value) a h = inl (λ e. absurd cc, h)
by_payload room number (Bytes body) a h = inl (λ e. absurd cc, h)
by_payload room number Group a h = inr (refl, h)
by_payload room number (Fixed32 value) a h = inl (λ e. absurd cc, h)

pub group_inside : (room number : ℕ) (a : List ℕ) → IsGroupWithin room number a → (low : ℕ) × (room ≡ suc low) × IsGroup (IsSpelling low) number a
unfolding IsGroupWithin
group_inside zero number a h = absurd h
group_inside (suc room) number a h = (room, refl, h)

pub group_around : (room number : ℕ) (a : List ℕ) → IsGroup (IsSpelling room) number a → IsSpelling (suc room) (record { number = number; payload = Group }) a
unfolding IsGroupWithin
group_around room number a h = h

-- a field is one item, or a group
pub field_cases : (room : ℕ) (field : WireField) (a : List ℕ) → IsSpelling room field a
    → ((field.payload ≢ Group) × IsItem (Holds field) a) ⊎ ((field.payload ≡ Group) × ((low : ℕ) × (room ≡ suc low) × IsGroup (IsSpelling low) field.number a))
field_cases room field a h =
    elim (by_payload room field.number field.payload a h) [
      | inl whole ↦ inl whole
      | inr group ↦ inr (group.0, group_inside room field.number a group.1)
    ]

-- an item that starts no group is a field
pub field_from_item : (room number : ℕ) (payload : Payload) (a : List ℕ) → payload ≢ Group → IsItem (holding number payload) a → IsSpelling room (record { number = number; payload = payload }) a
field_from_item room number (Varint value) a ne h = h
field_from_item room number (Fixed64 value) a ne h = h
field_from_item room number (Bytes body) a ne h = h
field_from_item room number Group a ne h = absurd (ne refl)
field_from_item room number (Fixed32 value) a ne h = h

starts_as : (field : WireField) (a : List ℕ) → field.payload ≡ Group → IsItem (holding field.number Group) a → IsItem (Holds field) a
starts_as field a e h = subst (λ (p : Payload). IsItem (holding field.number p) a) (sym e) h

-- a field begins with its item
pub field_begins : (room : ℕ) (field : WireField) (a : List ℕ) → IsSpelling room field a → (start : List ℕ) × (others : List ℕ) × (a ≡ start ++ others) × IsItem (Holds field) start
field_begins room field a h =
    elim (field_cases room field a h) [
      | inl whole ↦ (a, [], sym (append-nil a), whole.1)
      | inr group ↦
          let g = group.1.2 in
          (g.start, g.inside ++ g.end, g.joined ∙ append_assoc g.start g.inside g.end, starts_as field g.start group.0 g.starts)
    ]

-- no field begins with the end of a group
pub end_stops : (room number : ℕ) (end rest : List ℕ) → IsItem (Ends number) end → Stops (IsSpelling room) (end ++ rest)
end_stops room number end rest h field first after e k =
    let b = field_begins room field first k in
    let parts : end ++ rest ≡ b.0 ++ (b.1 ++ after) = e ∙ ap (λ (l : List ℕ). l ++ after) b.2 ∙ append_assoc b.0 b.1 after in
    let same = (items_apart.same (Ends number) (Holds field) end b.0 rest (b.1 ++ after) h b.3 parts).0 in
    absurd cc

pub regroup : (a b c d : List ℕ) → ((a ++ b) ++ c) ++ d ≡ a ++ (b ++ (c ++ d))
regroup a b c d = simp append_assoc

pub end_number : (n m : ℕ) → Ends n ≡ Ends m → n ≡ m
end_number n m e = cc

pub held : (x y : WireField) → Holds x ≡ Holds y → x ≡ y
held x y e = cc

-- two groups with which the same bytes begin
groups_same : (low n m : ℕ) (a b rest after : List ℕ) → IsApart (IsSpelling low) → IsGroup (IsSpelling low) n a → IsGroup (IsSpelling low) m b → a ++ rest ≡ b ++ after → (n ≡ m) × (rest ≡ after)
groups_same low n m a b rest after apart g k e =
    let left : a ++ rest ≡ g.start ++ (g.inside ++ (g.end ++ rest)) = ap (λ (l : List ℕ). l ++ rest) g.joined ∙ regroup g.start g.inside g.end rest in
    let right : b ++ after ≡ k.start ++ (k.inside ++ (k.end ++ after)) = ap (λ (l : List ℕ). l ++ after) k.joined ∙ regroup k.start k.inside k.end after in
    let starts = items_apart.same (holding n Group) (holding m Group) g.start k.start (g.inside ++ (g.end ++ rest)) (k.inside ++ (k.end ++ after)) g.starts k.starts (sym left ∙ e ∙ right) in
    let insides = one_list (IsSpelling low) apart g.fields k.fields g.inside k.inside (g.end ++ rest) (k.end ++ after) g.holds k.holds starts.1 (end_stops low n g.end rest g.ends) (end_stops low m k.end after k.ends) in
    let ends = items_apart.same (Ends n) (Ends m) g.end k.end rest after g.ends k.ends insides.1 in
    (end_number n m ends.0, ends.1)

-- no spelling of a field begins another
fields_same : (room : ℕ) → ((low : ℕ) → room ≡ suc low → IsApart (IsSpelling low)) → (x y : WireField) (a b rest after : List ℕ)
    → IsSpelling room x a → IsSpelling room y b → a ++ rest ≡ b ++ after → (x ≡ y) × (rest ≡ after)
fields_same room apart x y a b rest after h k e =
    let p = field_begins room x a h in
    let q = field_begins room y b k in
    let parts : p.0 ++ (p.1 ++ rest) ≡ q.0 ++ (q.1 ++ after) =
    sym (ap (λ (l : List ℕ). l ++ rest) p.2 ∙ append_assoc p.0 p.1 rest) ∙ e ∙ ap (λ (l : List ℕ). l ++ after) q.2 ∙ append_assoc q.0 q.1 after in
    let same = items_apart.same (Holds x) (Holds y) p.0 q.0 (p.1 ++ rest) (q.1 ++ after) p.3 q.3 parts in
    let field : x ≡ y = held x y same.0 in
    elim (field_cases room x a h) [
      | inl whole ↦ elim (field_cases room y b k) [
        | inl other ↦ (field, (items_apart.same (Holds x) (Holds y) a b rest after whole.1 other.1 e).1)
        | inr group ↦ absurd (whole.0 (ap (λ (f : WireField). f.payload) field ∙ group.0))
      ]
      | inr group ↦ elim (field_cases room y b k) [
        | inl other ↦ absurd (other.0 (sym (ap (λ (f : WireField). f.payload) field) ∙ group.0))
        | inr twin ↦
            let low_is : twin.1.0 ≡ group.1.0 = omega (arith, group.1.1, twin.1.1) in
            let g : IsGroup (IsSpelling group.1.0) y.number b = subst (λ (n : ℕ). IsGroup (IsSpelling n) y.number b) low_is twin.1.2 in
            (field, (groups_same group.1.0 x.number y.number a b rest after (apart group.1.0 group.1.1) group.1.2 g e).1)
      ]
    ]

fields_some : (room : ℕ) (x : WireField) (a : List ℕ) → IsSpelling room x a → a ≢ []
fields_some room x a h e =
    let p = field_begins room x a h in
    items_apart.some (Holds x) p.0 p.3 (front_of_nil p.0 p.1 (sym e ∙ p.2))

pub fields_apart : (room : ℕ) → IsApart (IsSpelling room)
fields_apart zero = record { same = fields_same zero (λ low e. absurd (omega arith)); some = fields_some zero }
fields_apart (suc room) = record {
  same = fields_same (suc room) (λ low e. let low_is : room ≡ low = omega arith in subst (λ (n : ℕ). IsApart (IsSpelling n)) low_is (fields_apart room));
  some = fields_some (suc room);
}
