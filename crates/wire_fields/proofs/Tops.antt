-- What a reader of a feed's top level stands for, from step to step.
use Rattle.std.proofs.Common.{◌≡◌, ◌≢◌, ℕ, zero, suc, ◌+◌, ◌-◌, ◌<◌, ◌≤◌, Bool, true, false, cond, eqb, List, [], ◌∷◌, ◌++◌, length, take, drop, Option, Some, None, Ok, Err, refl, sym, ap, subst, ◌∙◌, arith, inl, inr, append_assoc}
use Rattle.std.specs.Prelude.{◌⊎◌}
use Rattle.std.proofs.lemmas.Bool.{cases_lt, ne_eqb, eqb-true}
use Rattle.std.proofs.lemmas.List.{length-append, append-nil}
use Rattle.std.proofs.Math.Seq.{take-add}
use Rattle.gw_base.specs.declared.wire_kind.WireKind.{WireKind}
use Rattle.gw_base.specs.declared.wire_kind.WireKind.TheVariants.{Truncated}
use Rattle.wire_fields.specs.declared.top.event.TopEvent.{TopEvent}
use Rattle.wire_fields.specs.declared.top.event.TopEvent.TheVariants as events
use Rattle.wire_fields.specs.declared.top.part.Part.{Part}
use Rattle.wire_fields.specs.declared.top.part.Part.TheVariants as parts
use Rattle.wire_fields.specs.declared.top.turn.Turn.{Turn}
use Rattle.wire_fields.specs.declared.top.turn.Turn.TheVariants as turns
use Rattle.wire_fields.specs.Grammar.{Payload, Bytes, Group, WireField, Item, Ends, IsVarint, IsItem, IsSpelling, AreFields}
use Rattle.wire_fields.specs.Breaks.{open_after_field, open_after_end, open_after_item, IsBroken}
use Rattle.wire_fields.specs.OpenGroups.{IsOpen, IsWalked}
use Rattle.wire_fields.specs.Reading.{holding, item_at, kind_of_block}
use Rattle.wire_fields.specs.TopReading.{IsTagged, IsSized, IsPart, Top, Stands, StandsFor, Between, Elsewhere, InField, place_in, place_of, place_left, IsInNoField, EndsWith, EndsWithLength, EndsWithBytes, HasPart, HasOther, Tells}
use Rattle.wire_fields.specs.TopSteps.{IsPlain, Turns, with_part, with_taken, after_field, passed, other, opened, closed, sized, turned, Turned}
use Rattle.wire_fields.proofs.Numbers.{err_is}
use Rattle.wire_fields.proofs.Items.{item_again}
use Rattle.wire_fields.proofs.Lists.{Concatenates-push, nil_front}
use Rattle.wire_fields.proofs.Spellings.{items_apart, field_from_item}
use Rattle.wire_fields.proofs.Walks.{open_room, after_start, after_deep, after_end}
use Rattle.wire_fields.proofs.Broken.{nothing_walked, walked_start, walked_field, walked_end, walked_whole, stop_at_item, stop_at_block, break_after, fields_or_broken, broken_once}
use Rattle.wire_fields.proofs.Parts.{tagged_on}
use Rattle.wire_fields.proofs.Cuts.{nothing_cut, part_cut, part_some}

-- ---- what stands after the groups

-- the tail goes on
pub stands_on : (at : ℕ) (groups : List ℕ) (P Q : List ℕ → Type 0) (bytes more : List ℕ) → Stands at groups P bytes → ((tail : List ℕ) → P tail → Q (tail ++ more)) → Stands at groups Q (bytes ++ more)
stands_on at groups P Q bytes more s on = record {
  front = s.front;
  run = s.run;
  tail = s.tail ++ more;
  fields = s.fields;
  joined = ap (λ (l : List ℕ). l ++ more) s.joined ∙ simp append_assoc;
  read = s.read;
  place = s.place;
  walked = s.walked;
  ends = on s.tail s.ends;
}

pub stands_as : (at : ℕ) (groups : List ℕ) (P Q : List ℕ → Type 0) (bytes : List ℕ) → Stands at groups P bytes → ((tail : List ℕ) → P tail → Q tail) → Stands at groups Q bytes
stands_as at groups P Q bytes s on = record {
  front = s.front;
  run = s.run;
  tail = s.tail;
  fields = s.fields;
  joined = s.joined;
  read = s.read;
  place = s.place;
  walked = s.walked;
  ends = on s.tail s.ends;
}

nil_after : (a b : List ℕ) → a ++ b ≡ [] → b ≡ []
nil_after [] b e = e
nil_after (x ∷ a) b e = absurd cc

-- where no group is open, nothing was walked
none_walked : (run : List ℕ) → IsWalked [] run → run ≡ []
unfolding IsOpen
none_walked run w = w.is_open.0

some_walked : (number : ℕ) (groups run : List ℕ) → IsWalked (number ∷ groups) run → run ≡ [] → ⊥
unfolding IsOpen
some_walked number groups run w e =
    items_apart.some (holding number Group) w.is_open.start w.is_open.starts
    (nil_front w.is_open.start w.is_open.inside (nil_after w.is_open.front (w.is_open.start ++ w.is_open.inside) (sym w.is_open.joined ∙ e)))

-- ---- breaks

-- an item that is none
pub stands_broken : (at : ℕ) (groups : List ℕ) (P : List ℕ → Type 0) (bytes : List ℕ) (kind : WireKind) → (s : Stands at groups P bytes) → item_at s.tail ≡ Err kind → (s.run ++ s.tail ≡ [] → ⊥) → IsBroken bytes at kind
stands_broken at groups P bytes kind s e some = record {
  front = s.front;
  rest = s.run ++ s.tail;
  joined = s.joined;
  place = sym s.place;
  fields = s.fields;
  read = s.read;
  some = some;
  breaks = break_after groups s.run s.tail kind s.walked (stop_at_item groups s.tail kind e);
}

-- nothing is cut short
no_fault_of_nothing : (bytes : List ℕ) (kind : WireKind) → item_at bytes ≡ Err kind → kind ≢ Truncated → bytes ≡ [] → ⊥
no_fault_of_nothing bytes kind e ne nil =
    let cut : item_at bytes ≡ Err Truncated = rw nil nothing_cut in
    ne (err_is kind Truncated (sym e ∙ cut))

pub stands_fault : (at : ℕ) (groups bytes : List ℕ) (kind : WireKind) → Stands at groups (Turns (turns.Fault kind)) bytes → IsBroken bytes at kind × (kind ≢ Truncated)
stands_fault at groups bytes kind s =
    (stands_broken at groups (Turns (turns.Fault kind)) bytes kind s s.ends.0 (λ e. no_fault_of_nothing s.tail kind s.ends.0 s.ends.1 (nil_after s.run s.tail e)), s.ends.1)

-- an item that can't follow
stands_blocked : (at : ℕ) (groups : List ℕ) (item : Item) (bytes : List ℕ) → Stands at groups (IsItem item) bytes → open_after_item groups item ≡ None → IsBroken bytes at (kind_of_block item)
stands_blocked at groups item bytes s none =
    let read : item_at s.tail ≡ Ok (item, []) = rw append-nil at (item_again item s.tail [] s.ends) in
    let few : length groups ≤ 64 = omega (arith, open_room groups s.walked.room s.run s.walked.is_open) in
    record {
      front = s.front;
      rest = s.run ++ s.tail;
      joined = s.joined;
      place = sym s.place;
      fields = s.fields;
      read = s.read;
      some = λ e. items_apart.some item s.tail s.ends (nil_after s.run s.tail e);
      breaks = break_after groups s.run s.tail (kind_of_block item) s.walked (stop_at_block groups s.tail [] item few read none);
    }

-- ---- a field ends

-- the bytes of a field with a stated length
bytes_item : (number len : ℕ) (tail : List ℕ) → IsTagged number 2 (IsSized len (λ body. length body ≡ len)) tail
    → (before : List ℕ) × (body : List ℕ) × (tail ≡ before ++ body) × (length body ≡ len) × IsItem (holding number (Bytes body)) tail
bytes_item number len tail h =
    let size = h.4.0 in
    let body = h.4.1 in
    let sized : IsVarint size (length body) = rw h.4.4 h.4.3 in (
      h.0 ++ size,
      body,
      h.2 ∙ ap (λ (l : List ℕ). h.0 ++ l) h.4.2 ∙ sym (append_assoc h.0 size body),
      h.4.4,
      record { tag = h.0; payload = h.1; joined = h.2; tagged = h.3.0; sound = h.3.1; paid = (size, sized, h.4.2) },
    )

-- a field of the top level that is one item
item_ends : (at number : ℕ) (payload : Payload) (P : List ℕ → Type 0) (now : List ℕ) (s : Stands at [] P now) → IsItem (holding number payload) s.tail → payload ≢ Group → EndsWith (record { number = number; payload = payload }) at now
item_ends at number payload P now s h ne = record {
  front = s.front;
  spelling = s.tail;
  fields = s.fields;
  joined = s.joined ∙ ap (λ (l : List ℕ). s.front ++ (l ++ s.tail)) (none_walked s.run s.walked);
  read = s.read;
  place = s.place;
  spelled = field_from_item 64 number payload s.tail ne h;
}

-- after it the reader is between two fields
ends_between : (field : WireField) (taken at : ℕ) (now : List ℕ) → taken ≡ length now → EndsWith field at now → StandsFor (record { taken = taken; at = taken; groups = []; part = parts.Nothing }) now
ends_between field taken at now len e = (
  len,
  record {
    front = now;
    run = [];
    tail = [];
    fields = e.fields ++ field ∷ [];
    joined = sym (append-nil now);
    read = rw e.joined (Concatenates-push (IsSpelling 64) e.fields field e.front e.spelling e.read e.spelled);
    place = len;
    walked = nothing_walked;
    ends = refl;
  },
)

-- a field in a group
item_inside : (taken at innermost number : ℕ) (groups : List ℕ) (payload : Payload) (P : List ℕ → Type 0) (now : List ℕ) → taken ≡ length now → (s : Stands at (innermost ∷ groups) P now) → IsItem (holding number payload) s.tail → payload ≢ Group
    → StandsFor (record { taken = taken; at = at; groups = innermost ∷ groups; part = parts.Nothing }) now
item_inside taken at innermost number groups payload P now len s h ne = (
  len,
  record {
    front = s.front;
    run = s.run ++ s.tail;
    tail = [];
    fields = s.fields;
    joined = s.joined ∙ ap (λ (l : List ℕ). s.front ++ l) (sym (append-nil (s.run ++ s.tail)));
    read = s.read;
    place = s.place;
    walked = walked_field groups innermost number payload s.run s.tail s.walked ne h;
    ends = refl;
  },
)

not_zero : (n : ℕ) → eqb (suc n) 0 ≡ false
not_zero n = ne_eqb (suc n) 0 (λ e. omega (arith, e))

-- ---- payloads of a stated length

-- after the length, or somewhere in the payload
sized_tail : (number len left less : ℕ) (tail more : List ℕ) → IsTagged number 2 (IsSized len (λ body. length body + left ≡ len)) tail → length more + less ≡ left → IsTagged number 2 (IsSized len (λ body. length body + less ≡ len)) (tail ++ more)
sized_tail number len left less tail more h sum =
    tagged_on number 2 (IsSized len (λ body. length body + left ≡ len)) (IsSized len (λ body. length body + less ≡ len)) tail more h
    (λ rest k. (k.0, k.1 ++ more, ap (λ (l : List ℕ). l ++ more) k.2 ∙ append_assoc k.0 k.1 more, k.3, omega (arith, k.4, sum, length-append k.1 more)))

-- the bytes but for so many
abbrev IsLeft : ℕ → ℕ → ℕ → List ℕ → Type 0
IsLeft number len left tail = IsTagged number 2 (IsSized len (λ body. length body + left ≡ len)) tail

left_ended : (at number len : ℕ) (now : List ℕ) → Stands at [] (IsLeft number len 0) now → EndsWithBytes number len at now
left_ended at number len now s =
    let h = s.ends in
    let whole = bytes_item number len s.tail (h.0, h.1, h.2, h.3, (h.4.0, h.4.1, h.4.2, h.4.3, omega (arith, h.4.4))) in
    let parts : now ≡ (s.front ++ (s.run ++ whole.0)) ++ whole.1 = s.joined ∙ ap (λ (l : List ℕ). s.front ++ (s.run ++ l)) whole.2 ∙ simp append_assoc in
    (s.front ++ (s.run ++ whole.0), whole.1, parts, whole.3, item_ends at number (Bytes whole.1) (IsLeft number len 0) now s whole.4 (λ e. absurd cc))

pub left_top : (part : Part) (taken at number len left : ℕ) (now : List ℕ) → taken ≡ length now → Stands at [] (IsLeft number len left) now
    → StandsFor (passed (record { taken = taken; at = at; groups = []; part = part }) number len left) now × (left ≡ 0 → EndsWithBytes number len at now)
left_top part taken at number len zero now length_is s =
    let ended = left_ended at number len now s in
    (ends_between (record { number = number; payload = Bytes ended.1 }) taken at now length_is ended.4, λ e. ended)
left_top part taken at number len (suc left) now length_is s = (
  rw (not_zero left) (length_is, stands_as at [] (IsLeft number len (suc left)) (IsPart (parts.Payload number len (suc left))) now s (λ tail h. (h.0, h.1, h.2, h.3, (h.4.0, h.4.1, h.4.2, h.4.3, (h.4.4, omega arith))))),
  λ e. absurd (omega (arith, e)),
)

pub left_inside : (part : Part) (taken at innermost number len left : ℕ) (groups now : List ℕ) → taken ≡ length now → Stands at (innermost ∷ groups) (IsLeft number len left) now
    → StandsFor (passed (record { taken = taken; at = at; groups = innermost ∷ groups; part = part }) number len left) now
left_inside part taken at innermost number len zero groups now length_is s =
    let h = s.ends in
    let whole = bytes_item number len s.tail (h.0, h.1, h.2, h.3, (h.4.0, h.4.1, h.4.2, h.4.3, omega (arith, h.4.4))) in
    rw (not_zero (length groups)) (item_inside taken at innermost number groups (Bytes whole.1) (IsLeft number len 0) now length_is s whole.4 (λ e. absurd cc))
left_inside part taken at innermost number len (suc left) groups now length_is s =
    rw (not_zero left) (length_is, stands_as at (innermost ∷ groups) (IsLeft number len (suc left)) (IsPart (parts.Payload number len (suc left))) now s (λ tail h. (h.0, h.1, h.2, h.3, (h.4.0, h.4.1, h.4.2, h.4.3, (h.4.4, omega arith)))))

passed_at : (part : Part) (taken at innermost number len left : ℕ) (groups : List ℕ) → (passed (record { taken = taken; at = at; groups = innermost ∷ groups; part = part }) number len left).at ≡ at
passed_at part taken at innermost number len zero groups = rw (not_zero (length groups)) refl
passed_at part taken at innermost number len (suc left) groups = rw (not_zero left) refl

passed_inside : (part : Part) (taken at innermost number len left : ℕ) (groups : List ℕ) → place_of (passed (record { taken = taken; at = at; groups = innermost ∷ groups; part = part }) number len left) ≡ Elsewhere
passed_inside part taken at innermost number len zero groups = refl
passed_inside part taken at innermost number len (suc left) groups = rw (not_zero left) refl

passed_top : (part : Part) (taken at number len left : ℕ) → place_of (passed (record { taken = taken; at = at; groups = []; part = part }) number len left) ≡ place_left number len left
passed_top part taken at number len zero = refl
passed_top part taken at number len (suc left) = rw (not_zero left) refl

passed_stays : (part : Part) (taken at number len left : ℕ) → 0 < left → (passed (record { taken = taken; at = at; groups = []; part = part }) number len left).at ≡ at
passed_stays part taken at number len zero lt = absurd (omega arith)
passed_stays part taken at number len (suc left) lt = rw (not_zero left) refl

-- some bytes of a payload
payload_on : (at number len left less : ℕ) (groups bytes more : List ℕ) → Stands at groups (IsPart (parts.Payload number len left)) bytes → length more + less ≡ left → Stands at groups (IsLeft number len less) (bytes ++ more)
payload_on at number len left less groups bytes more s sum =
    stands_on at groups (IsPart (parts.Payload number len left)) (IsLeft number len less) bytes more s
    (λ tail h. sized_tail number len left less tail more (h.0, h.1, h.2, h.3, (h.4.0, h.4.1, h.4.2, h.4.3, h.4.4.0)) sum)

-- ---- what a turn says

turn_open : (part next : Part) (taken at : ℕ) (groups now : List ℕ) → taken ≡ length now → Stands at groups (Turns (turns.Open next)) now
    → StandsFor (record { taken = taken; at = at; groups = groups; part = next }) now × (place_in groups next ≡ Elsewhere) × (at ≡ at)
turn_open part next taken at [] now length_is s = ((length_is, stands_as at [] (Turns (turns.Open next)) (IsPart next) now s (λ tail h. h.0)), s.ends.1, refl)
turn_open part next taken at (innermost ∷ groups) now length_is s =
    ((length_is, stands_as at (innermost ∷ groups) (Turns (turns.Open next)) (IsPart next) now s (λ tail h. h.0)), refl, refl)

-- the length alone
no_payload : (number len : ℕ) (tail : List ℕ) → IsTagged number 2 (IsSized len (λ rest. rest ≡ [])) tail → IsLeft number len len tail
no_payload number len tail h = (h.0, h.1, h.2, h.3, (h.4.0, h.4.1, h.4.2, h.4.3, omega (arith, ap length h.4.4)))

ends_with_length : (at number len : ℕ) (now : List ℕ) → Stands at [] (Turns (turns.Sized number len)) now → EndsWithLength number at len now
ends_with_length at number len now s =
    let h = s.ends in
    let tail_is : s.tail ≡ h.0 ++ h.4.0 = h.2 ∙ ap (λ (l : List ℕ). h.0 ++ l) (h.4.2 ∙ ap (λ (l : List ℕ). h.4.0 ++ l) h.4.4 ∙ append-nil h.4.0) in
    record {
      front = s.front;
      tag = h.0;
      size = h.4.0;
      fields = s.fields;
      joined = s.joined ∙ ap (λ (l : List ℕ). s.front ++ (l ++ s.tail)) (none_walked s.run s.walked) ∙ ap (λ (l : List ℕ). s.front ++ l) tail_is;
      read = s.read;
      place = s.place;
      tagged = h.3.0;
      sound = h.3.1;
      sized = h.4.3;
    }

turn_sized : (part : Part) (taken at number len : ℕ) (groups now : List ℕ) → taken ≡ length now → Stands at groups (Turns (turns.Sized number len)) now
    → Turned (sized (record { taken = taken; at = at; groups = groups; part = part }) number len).0 (record { taken = taken; at = at; groups = groups; part = part }) (sized (record { taken = taken; at = at; groups = groups; part = part }) number len).1 now
turn_sized part taken at number len [] now length_is s =
    let rest = stands_as at [] (Turns (turns.Sized number len)) (IsLeft number len len) now s (λ tail h. no_payload number len tail h) in
    let found = left_top part taken at number len len now length_is rest in (
      refl,
      record {
        stands = found.0;
        begun = ends_with_length at number len now s;
        goes_on = passed_top part taken at number len len;
        stays = passed_stays part taken at number len len;
        ended = found.1;
      },
    )
turn_sized part taken at number len (innermost ∷ groups) now length_is s =
    let rest = stands_as at (innermost ∷ groups) (Turns (turns.Sized number len)) (IsLeft number len len) now s (λ tail h. no_payload number len tail h) in
    let old : Top = record { taken = taken; at = at; groups = innermost ∷ groups; part = part } in
    subst (λ (b : Bool). Turned (cond b (Some (events.Begin number at len)) None) old (passed old number len len) now) (sym (not_zero (length groups)))
    (left_inside part taken at innermost number len len groups now length_is rest, passed_inside part taken at innermost number len len groups, passed_at part taken at innermost number len len groups)

turn_whole : (part : Part) (taken at : ℕ) (groups now : List ℕ) → taken ≡ length now → Stands at groups IsPlain now
    → Turned (other groups) (record { taken = taken; at = at; groups = groups; part = part }) (after_field (record { taken = taken; at = at; groups = groups; part = part })) now
turn_whole part taken at [] now length_is s =
    let field : WireField = record { number = s.ends.0; payload = s.ends.1 } in
    let ended = item_ends at s.ends.0 s.ends.1 IsPlain now s s.ends.2 s.ends.3 in
    record { stands = ends_between field taken at now length_is ended; between = refl; field = field; ended = ended; plain = s.ends.4 }
turn_whole part taken at (innermost ∷ groups) now length_is s =
    rw (not_zero (length groups)) (item_inside taken at innermost s.ends.0 groups s.ends.1 IsPlain now length_is s s.ends.2 s.ends.3, refl, refl)

-- the start of a group
group_inside : (taken at number : ℕ) (groups now : List ℕ) → taken ≡ length now → Stands at groups (IsItem (holding number Group)) now → length groups < 64
    → StandsFor (record { taken = taken; at = at; groups = number ∷ groups; part = parts.Nothing }) now
group_inside taken at number groups now length_is s lt = (
  length_is,
  record {
    front = s.front;
    run = s.run ++ s.tail;
    tail = [];
    fields = s.fields;
    joined = s.joined ∙ ap (λ (l : List ℕ). s.front ++ l) (sym (append-nil (s.run ++ s.tail)));
    read = s.read;
    place = s.place;
    walked = walked_start groups number s.run s.tail s.walked lt s.ends;
    ends = refl;
  },
)

turn_starts : (part : Part) (taken at number : ℕ) (groups now : List ℕ) → taken ≡ length now → Stands at groups (IsItem (holding number Group)) now
    → Turned (opened (record { taken = taken; at = at; groups = groups; part = part }) (open_after_field groups number Group)).0 (record { taken = taken; at = at; groups = groups; part = part }) (opened (record { taken = taken; at = at; groups = groups; part = part }) (open_after_field groups number Group)).1 now
turn_starts part taken at number groups now length_is s =
    elim (cases_lt (length groups) 64) [
      | inl lt ↦ rw (after_start groups number lt) (group_inside taken at number groups now length_is s lt, refl, refl)
      | inr le ↦
          let few : length groups ≤ 64 = omega (arith, open_room groups s.walked.room s.run s.walked.is_open) in
          let none : open_after_field groups number Group ≡ None = after_deep groups number (omega arith) in
          rw none (refl, stands_blocked at groups (holding number Group) now s none, λ e. absurd cc)
    ]

-- the end of a group
group_ends : (at number : ℕ) (now : List ℕ) → Stands at (number ∷ []) (IsItem (Ends number)) now → EndsWith (record { number = number; payload = Group }) at now
group_ends at number now s = record {
  front = s.front;
  spelling = s.run ++ s.tail;
  fields = s.fields;
  joined = s.joined;
  read = s.read;
  place = s.place;
  spelled = walked_whole number s.run s.tail s.walked s.ends;
}

group_closed : (taken at number outer : ℕ) (groups now : List ℕ) → taken ≡ length now → Stands at (number ∷ outer ∷ groups) (IsItem (Ends number)) now
    → StandsFor (record { taken = taken; at = at; groups = outer ∷ groups; part = parts.Nothing }) now
group_closed taken at number outer groups now length_is s = (
  length_is,
  record {
    front = s.front;
    run = s.run ++ s.tail;
    tail = [];
    fields = s.fields;
    joined = s.joined ∙ ap (λ (l : List ℕ). s.front ++ l) (sym (append-nil (s.run ++ s.tail)));
    read = s.read;
    place = s.place;
    walked = walked_end groups outer number s.run s.tail s.walked s.ends;
    ends = refl;
  },
)

turn_closes : (part : Part) (taken at number : ℕ) (groups now : List ℕ) → taken ≡ length now → Stands at (number ∷ groups) (IsItem (Ends number)) now
    → Turned (closed (record { taken = taken; at = at; groups = number ∷ groups; part = part }) (Some groups)).0 (record { taken = taken; at = at; groups = number ∷ groups; part = part }) (closed (record { taken = taken; at = at; groups = number ∷ groups; part = part }) (Some groups)).1 now
turn_closes part taken at number [] now length_is s =
    let field : WireField = record { number = number; payload = Group } in
    let ended = group_ends at number now s in
    record { stands = ends_between field taken at now length_is ended; between = refl; field = field; ended = ended; plain = λ body e. absurd cc }
turn_closes part taken at number (outer ∷ groups) now length_is s =
    rw (not_zero (length groups)) (group_closed taken at number outer groups now length_is s, refl, refl)

by_test : (b : Bool) → (b ≡ true) ⊎ (b ≡ false)
by_test true = inl refl
by_test false = inr refl

turn_ends : (part : Part) (taken at number : ℕ) (groups now : List ℕ) → taken ≡ length now → Stands at groups (IsItem (Ends number)) now
    → Turned (closed (record { taken = taken; at = at; groups = groups; part = part }) (open_after_end groups number)).0 (record { taken = taken; at = at; groups = groups; part = part }) (closed (record { taken = taken; at = at; groups = groups; part = part }) (open_after_end groups number)).1 now
turn_ends part taken at number [] now length_is s = (refl, stands_blocked at [] (Ends number) now s refl, λ e. absurd cc)
turn_ends part taken at number (innermost ∷ groups) now length_is s =
    elim (by_test (eqb innermost number)) [
      | inl same ↦
          let number_is : innermost ≡ number = eqb-true _ _ same in
          let here : Stands at (number ∷ groups) (IsItem (Ends number)) now = rw number_is at s in
          rw (number_is, after_end groups number) (turn_closes part taken at number groups now length_is here)
      | inr unlike ↦
          let none : open_after_end (innermost ∷ groups) number ≡ None = rw unlike refl in
          rw none (refl, stands_blocked at (innermost ∷ groups) (Ends number) now s none, λ e. absurd cc)
    ]

pub turned_says : (old : Top) (turn : Turn) (now : List ℕ) → old.taken ≡ length now → Stands old.at old.groups (Turns turn) now → Turned (turned old turn).0 old (turned old turn).1 now
turned_says old (turns.Open next) now length_is s = turn_open old.part next old.taken old.at old.groups now length_is s
turned_says old (turns.Sized number len) now length_is s = turn_sized old.part old.taken old.at number len old.groups now length_is s
turned_says old turns.Whole now length_is s = turn_whole old.part old.taken old.at old.groups now length_is s
turned_says old (turns.Starts number) now length_is s = turn_starts old.part old.taken old.at number old.groups now length_is s
turned_says old (turns.Ends number) now length_is s = turn_ends old.part old.taken old.at number old.groups now length_is s
turned_says old (turns.Fault kind) now length_is s =
    let f = stands_fault old.at old.groups now kind s in
    (refl, f.0, f.1)

-- ---- a piece of a payload

-- at the top level
part_at : (taken at number len left used : ℕ) (bytes more : List ℕ) → length more ≡ used → used ≤ left → StandsFor (record { taken = taken; at = at; groups = []; part = parts.Payload number len left }) bytes
    → HasPart used (record { taken = taken; at = at; groups = []; part = parts.Payload number len left })
    (passed (record { taken = taken + used; at = at; groups = []; part = parts.Payload number len left }) number len (left - used)) (bytes ++ more)
part_at taken at number len left used bytes more used_is le s =
    let on = payload_on at number len left (left - used) [] bytes more s.1 (omega (arith, used_is)) in
    let found = left_top (parts.Payload number len left) (taken + used) at number len (left - used) (bytes ++ more) (omega (arith, s.0, used_is, length-append bytes more)) on in
    record {
      stands = found.0;
      number = number;
      len = len;
      left = left;
      was = refl;
      within = le;
      goes_on = passed_top (parts.Payload number len left) (taken + used) at number len (left - used);
      stays = λ lt. passed_stays (parts.Payload number len left) (taken + used) at number len (left - used) (omega arith);
      ended = λ e. found.1 (omega arith);
    }

pub part_says : (old : Top) (number len left used : ℕ) (bytes more : List ℕ) → old.groups ≡ [] → old.part ≡ parts.Payload number len left → length more ≡ used → used ≤ left → StandsFor old bytes
    → HasPart used old (passed (with_taken old (old.taken + used)) number len (left - used)) (bytes ++ more)
part_says old number len left used bytes more no_groups part_is used_is le s =
    let old_is : old ≡ record { taken = old.taken; at = old.at; groups = []; part = parts.Payload number len left } =
    λ i. record { taken = old.taken; at = old.at; groups = no_groups i; part = part_is i } in
    subst (λ (top : Top). HasPart used top (passed (with_taken top (top.taken + used)) number len (left - used)) (bytes ++ more)) (sym old_is)
    (part_at old.taken old.at number len left used bytes more used_is le (subst (λ (top : Top). StandsFor top bytes) old_is s))

-- in a group
inside_at : (taken at number len left used : ℕ) (groups bytes more : List ℕ) → length more ≡ used → used ≤ left → StandsFor (record { taken = taken; at = at; groups = groups; part = parts.Payload number len left }) bytes
    → IsInNoField (record { taken = taken; at = at; groups = groups; part = parts.Payload number len left })
    → Turned None (record { taken = taken; at = at; groups = groups; part = parts.Payload number len left })
    (passed (record { taken = taken + used; at = at; groups = groups; part = parts.Payload number len left }) number len (left - used)) (bytes ++ more)
inside_at taken at number len left used [] bytes more used_is le s free = absurd (free number len left refl)
inside_at taken at number len left used (innermost ∷ groups) bytes more used_is le s free =
    let part = parts.Payload number len left in
    let on = payload_on at number len left (left - used) (innermost ∷ groups) bytes more s.1 (omega (arith, used_is)) in
    let length_is : taken + used ≡ length (bytes ++ more) = omega (arith, s.0, used_is, length-append bytes more) in
    (left_inside part (taken + used) at innermost number len (left - used) groups (bytes ++ more) length_is on, passed_inside part (taken + used) at innermost number len (left - used) groups, passed_at part (taken + used) at innermost number len (left - used) groups)

pub inside_says : (old : Top) (number len left used : ℕ) (bytes more : List ℕ) → old.part ≡ parts.Payload number len left → length more ≡ used → used ≤ left → StandsFor old bytes → IsInNoField old
    → Turned None old (passed (with_taken old (old.taken + used)) number len (left - used)) (bytes ++ more)
inside_says old number len left used bytes more part_is used_is le s free =
    let old_is : old ≡ record { taken = old.taken; at = old.at; groups = old.groups; part = parts.Payload number len left } =
    λ i. record { taken = old.taken; at = old.at; groups = old.groups; part = part_is i } in
    subst (λ (top : Top). Turned None top (passed (with_taken top (top.taken + used)) number len (left - used)) (bytes ++ more)) (sym old_is)
    (inside_at old.taken old.at number len left used old.groups bytes more used_is le (subst (λ (top : Top). StandsFor top bytes) old_is s) (subst IsInNoField old_is free))

-- ---- a piece of anything else

turned_from : (event : Option TopEvent) (old before new : Top) (now : List ℕ) → before.at ≡ old.at → Turned event before new now → Turned event old new now
turned_from None old before new now e t = (t.0, t.1, t.2 ∙ e)
turned_from (Some events.More) old before new now e t = t
turned_from (Some (events.Begin number at len)) old before new now e t = (t.0 ∙ e, t.1)
turned_from (Some events.Part) old before new now e t = t
turned_from (Some events.Other) old before new now e t = subst (λ (at : ℕ). HasOther at new now) e t
turned_from (Some (events.Broken fault)) old before new now e t = (t.0 ∙ e, t.1, t.2)

pub advanced : (old : Top) (turn : Turn) (bytes more : List ℕ) (used : ℕ) → length more ≡ used → StandsFor old bytes → ((read : List ℕ) → IsPart old.part read → Turns turn (read ++ more))
    → Turned (turned (with_taken old (old.taken + used)) turn).0 old (turned (with_taken old (old.taken + used)) turn).1 (bytes ++ more)
advanced old turn bytes more used used_is s on =
    let before = with_taken old (old.taken + used) in
    turned_from (turned before turn).0 old before (turned before turn).1 (bytes ++ more) refl
    (turned_says before turn (bytes ++ more) (omega (arith, s.0, used_is, length-append bytes more)) (stands_on old.at old.groups (IsPart old.part) (Turns turn) bytes more s.1 on))

-- ---- several turns

-- so many bytes were used, and no field ended but in groups
abbrev pub Goes : Top → Top → ℕ → List ℕ → Type 0
Goes old now used bytes =
    StandsFor now bytes × (now.at ≡ old.at) × (((used ≡ 0) × (place_of now ≡ place_of old)) ⊎ (place_of now ≡ Elsewhere))

pub goes_in_no_field : (old now : Top) (used : ℕ) (bytes : List ℕ) → IsInNoField old → Goes old now used bytes → IsInNoField now
goes_in_no_field old now used bytes free g number len left e =
    elim g.2 [
      | inl first ↦ free number len left (sym first.1 ∙ e)
      | inr later ↦ let d = sym later ∙ e in absurd cc
    ]

pub goes_on : (old now next : Top) (used more : ℕ) (bytes : List ℕ) → now.at ≡ old.at → Turned None now next bytes → Goes old next (used + more) bytes
goes_on old now next used more bytes e t = (t.0, t.2 ∙ e, inr t.1)

pub goes_told : (old now next : Top) (event : TopEvent) (used : ℕ) (piece bytes : List ℕ) → now.at ≡ old.at → IsInNoField old → Turned (Some event) now next bytes → Tells event used piece old next bytes
goes_told old now next events.More used piece bytes e free t = absurd t
goes_told old now next (events.Begin number at len) used piece bytes e free t = (free, t.0 ∙ e, t.1)
goes_told old now next events.Part used piece bytes e free t = absurd t
goes_told old now next events.Other used piece bytes e free t = (free, subst (λ (at : ℕ). HasOther at next bytes) e t)
goes_told old now next (events.Broken fault) used piece bytes e free t = (t.0 ∙ e, t.1, t.2)

-- ---- the end of the bytes

cut_short : (top : Top) (bytes : List ℕ) → (s : StandsFor top bytes) → (s.1.run ++ s.1.tail ≡ [] → ⊥) → IsBroken bytes top.at Truncated
cut_short top bytes s some = stands_broken top.at top.groups (IsPart top.part) bytes Truncated s.1 (part_cut top.part s.1.tail s.1.ends) some

fields_at : (at : ℕ) (bytes : List ℕ) → Stands at [] (IsPart parts.Nothing) bytes → (fields : List WireField) × AreFields bytes fields
fields_at at bytes s =
    let whole : bytes ≡ s.front = s.joined ∙ ap (λ (l : List ℕ). s.front ++ (l ++ s.tail)) (none_walked s.run s.walked) ∙ ap (λ (l : List ℕ). s.front ++ l) s.ends ∙ append-nil s.front in
    (s.fields, rw whole s.read)

-- the bytes are whole fields, or the open one is cut short
abbrev pub IsWholeOrCut : Top → List ℕ → Type 0
IsWholeOrCut top bytes =
    ((place_of top ≡ Between) × ((fields : List WireField) × AreFields bytes fields))
    ⊎ ((place_of top ≢ Between) × IsBroken bytes top.at Truncated)

whole_or_cut : (taken at : ℕ) (groups : List ℕ) (part : Part) (bytes : List ℕ) → StandsFor (record { taken = taken; at = at; groups = groups; part = part }) bytes
    → IsWholeOrCut (record { taken = taken; at = at; groups = groups; part = part }) bytes
whole_or_cut taken at (number ∷ groups) part bytes s =
    inr (λ e. absurd cc, cut_short (record { taken = taken; at = at; groups = number ∷ groups; part = part }) bytes s (λ e. some_walked number groups s.1.run s.1.walked (nil_front s.1.run s.1.tail e)))
whole_or_cut taken at [] parts.Nothing bytes s = inl (refl, fields_at at bytes s.1)
whole_or_cut taken at [] (parts.Tag chain) bytes s = inr (λ e. absurd cc, cut_short (record { taken = taken; at = at; groups = []; part = parts.Tag chain }) bytes s (λ e. part_some (parts.Tag chain) s.1.tail s.1.ends (λ d. absurd cc) (nil_after s.1.run s.1.tail e)))
whole_or_cut taken at [] (parts.Value chain) bytes s = inr (λ e. absurd cc, cut_short (record { taken = taken; at = at; groups = []; part = parts.Value chain }) bytes s (λ e. part_some (parts.Value chain) s.1.tail s.1.ends (λ d. absurd cc) (nil_after s.1.run s.1.tail e)))
whole_or_cut taken at [] (parts.Size number chain) bytes s = inr (λ e. absurd cc, cut_short (record { taken = taken; at = at; groups = []; part = parts.Size number chain }) bytes s (λ e. part_some (parts.Size number chain) s.1.tail s.1.ends (λ d. absurd cc) (nil_after s.1.run s.1.tail e)))
whole_or_cut taken at [] (parts.Payload number len left) bytes s = inr (λ e. absurd cc, cut_short (record { taken = taken; at = at; groups = []; part = parts.Payload number len left }) bytes s (λ e. part_some (parts.Payload number len left) s.1.tail s.1.ends (λ d. absurd cc) (nil_after s.1.run s.1.tail e)))
whole_or_cut taken at [] (parts.Eight left) bytes s = inr (λ e. absurd cc, cut_short (record { taken = taken; at = at; groups = []; part = parts.Eight left }) bytes s (λ e. part_some (parts.Eight left) s.1.tail s.1.ends (λ d. absurd cc) (nil_after s.1.run s.1.tail e)))
whole_or_cut taken at [] (parts.Four left) bytes s = inr (λ e. absurd cc, cut_short (record { taken = taken; at = at; groups = []; part = parts.Four left }) bytes s (λ e. part_some (parts.Four left) s.1.tail s.1.ends (λ d. absurd cc) (nil_after s.1.run s.1.tail e)))

pub stands_whole_or_cut : (top : Top) (bytes : List ℕ) → StandsFor top bytes → IsWholeOrCut top bytes
stands_whole_or_cut top bytes s = whole_or_cut top.taken top.at top.groups top.part bytes s

pub stands_between : (top : Top) (bytes : List ℕ) → StandsFor top bytes → place_of top ≡ Between → (fields : List WireField) × AreFields bytes fields
stands_between top bytes s e =
    elim (stands_whole_or_cut top bytes s) [
      | inl whole ↦ whole.1
      | inr cut ↦ absurd (cut.0 e)
    ]

pub stands_cut : (top : Top) (bytes : List ℕ) → StandsFor top bytes → place_of top ≢ Between → IsBroken bytes top.at Truncated
stands_cut top bytes s ne =
    elim (stands_whole_or_cut top bytes s) [
      | inl whole ↦ absurd (ne whole.0)
      | inr cut ↦ cut.1
    ]

-- bytes that a reader stands for break in no other way than being cut short
pub stands_no_break : (top : Top) (bytes : List ℕ) (at : ℕ) (kind : WireKind) → StandsFor top bytes → IsBroken bytes at kind → kind ≡ Truncated
stands_no_break top bytes at kind s b =
    elim (stands_whole_or_cut top bytes s) [
      | inl whole ↦ absurd (fields_or_broken bytes whole.1.0 at kind whole.1.1 b)
      | inr cut ↦ (broken_once bytes at top.at kind Truncated b cut.1).1
    ]

-- ---- what the functions of the reader cite

-- more of a piece
pub taken_on : (bytes piece rest : List ℕ) (used more : ℕ) → rest ≡ drop used piece → (bytes ++ take used piece) ++ take more rest ≡ bytes ++ take (used + more) piece
taken_on bytes piece rest used more rest_is =
    append_assoc bytes (take used piece) (take more rest) ∙ ap (λ (l : List ℕ). bytes ++ l) (ap (λ (l : List ℕ). take used piece ++ take more l) rest_is ∙ sym (take-add used more piece))

same_taken : (test : Bool) (top : Top) (part : Part) → (cond test (after_field top) (with_part top part)).taken ≡ top.taken
same_taken true top part = refl
same_taken false top part = refl

opened_taken : (top : Top) (found : Option (List ℕ)) → (opened top found).1.taken ≡ top.taken
opened_taken top (Some groups) = refl
opened_taken top None = refl

closed_taken : (top : Top) (found : Option (List ℕ)) → (closed top found).1.taken ≡ top.taken
closed_taken top (Some groups) = refl
closed_taken top None = refl

pub turned_taken : (top : Top) (turn : Turn) → (turned top turn).1.taken ≡ top.taken
turned_taken top (turns.Open part) = refl
turned_taken top (turns.Sized number len) = same_taken (eqb len 0) top (parts.Payload number len len)
turned_taken top turns.Whole = refl
turned_taken top (turns.Starts number) = opened_taken top (open_after_field top.groups number Group)
turned_taken top (turns.Ends number) = closed_taken top (open_after_end top.groups number)
turned_taken top (turns.Fault kind) = refl

-- ---- in a payload of the top level

in_field : (groups : List ℕ) (part : Part) (number len left : ℕ) → place_in groups part ≡ InField number len left → (groups ≡ []) × (part ≡ parts.Payload number len left)
in_field [] parts.Nothing number len left e = absurd cc
in_field [] (parts.Payload other size rest) number len left e = (refl, cc)
in_field [] (parts.Tag chain) number len left e = absurd cc
in_field [] (parts.Value chain) number len left e = absurd cc
in_field [] (parts.Size other chain) number len left e = absurd cc
in_field [] (parts.Eight rest) number len left e = absurd cc
in_field [] (parts.Four rest) number len left e = absurd cc
in_field (innermost ∷ groups) part number len left e = absurd cc

-- between two fields all bytes are whole fields
between : (groups : List ℕ) (part : Part) → place_in groups part ≡ Between → (groups ≡ []) × (part ≡ parts.Nothing)
between [] parts.Nothing e = (refl, refl)
between [] (parts.Payload number len left) e = absurd cc
between [] (parts.Tag chain) e = absurd cc
between [] (parts.Value chain) e = absurd cc
between [] (parts.Size number chain) e = absurd cc
between [] (parts.Eight left) e = absurd cc
between [] (parts.Four left) e = absurd cc
between (innermost ∷ groups) part e = absurd cc

fields_end : (at : ℕ) (bytes : List ℕ) → Stands at [] (IsPart parts.Nothing) bytes → at ≡ length bytes
fields_end at bytes s =
    let whole : bytes ≡ s.front = s.joined ∙ ap (λ (l : List ℕ). s.front ++ (l ++ s.tail)) (none_walked s.run s.walked) ∙ ap (λ (l : List ℕ). s.front ++ l) s.ends ∙ append-nil s.front in
    omega (arith, s.place, ap length whole)

pub between_at : (top : Top) (bytes : List ℕ) → StandsFor top bytes → place_of top ≡ Between → top.at ≡ length bytes
between_at top bytes s e =
    let is = between top.groups top.part e in
    fields_end top.at bytes (rw (is.0, is.1) at s.1)
