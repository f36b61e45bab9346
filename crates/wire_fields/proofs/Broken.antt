-- Where no item follows what was walked, the bytes break there, in one way.
use Rattle.std.proofs.Common.{◌≡◌, ◌≢◌, ℕ, zero, suc, ◌<◌, ◌≤◌, Bool, true, false, cond, ltb, List, [], ◌∷◌, ◌++◌, length, take, drop, Option, Some, None, Ok, Err, refl, sym, ap, ◌∙◌, arith, inl, inr, append_assoc}
use Rattle.std.specs.Prelude.{option_and_then}
use Rattle.std.proofs.lemmas.Bool.{ltb-false}
use Rattle.std.proofs.lemmas.List.{length-append, append-nil, append_cancel_right, take_at, drop_at}
use Rattle.gw_base.specs.declared.wire_kind.WireKind.{WireKind}
use Rattle.gw_base.specs.declared.wire_kind.WireKind.TheVariants.{Truncated, LongVarint, BadTag, BadGroup, DeepGroup}
use Rattle.wire_fields.specs.Grammar.{Payload, Varint, Fixed64, Bytes, Group, Fixed32, WireField, Item, Holds, Ends, IsItem, IsSpelling, AreFields, Concatenates}
use Rattle.wire_fields.specs.Breaks.{open_after_field, open_after_end, open_after_item, open_after, IsRun, BeginsEnd, BeginsDeep, HasKind, IsLongestRun, IsBreak, IsBroken}
use Rattle.wire_fields.specs.OpenGroups.{IsOpen, IsWalked}
use Rattle.wire_fields.specs.Reading.{holding, item_at, kind_of_block}
use Rattle.wire_fields.proofs.Numbers.{ok_is}
use Rattle.wire_fields.proofs.Items.{FailsAtItem, item_again, item_found, item_fault, item_long, item_unsound}
use Rattle.wire_fields.proofs.Lists.{Concatenates-push, stops_at_end, one_list, one_list_whole}
use Rattle.wire_fields.proofs.Spellings.{items_apart, fields_apart, field_from_item}
use Rattle.wire_fields.proofs.Walks.{open_room, open_start, open_field, open_end, open_close, NoStep, after_whole, after_start, after_deep, after_end, not_closed, no_field, no_field_at_all}

-- ---- what was walked

-- the first step of a run
pub step_of : (o : Option (List ℕ)) (items : List Item) (last : List ℕ) → option_and_then (λ now. open_after now items) o ≡ Some last → (now : List ℕ) × (o ≡ Some now) × (open_after now items ≡ Some last)
step_of None items last e = absurd cc
step_of (Some now) items last e = (now, refl, e)

pub some_is : (x y : List ℕ) → Some x ≡ Some y → x ≡ y
some_is x y e = cc

open_after-push : (groups : List ℕ) (items : List Item) (item : Item) (now next : List ℕ) → open_after groups items ≡ Some now → open_after_item now item ≡ Some next → open_after groups (items ++ item ∷ []) ≡ Some next
open_after-push groups [] item now next h k =
    let same : groups ≡ now = cc in
    rw (same, k) refl
open_after-push groups (first ∷ items) item now next h k =
    let step = step_of (open_after_item groups first) items now h in
    rw step.1 (open_after-push step.0 items item now next step.2 k)

run_push : (items : List Item) (item : Item) (a b now next : List ℕ) → Concatenates IsItem items a → open_after [] items ≡ Some now → IsItem item b → open_after_item now item ≡ Some next → IsRun (a ++ b) next
run_push items item a b now next h e k step = (items ++ item ∷ [], Concatenates-push IsItem items item a b h k, open_after-push [] items item now next e step)

pub nothing_walked : IsWalked [] []
unfolding IsOpen
nothing_walked = record { room = 64; is_open = (refl, refl); is_run = ([], refl, refl) }

start_in : (groups : List ℕ) (number : ℕ) (a b : List ℕ) (room : ℕ) → IsOpen groups room a → IsRun a groups → length groups < 64 → IsItem (holding number Group) b → IsWalked (number ∷ groups) (a ++ b)
start_in groups number a b zero o r lt h = absurd (omega (arith, open_room groups zero a o))
start_in groups number a b (suc room) o r lt h = record {
  room = room;
  is_open = open_start groups room number a b o h;
  is_run = run_push r.0 (holding number Group) a b groups (number ∷ groups) r.1 r.2 h (after_start groups number lt);
}

pub walked_start : (groups : List ℕ) (number : ℕ) (a b : List ℕ) → IsWalked groups a → length groups < 64 → IsItem (holding number Group) b → IsWalked (number ∷ groups) (a ++ b)
walked_start groups number a b w lt h = start_in groups number a b w.room w.is_open w.is_run lt h

pub walked_field : (groups : List ℕ) (outer number : ℕ) (payload : Payload) (a b : List ℕ) → IsWalked (outer ∷ groups) a → payload ≢ Group → IsItem (holding number payload) b → IsWalked (outer ∷ groups) (a ++ b)
walked_field groups outer number payload a b w ne h = record {
  room = w.room;
  is_open = open_field groups w.room outer (record { number = number; payload = payload }) a b w.is_open (field_from_item w.room number payload b ne h);
  is_run = run_push w.is_run.0 (holding number payload) a b (outer ∷ groups) (outer ∷ groups) w.is_run.1 w.is_run.2 h (after_whole (outer ∷ groups) number payload ne);
}

pub walked_end : (groups : List ℕ) (outer number : ℕ) (a b : List ℕ) → IsWalked (number ∷ outer ∷ groups) a → IsItem (Ends number) b → IsWalked (outer ∷ groups) (a ++ b)
walked_end groups outer number a b w h = record {
  room = suc w.room;
  is_open = open_end groups w.room number outer a b w.is_open h;
  is_run = run_push w.is_run.0 (Ends number) a b (number ∷ outer ∷ groups) (outer ∷ groups) w.is_run.1 w.is_run.2 h (after_end (outer ∷ groups) number);
}

pub walked_whole : (number : ℕ) (a b : List ℕ) → IsWalked (number ∷ []) a → IsItem (Ends number) b → IsSpelling 64 (record { number = number; payload = Group }) (a ++ b)
walked_whole number a b w h = open_close w.room number a b w.is_open h

-- ---- no item follows

-- whatever item the bytes begin with, this is it
the_item : (tail rest first after : List ℕ) (item other : Item) → item_at tail ≡ Ok (item, rest) → tail ≡ first ++ after → IsItem other first → item ≡ other
the_item tail rest first after item other e parts h =
    ap (λ (p : Item × List ℕ). p.0) (ok_is (item, rest) (other, after) (sym e ∙ ap item_at parts ∙ item_again other first after h))

no_item : (tail first after : List ℕ) (other : Item) (k : WireKind) → item_at tail ≡ Err k → tail ≡ first ++ after → IsItem other first → ⊥
no_item tail first after other k e parts h =
    let d = sym e ∙ ap item_at parts ∙ item_again other first after h in absurd cc

-- why no item follows where these groups are open
pub record IsStop (groups tail : List ℕ) (kind : WireKind) : Type 0 where
  pub no_step : NoStep groups tail
  pub kind_is : HasKind kind groups tail

-- where no item is read, the bytes begin with what is wrong
item_kind : (groups tail : List ℕ) (k : WireKind) → item_at tail ≡ Err k → FailsAtItem tail k → HasKind k groups tail
item_kind groups tail k e (inl l) = rw l.0 l.1
item_kind groups tail k e (inr (inl b)) = rw b.0 b.1
item_kind groups tail k e (inr (inr t)) =
    let cut : item_at tail ≡ Err Truncated = rw (← t) e in
    rw t (
      λ l. (let d = sym cut ∙ item_long tail l in absurd cc),
      λ b. (let d = sym cut ∙ item_unsound tail b in absurd cc),
      λ n. no_item tail n.0 n.1 (Ends n.2) Truncated cut n.3 n.4,
      λ n. no_item tail n.0 n.1 (holding n.2 Group) Truncated cut n.3 n.4,
    )

pub stop_at_item : (groups tail : List ℕ) (k : WireKind) → item_at tail ≡ Err k → IsStop groups tail k
stop_at_item groups tail k e = record {
  no_step = λ item first rest now parts h _. no_item tail first rest item k e parts h;
  kind_is = item_kind groups tail k e (item_fault tail k e);
}

pub stop_at_end : (groups tail rest : List ℕ) (number : ℕ) → item_at tail ≡ Ok (Ends number, rest) → open_after_end groups number ≡ None → IsStop groups tail BadGroup
stop_at_end groups tail rest number e none =
    let f = item_found tail (Ends number) rest e in
    record {
      no_step = λ item first after now parts h step.
          let same : Ends number ≡ item = the_item tail rest first after (Ends number) item e parts h in
          let d : open_after_item groups (Ends number) ≡ Some now = ap (λ (i : Item). open_after_item groups i) same ∙ step in
          absurd cc;
      kind_is = (f.0, rest, number, f.1, f.2, none);
    }

pub stop_at_start : (groups tail rest : List ℕ) (number : ℕ) → item_at tail ≡ Ok (holding number Group, rest) → length groups ≡ 64 → IsStop groups tail DeepGroup
stop_at_start groups tail rest number e full =
    let f = item_found tail (holding number Group) rest e in
    record {
      no_step = λ item first after now parts h step.
          let same : holding number Group ≡ item = the_item tail rest first after (holding number Group) item e parts h in
          let d : open_after_item groups (holding number Group) ≡ Some now = ap (λ (i : Item). open_after_item groups i) same ∙ step in
          let none' = after_deep groups number full in
          absurd cc;
      kind_is = (f.0, rest, number, f.1, f.2, full);
    }

none_from : (b : Bool) (x : List ℕ) → cond b (Some x) None ≡ None → b ≡ false
none_from true x e = absurd cc
none_from false x e = refl

stop_at_field : (groups tail rest : List ℕ) (number : ℕ) (payload : Payload) → length groups ≤ 64 → item_at tail ≡ Ok (holding number payload, rest) → open_after_field groups number payload ≡ None → IsStop groups tail DeepGroup
stop_at_field groups tail rest number Group le e none =
    let full : 64 ≤ length groups = ltb-false _ _ (none_from (ltb (length groups) 64) (number ∷ groups) none) in
    stop_at_start groups tail rest number e (omega arith)
stop_at_field groups tail rest number (Varint value) le e none = absurd cc
stop_at_field groups tail rest number (Fixed64 value) le e none = absurd cc
stop_at_field groups tail rest number (Bytes body) le e none = absurd cc
stop_at_field groups tail rest number (Fixed32 value) le e none = absurd cc

-- an item that can't follow
pub stop_at_block : (groups tail rest : List ℕ) (item : Item) → length groups ≤ 64 → item_at tail ≡ Ok (item, rest) → open_after_item groups item ≡ None → IsStop groups tail (kind_of_block item)
stop_at_block groups tail rest (Holds field) le e none = stop_at_field groups tail rest field.number field.payload le e none
stop_at_block groups tail rest (Ends number) le e none = stop_at_end groups tail rest number e none

-- ---- the longest run

longest_by : (before groups last : List ℕ) (items others : List Item) (a b x y : List ℕ) → Concatenates IsItem items a → Concatenates IsItem others b → a ++ x ≡ b ++ y
    → open_after before items ≡ Some groups → open_after before others ≡ Some last → NoStep groups x → length b ≤ length a
longest_by before groups last items [] a b x y h k e s t stuck = rw k (omega arith)
longest_by before groups last [] (other ∷ others) a b x y h k e s t stuck =
    let now = step_of (open_after_item before other) others last t in
    let same : before ≡ groups = cc in
    let parts : x ≡ k.0 ++ (k.1 ++ y) = sym (ap (λ (l : List ℕ). l ++ x) h) ∙ e ∙ ap (λ (l : List ℕ). l ++ y) k.2 ∙ append_assoc k.0 k.1 y in
    absurd (stuck other k.0 (k.1 ++ y) now.0 parts k.3 (rw (← same) now.1))
longest_by before groups last (item ∷ items) (other ∷ others) a b x y h k e s t stuck =
    let left = step_of (open_after_item before item) items groups s in
    let right = step_of (open_after_item before other) others last t in
    let parts : h.0 ++ (h.1 ++ x) ≡ k.0 ++ (k.1 ++ y) = sym (ap (λ (l : List ℕ). l ++ x) h.2 ∙ append_assoc h.0 h.1 x) ∙ e ∙ ap (λ (l : List ℕ). l ++ y) k.2 ∙ append_assoc k.0 k.1 y in
    let same = items_apart.same item other h.0 k.0 (h.1 ++ x) (k.1 ++ y) h.3 k.3 parts in
    let first : h.0 ≡ k.0 = append_cancel_right h.0 k.0 (k.1 ++ y) (ap (λ (l : List ℕ). h.0 ++ l) (sym same.1) ∙ parts) in
    let now_is : left.0 ≡ right.0 = some_is left.0 right.0 (sym left.1 ∙ ap (λ (i : Item). open_after_item before i) same.0 ∙ right.1) in
    let others_same : open_after left.0 others ≡ Some last = rw now_is right.2 in
    let shorter = longest_by left.0 groups last items others h.1 k.1 x y h.4 k.4 same.1 left.2 others_same stuck in
    omega (arith, ap length h.2, ap length k.2, length-append h.0 h.1, length-append k.0 k.1, ap length first, shorter)

-- bytes that begin with what was walked, where no item follows, break in this way
pub break_after : (groups a tail : List ℕ) (kind : WireKind) → IsWalked groups a → IsStop groups tail kind → IsBreak (a ++ tail) kind
break_after groups a tail kind w s =
    let sum = open_room groups w.room a w.is_open in
    record {
      none = λ field first rest e h. no_field_at_all groups w.room a tail w.is_open (no_field groups w.room tail sum s.no_step) (not_closed groups tail s.no_step) field first rest e h;
      run = a;
      tail = tail;
      groups = groups;
      longest = record {
        joined = refl;
        is_run = w.is_run;
        longest = λ other rest others e r. longest_by [] groups others w.is_run.0 r.0 a other tail rest w.is_run.1 r.1 e w.is_run.2 r.2 s.no_step;
      };
      kind_is = s.kind_is;
    }

-- ---- the laws

-- two longest runs are one
run_lengths : (bytes run tail groups other rest others : List ℕ) → IsLongestRun bytes run tail groups → IsLongestRun bytes other rest others → length run ≡ length other
run_lengths bytes run tail groups other rest others l m =
    omega (arith, l.longest other rest others m.joined m.is_run, m.longest run tail groups l.joined l.is_run)

run_same : (bytes run tail groups other rest others : List ℕ) → IsLongestRun bytes run tail groups → IsLongestRun bytes other rest others → (run ≡ other) × (tail ≡ rest)
run_same bytes run tail groups other rest others l m =
    let len = run_lengths bytes run tail groups other rest others l m in
    let e : run ++ tail ≡ other ++ rest = sym l.joined ∙ m.joined in (
      sym (take_at run tail (length run) refl) ∙ ap (λ (b : List ℕ). take (length run) b) e ∙ take_at other rest (length run) (sym len),
      sym (drop_at run tail (length run) refl) ∙ ap (λ (b : List ℕ). drop (length run) b) e ∙ drop_at other rest (length run) (sym len),
    )

groups_of_run : (bytes : List ℕ) (groups others : List ℕ) → IsRun bytes groups → IsRun bytes others → groups ≡ others
groups_of_run bytes groups others r q =
    let items = one_list_whole IsItem items_apart r.0 q.0 bytes r.1 q.1 in
    some_is groups others (sym r.2 ∙ ap (λ (i : List Item). open_after [] i) items ∙ q.2)

-- the kind of a tail is one
end_read : (groups tail : List ℕ) → BeginsEnd groups tail → (number : ℕ) × (rest : List ℕ) × (item_at tail ≡ Ok (Ends number, rest))
end_read groups tail h = (h.2, h.1, ap item_at h.3 ∙ item_again (Ends h.2) h.0 h.1 h.4)

start_read : (groups tail : List ℕ) → BeginsDeep groups tail → (number : ℕ) × (rest : List ℕ) × (item_at tail ≡ Ok (holding number Group, rest))
start_read groups tail h = (h.2, h.1, ap item_at h.3 ∙ item_again (holding h.2 Group) h.0 h.1 h.4)

end_or_start : (tail : List ℕ) → (number : ℕ) × (rest : List ℕ) × (item_at tail ≡ Ok (Ends number, rest)) → (number : ℕ) × (rest : List ℕ) × (item_at tail ≡ Ok (holding number Group, rest)) → ⊥
end_or_start tail e s =
    let d = ap (λ (p : Item × List ℕ). p.0) (ok_is (Ends e.0, e.1) (holding s.0 Group, s.1) (sym e.2 ∙ s.2)) in absurd cc

one_kind : (j k : WireKind) (groups tail : List ℕ) → HasKind j groups tail → HasKind k groups tail → j ≡ k
one_kind Truncated Truncated groups tail h i = refl
one_kind Truncated LongVarint groups tail h i = absurd (h.0 i)
one_kind Truncated BadTag groups tail h i = absurd (h.1 i)
one_kind Truncated BadGroup groups tail h i = absurd (h.2 i)
one_kind Truncated DeepGroup groups tail h i = absurd (h.3 i)
one_kind LongVarint Truncated groups tail h i = absurd (i.0 h)
one_kind LongVarint LongVarint groups tail h i = refl
one_kind LongVarint BadTag groups tail h i = let d = sym (item_long tail h) ∙ item_unsound tail i in absurd cc
one_kind LongVarint BadGroup groups tail h i = let d = sym (item_long tail h) ∙ (end_read groups tail i).2 in absurd cc
one_kind LongVarint DeepGroup groups tail h i = let d = sym (item_long tail h) ∙ (start_read groups tail i).2 in absurd cc
one_kind BadTag Truncated groups tail h i = absurd (i.1 h)
one_kind BadTag LongVarint groups tail h i = let d = sym (item_unsound tail h) ∙ item_long tail i in absurd cc
one_kind BadTag BadTag groups tail h i = refl
one_kind BadTag BadGroup groups tail h i = let d = sym (item_unsound tail h) ∙ (end_read groups tail i).2 in absurd cc
one_kind BadTag DeepGroup groups tail h i = let d = sym (item_unsound tail h) ∙ (start_read groups tail i).2 in absurd cc
one_kind BadGroup Truncated groups tail h i = absurd (i.2 h)
one_kind BadGroup LongVarint groups tail h i = let d = sym (item_long tail i) ∙ (end_read groups tail h).2 in absurd cc
one_kind BadGroup BadTag groups tail h i = let d = sym (item_unsound tail i) ∙ (end_read groups tail h).2 in absurd cc
one_kind BadGroup BadGroup groups tail h i = refl
one_kind BadGroup DeepGroup groups tail h i = absurd (end_or_start tail (end_read groups tail h) (start_read groups tail i))
one_kind DeepGroup Truncated groups tail h i = absurd (i.3 h)
one_kind DeepGroup LongVarint groups tail h i = let d = sym (item_long tail i) ∙ (start_read groups tail h).2 in absurd cc
one_kind DeepGroup BadTag groups tail h i = let d = sym (item_unsound tail i) ∙ (start_read groups tail h).2 in absurd cc
one_kind DeepGroup BadGroup groups tail h i = absurd (end_or_start tail (end_read groups tail i) (start_read groups tail h))
one_kind DeepGroup DeepGroup groups tail h i = refl

-- bytes break in one way at most
one_break : (bytes : List ℕ) (j k : WireKind) → IsBreak bytes j → IsBreak bytes k → j ≡ k
one_break bytes j k h i =
    let same = run_same bytes h.run h.tail h.groups i.run i.tail i.groups h.longest i.longest in
    let run : IsRun h.run i.groups = rw same.0 i.longest.is_run in
    let groups = groups_of_run h.run h.groups i.groups h.longest.is_run run in
    let kind : HasKind k h.groups h.tail = rw (groups, same.1) i.kind_is in
    one_kind j k h.groups h.tail h.kind_is kind

-- bytes are one list of fields at most
pub fields_once : (bytes : List ℕ) (fields others : List WireField) → AreFields bytes fields → AreFields bytes others → fields ≡ others
fields_once bytes fields others h k = one_list_whole (IsSpelling 64) (fields_apart 64) fields others bytes h k

-- a list of fields doesn't break
pub fields_or_broken : (bytes : List ℕ) (fields : List WireField) (at : ℕ) (kind : WireKind) → AreFields bytes fields → IsBroken bytes at kind → ⊥
fields_or_broken bytes fields at kind h b =
    let same = one_list (IsSpelling 64) (fields_apart 64) fields b.fields bytes b.front [] b.rest h b.read (append-nil bytes ∙ b.joined) (stops_at_end (IsSpelling 64) (fields_apart 64)) b.breaks.none in
    b.some (sym same.1)

-- bytes break at one place at most, in one way
pub broken_once : (bytes : List ℕ) (at place : ℕ) (kind other : WireKind) → IsBroken bytes at kind → IsBroken bytes place other → (at ≡ place) × (kind ≡ other)
broken_once bytes at place kind other h k =
    let same = one_list (IsSpelling 64) (fields_apart 64) h.fields k.fields h.front k.front h.rest k.rest h.read k.read (sym h.joined ∙ k.joined) h.breaks.none k.breaks.none in
    let breaks : IsBreak h.rest other = rw same.1 k.breaks in
    (omega (arith, h.place, k.place, ap length h.joined, ap length k.joined, length-append h.front h.rest, length-append k.front k.rest, ap length same.1), one_break h.rest kind other h.breaks breaks)
