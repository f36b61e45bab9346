-- A break in another way than being cut short stays, whatever follows.
use Rattle.std.proofs.Common.{◌≡◌, ◌≢◌, ℕ, List, [], ◌∷◌, ◌++◌, Some, refl, sym, ap, ◌∙◌, arith, inl, inr, append_assoc}
use Rattle.std.proofs.lemmas.List.{append-nil}
use Rattle.gw_base.specs.declared.wire_kind.WireKind.{WireKind}
use Rattle.gw_base.specs.declared.wire_kind.WireKind.TheVariants.{Truncated, LongVarint, BadTag, BadGroup, DeepGroup}
use Rattle.wire_fields.specs.Grammar.{Payload, Varint, Fixed64, Bytes, Group, Fixed32, Item, Holds, Ends, IsItem, Concatenates}
use Rattle.wire_fields.specs.Breaks.{open_after_item, open_after, BeginsLong, HasKind, BeginsNone, IsBreak, IsBroken}
use Rattle.wire_fields.specs.OpenGroups.{IsWalked}
use Rattle.wire_fields.specs.Reading.{holding, item_at}
use Rattle.wire_fields.proofs.Items.{item_again, item_long, item_unsound}
use Rattle.wire_fields.proofs.Broken.{step_of, some_is, nothing_walked, walked_start, IsStop, stop_at_item, stop_at_end, stop_at_start, break_after}
use Rattle.wire_fields.proofs.Skips.{HasWalked, walk_on}

-- ---- a run that begins with no field leaves groups open

-- what follows after an item that left these groups open
abbrev Follows : ℕ → List Item → Type 0
Follows number items =
    (innermost : ℕ) (groups last a b rest : List ℕ) → HasWalked number (innermost ∷ groups) a → Concatenates IsItem items b
    → open_after (innermost ∷ groups) items ≡ Some last → BeginsNone ((a ++ b) ++ rest) → IsWalked last (a ++ b)

walked_after : (number : ℕ) (items : List Item) → Follows number items → (now last a b rest : List ℕ) → HasWalked number now a → Concatenates IsItem items b
    → open_after now items ≡ Some last → BeginsNone ((a ++ b) ++ rest) → IsWalked last (a ++ b)
walked_after number items on [] last a b rest w h e none =
    absurd (none (record { number = number; payload = Group }) a (b ++ rest) (append_assoc a b rest) w)
walked_after number items on (innermost ∷ groups) last a b rest w h e none = on innermost groups last a b rest w h e none

walked_from : (number : ℕ) (items : List Item) → Follows number items
walked_from number [] innermost groups last a b rest w h e none =
    let same : innermost ∷ groups ≡ last = some_is (innermost ∷ groups) last e in
    rw (h, append-nil, ← same) w.1
walked_from number (item ∷ items) innermost groups last a b rest w h e none =
    let step = step_of (open_after_item (innermost ∷ groups) item) items last e in
    let further = walk_on number (innermost ∷ groups) step.0 item a h.0 w (λ d. absurd cc) h.3 step.1 in
    let parts : a ++ b ≡ (a ++ h.0) ++ h.1 = ap (λ (l : List ℕ). a ++ l) h.2 ∙ sym (append_assoc a h.0 h.1) in
    let begins : BeginsNone (((a ++ h.0) ++ h.1) ++ rest) = rw (← parts) none in
    rw parts (walked_after number items (walked_from number items) step.0 last (a ++ h.0) h.1 rest further h.4 step.2 begins)

-- the first item starts a group
walked_first : (number : ℕ) (payload : Payload) (items : List Item) (last first b rest : List ℕ) → IsItem (holding number payload) first → Concatenates IsItem items b
    → open_after [] (holding number payload ∷ items) ≡ Some last → BeginsNone ((first ++ b) ++ rest) → IsWalked last (first ++ b)
walked_first number Group items last first b rest h k e none =
    walked_from number items number [] last first b rest (refl, walked_start [] number [] first nothing_walked (omega arith) h) k e none
walked_first number (Varint value) items last first b rest h k e none = absurd (none (record { number = number; payload = Varint value }) first (b ++ rest) (append_assoc first b rest) h)
walked_first number (Fixed64 value) items last first b rest h k e none = absurd (none (record { number = number; payload = Fixed64 value }) first (b ++ rest) (append_assoc first b rest) h)
walked_first number (Bytes body) items last first b rest h k e none = absurd (none (record { number = number; payload = Bytes body }) first (b ++ rest) (append_assoc first b rest) h)
walked_first number (Fixed32 value) items last first b rest h k e none = absurd (none (record { number = number; payload = Fixed32 value }) first (b ++ rest) (append_assoc first b rest) h)

walked_run : (items : List Item) (run tail last : List ℕ) → Concatenates IsItem items run → open_after [] items ≡ Some last → BeginsNone (run ++ tail) → IsWalked last run
walked_run [] run tail last h e none =
    let same : [] ≡ last = some_is [] last e in
    rw (h, ← same) nothing_walked
walked_run (Holds field ∷ items) run tail last h e none =
    let begins : BeginsNone ((h.0 ++ h.1) ++ tail) = rw (← h.2) none in
    rw h.2 (walked_first field.number field.payload items last h.0 h.1 tail h.3 h.4 e begins)
walked_run (Ends number ∷ items) run tail last h e none = absurd cc

-- ---- what stops the walk stops it whatever follows

pub further : (a rest more tail : List ℕ) → tail ≡ a ++ rest → tail ++ more ≡ a ++ (rest ++ more)
further a rest more tail e = ap (λ (l : List ℕ). l ++ more) e ∙ append_assoc a rest more

pub long_stays : (tail more : List ℕ) → BeginsLong tail → BeginsLong (tail ++ more)
long_stays tail more l = (l.0, l.1 ++ more, further l.0 l.1 more tail l.2, l.3, l.4)

stop_stays : (kind : WireKind) (groups tail more : List ℕ) → HasKind kind groups tail → kind ≢ Truncated → IsStop groups (tail ++ more) kind
stop_stays Truncated groups tail more h ne = absurd (ne refl)
stop_stays LongVarint groups tail more (inl l) ne =
    stop_at_item groups (tail ++ more) LongVarint (item_long (tail ++ more) (inl (long_stays tail more l)))
stop_stays LongVarint groups tail more (inr l) ne =
    stop_at_item groups (tail ++ more) LongVarint (item_long (tail ++ more) (inr (l.0, l.1 ++ more, l.2, further l.0 l.1 more tail l.3, l.4, l.5, l.6, long_stays l.1 more l.7)))
stop_stays BadTag groups tail more h ne =
    stop_at_item groups (tail ++ more) BadTag (item_unsound (tail ++ more) (h.0, h.1 ++ more, h.2, further h.0 h.1 more tail h.3, h.4, h.5))
stop_stays BadGroup groups tail more h ne =
    stop_at_end groups (tail ++ more) (h.1 ++ more) h.2 (ap item_at (further h.0 h.1 more tail h.3) ∙ item_again (Ends h.2) h.0 (h.1 ++ more) h.4) h.5
stop_stays DeepGroup groups tail more h ne =
    stop_at_start groups (tail ++ more) (h.1 ++ more) h.2 (ap item_at (further h.0 h.1 more tail h.3) ∙ item_again (holding h.2 Group) h.0 (h.1 ++ more) h.4) h.5

break_stays : (bytes more : List ℕ) (kind : WireKind) → IsBreak bytes kind → kind ≢ Truncated → IsBreak (bytes ++ more) kind
break_stays bytes more kind b ne =
    let none : BeginsNone (b.run ++ b.tail) = rw (← b.longest.joined) b.none in
    let walked = walked_run b.longest.is_run.0 b.run b.tail b.groups b.longest.is_run.1 b.longest.is_run.2 none in
    let stop = stop_stays kind b.groups b.tail more b.kind_is ne in
    rw (further b.run b.tail more bytes b.longest.joined) (break_after b.groups b.run (b.tail ++ more) kind walked stop)

append_some : (rest more : List ℕ) → rest ≢ [] → rest ++ more ≢ []
append_some [] more some e = some refl
append_some (byte ∷ rest) more some e = absurd cc

pub broken_stays : (bytes more : List ℕ) (at : ℕ) (kind : WireKind) → IsBroken bytes at kind → kind ≢ Truncated → IsBroken (bytes ++ more) at kind
broken_stays bytes more at kind b ne = record {
  front = b.front;
  rest = b.rest ++ more;
  joined = further b.front b.rest more bytes b.joined;
  place = b.place;
  fields = b.fields;
  read = b.read;
  some = append_some b.rest more b.some;
  breaks = break_stays b.rest more kind b.breaks ne;
}
