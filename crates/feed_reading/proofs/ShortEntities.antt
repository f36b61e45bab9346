-- Where a feed's entities are short, none is too long.
use Rattle.std.proofs.Common.{◌≡◌, ◌==◌, ℕ, ◌+◌, ◌*◌, ◌<◌, ◌≤◌, List, [], ◌∷◌, ◌++◌, length, length-append, refl, sym, ap, subst, ◌∙◌, inl, inr, arith, append_assoc}
use Rattle.std.specs.Prelude.{Option, Some, None, if◌then◌else◌}
use Rattle.std.specs.List.{cons_option}
use Rattle.gw_base.specs.declared.messages.Feed.{Feed}
use Rattle.wire_fields.specs.Grammar.{Payload, Varint, Fixed64, Bytes, Group, Fixed32, WireField, IsPayload, IsChain, IsVarint, IsSpelling, AreFields, BeginsNumber, type_of}
use Rattle.wire_fields.proofs.Spellings.{field_begins}
use Rattle.feed_reading.specs.Meaning.{body_in, bodies}
use Rattle.feed_reading.specs.Tables.{MeansFeed}
use Rattle.feed_reading.specs.declared.fault.FeedFault.{FeedFault}
use Rattle.feed_reading.specs.Faults.{IsLongAt, HasFault}
use Rattle.feed_reading.specs.Found.{IsLongHere}
use Rattle.feed_reading.specs.Limits.{entity_limit}
use Rattle.feed_reading.specs.Partly.{AreShort, MeansShortFeed}
use Rattle.feed_reading.proofs.Walking.{long_on, none_at_end, long_only_here}
use Rattle.feed_reading.proofs.LongEntities.{number_once}
use Rattle.feed_reading.proofs.FaultLaw.{no_fault_where_meant}

two_is : (number : ℕ) (body : List ℕ) (fields : List WireField) → number ≡ 2
    → AreShort (bodies 2 (record { number = number; payload = Bytes body } ∷ fields)) → length body ≤ entity_limit
two_is number body fields is short =
    let moved = subst (λ (n : ℕ). AreShort (bodies 2 (record { number = n; payload = Bytes body } ∷ fields))) is
    short in moved.0

-- after the tag of an entity stands its length
by_payload : (number : ℕ) (payload : Payload) (fields : List WireField) (paid after size rest : List ℕ) (len : ℕ)
    → number * 8 + type_of payload ≡ 18 → IsPayload payload paid → paid ++ after ≡ size ++ rest → IsVarint size len
    → entity_limit < len
    → AreShort (bodies 2 (record { number = number; payload = payload } ∷ fields)) → ⊥
by_payload number (Varint value) fields paid after size rest len tag h e sized long short = absurd (omega arith)
by_payload number (Fixed64 value) fields paid after size rest len tag h e sized long short = absurd (omega arith)
by_payload number (Bytes body) fields paid after size rest len tag h e sized long short =
    let first : BeginsNumber (size ++ rest) (length body) (body ++ after) =
    (h.0, sym e ∙ ap (λ (l : List ℕ). l ++ after) h.2 ∙ append_assoc h.0 body after, h.1) in
    let second : BeginsNumber (size ++ rest) len rest = (size, refl, sized) in
    let same = (number_once (size ++ rest) (length body) len (body ++ after) rest first second).0 in
    let small = two_is number body fields (omega arith) short in
    absurd (omega arith)
by_payload number Group fields paid after size rest len tag h e sized long short = absurd (omega arith)
by_payload number (Fixed32 value) fields paid after size rest len tag h e sized long short = absurd (omega arith)

not_here : (a b : List ℕ) (field : WireField) (fields : List WireField) → IsSpelling 64 field a
    → AreShort (bodies 2 (field ∷ fields)) → IsLongHere (a ++ b) → ⊥
not_here a b field fields spelled short h =
    let p = field_begins 64 field a spelled in
    let item = p.3 in
    let parts : a ++ b ≡ item.tag ++ (item.payload ++ (p.1 ++ b)) =
    ap (λ (l : List ℕ). l ++ b) (p.2 ∙ ap (λ (l : List ℕ). l ++ p.1) item.joined)
    ∙ ap (λ (l : List ℕ). l ++ b) (append_assoc item.tag item.payload p.1)
    ∙ append_assoc item.tag (item.payload ++ p.1) b
    ∙ ap (λ (l : List ℕ). item.tag ++ l) (append_assoc item.payload p.1 b) in
    let first : BeginsNumber (a ++ b) (field.number * 8 + type_of field.payload) (item.payload ++ (p.1 ++ b)) =
    (item.tag, parts, item.tagged) in
    let second : BeginsNumber (a ++ b) 18 (h.size ++ h.rest) = (h.tag, h.joined, h.tagged) in
    let same = number_once (a ++ b) (field.number * 8 + type_of field.payload) 18 (item.payload ++ (p.1 ++ b))
    (h.size ++ h.rest) first second in
    by_payload field.number field.payload fields item.payload (p.1 ++ b) h.size h.rest h.len same.0 item.paid same.1
    h.sized h.long short

short_tail : (o : Option (List ℕ)) (bodies : List (List ℕ)) → AreShort (cons_option o bodies) → AreShort bodies
short_tail None bodies h = h
short_tail (Some body) bodies h = h.1

chain_some : (bytes : List ℕ) → IsChain bytes → 0 < length bytes
chain_some [] h = absurd h
chain_some (byte ∷ bytes) h = omega arith

none_in_nothing : IsLongHere [] → ⊥
none_in_nothing h = let some = chain_some h.tag h.tagged.chain in
    omega (arith, ap length h.joined, length-append h.tag (h.size ++ h.rest))

no_long : (fields : List WireField) (bytes : List ℕ) → AreFields bytes fields → AreShort (bodies 2 fields) → (at : ℕ)
    → IsLongAt bytes at → ⊥
no_long [] bytes read short at h =
    none_in_nothing (long_only_here [] at none_at_end (subst (λ (b : List ℕ). IsLongAt b at) read h))
no_long (field ∷ fields) bytes read short at h =
    elim (long_on read.0 read.1 field at read.3 (subst (λ (b : List ℕ). IsLongAt b at) read.2 h)) [
      | inl here ↦ not_here read.0 read.1 field fields read.3 short here
      | inr later ↦ no_long fields read.1 read.4
          (short_tail (if field.number == 2 then body_in field.payload else None) (bodies 2 fields) short) later.0
          later.2
    ]

pub means_short : (bytes : List ℕ) (feed : Feed) → MeansShortFeed bytes feed → MeansFeed bytes feed
means_short bytes feed h = record { fields = h.fields; read = h.read; table = h.table.0 }

pub short_has_no_fault : (bytes : List ℕ) (feed : Feed) → MeansShortFeed bytes feed → (f : FeedFault)
    → ¬ HasFault bytes f
short_has_no_fault bytes feed h =
    no_fault_where_meant bytes feed (means_short bytes feed h) (no_long h.fields bytes h.read h.table.1)
