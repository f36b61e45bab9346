-- Reading an item from the front of bytes is finding its spelling there.
use Rattle.std.proofs.Common.{◌≡◌, ℕ, zero, suc, ◌/◌, ◌%◌, ◌^◌, ◌<◌, ◌≤◌, Bool, true, false, cond, ltb, leb, List, [], ◌++◌, length, take, drop, Result, Ok, Err, refl, sym, ap, subst, ◌∙◌, arith, inl, inr, append_assoc}
use Rattle.std.specs.Prelude.{◌⊎◌, ◌&&◌}
use Rattle.std.specs.Int.{Width, w32, w64, byte_len, from_le_bytes}
use Rattle.std.proofs.lemmas.Bool.{cases_lt, ltb-false, ltb-true, leb-true, le-ltb, lt-ltb, le-leb, lt-leb}
use Rattle.std.proofs.lemmas.List.{take_at, drop_at, take-append-drop, length-append, length-take}
use Rattle.gw_base.specs.declared.wire_kind.WireKind.{WireKind}
use Rattle.gw_base.specs.declared.wire_kind.WireKind.TheVariants.{Truncated, LongVarint, BadTag, BadGroup, DeepGroup}
use Rattle.wire_fields.specs.Grammar.{Payload, Varint, Fixed64, Bytes, Group, Fixed32, Item, Holds, Ends, IsVarint, IsSoundTag, IsItem, IsPayload, IsItemPayload, tag_of, type_of_item, number_of_item}
use Rattle.wire_fields.specs.Breaks.{BeginsLong, BeginsLongPayload, BeginsUnsound}
use Rattle.gw_base.specs.Chains.{◌>>=◌}
use Rattle.wire_fields.specs.Reading.{holding, varint_at, bytes_at, fixed_at, payload_at, item_at}
use Rattle.wire_fields.proofs.Numbers.{bind_ok, bind_err, ok_is, err_is, chosen, varint_again, varint_found, varint_long, varint_fault}

-- ---- so many bytes

bytes_again : (body rest : List ℕ) (size : ℕ) → length body ≡ size → bytes_at size (body ++ rest) ≡ Ok (body, rest)
unfolding bytes_at
bytes_again body rest size e =
    let enough : ltb (length (body ++ rest)) size ≡ false = le-ltb _ _ (omega (arith, length-append body rest)) in
    rw (enough, take_at body rest size e, drop_at body rest size e) refl

bytes_found : (size : ℕ) (bytes body rest : List ℕ) → bytes_at size bytes ≡ Ok (body, rest) → (bytes ≡ body ++ rest) × (length body ≡ size)
unfolding bytes_at
bytes_found size bytes body rest e =
    elim (chosen (ltb (length bytes) size) (Err Truncated) (Ok (take size bytes, drop size bytes)) (Ok (body, rest)) e) [
      | inl short ↦ let d = short.1 in absurd cc
      | inr enough ↦
          let le : size ≤ length bytes = ltb-false _ _ enough.0 in
          let p = ok_is (take size bytes, drop size bytes) (body, rest) enough.1 in
          let body_is : take size bytes ≡ body = ap (λ (q : List ℕ × List ℕ). q.0) p in
          let rest_is : drop size bytes ≡ rest = ap (λ (q : List ℕ × List ℕ). q.1) p in
          (rw (← body_is, ← rest_is) (sym (take-append-drop size bytes)), rw (← body_is) (omega (arith, length-take size bytes)))
    ]

bytes_fault : (size : ℕ) (bytes : List ℕ) (k : WireKind) → bytes_at size bytes ≡ Err k → k ≡ Truncated
unfolding bytes_at
bytes_fault size bytes k e =
    elim (chosen (ltb (length bytes) size) (Err Truncated) (Ok (take size bytes, drop size bytes)) (Err k) e) [
      | inl short ↦ sym (err_is Truncated k short.1)
      | inr enough ↦ let d = enough.1 in absurd cc
    ]

fixed_again : (w : Width) (text rest : List ℕ) (value : ℕ) → length text ≡ byte_len w → value ≡ from_le_bytes w text → fixed_at w (text ++ rest) ≡ Ok (value, rest)
unfolding fixed_at
fixed_again w text rest value len value_is =
    let enough : ltb (length (text ++ rest)) (byte_len w) ≡ false = le-ltb _ _ (omega (arith, length-append text rest)) in
    rw (enough, take_at text rest (byte_len w) len, drop_at text rest (byte_len w) len, value_is) refl

fixed_found : (w : Width) (bytes : List ℕ) (value : ℕ) (rest : List ℕ) → fixed_at w bytes ≡ Ok (value, rest) → (text : List ℕ) × (bytes ≡ text ++ rest) × (length text ≡ byte_len w) × (value ≡ from_le_bytes w text)
unfolding fixed_at
fixed_found w bytes value rest e =
    elim (chosen (ltb (length bytes) (byte_len w)) (Err Truncated) (Ok (from_le_bytes w (take (byte_len w) bytes), drop (byte_len w) bytes)) (Ok (value, rest)) e) [
      | inl short ↦ let d = short.1 in absurd cc
      | inr enough ↦
          let le : byte_len w ≤ length bytes = ltb-false _ _ enough.0 in
          let p = ok_is (from_le_bytes w (take (byte_len w) bytes), drop (byte_len w) bytes) (value, rest) enough.1 in
          let rest_is : drop (byte_len w) bytes ≡ rest = ap (λ (q : ℕ × List ℕ). q.1) p in
          (take (byte_len w) bytes, rw (← rest_is) (sym (take-append-drop (byte_len w) bytes)), omega (arith, length-take (byte_len w) bytes), sym (ap (λ (q : ℕ × List ℕ). q.0) p))
    ]

fixed_fault : (w : Width) (bytes : List ℕ) (k : WireKind) → fixed_at w bytes ≡ Err k → k ≡ Truncated
unfolding fixed_at
fixed_fault w bytes k e =
    elim (chosen (ltb (length bytes) (byte_len w)) (Err Truncated) (Ok (from_le_bytes w (take (byte_len w) bytes), drop (byte_len w) bytes)) (Err k) e) [
      | inl short ↦ sym (err_is Truncated k short.1)
      | inr enough ↦ let d = enough.1 in absurd cc
    ]

-- ---- payloads

payload_again : (number : ℕ) (payload : Payload) (bytes rest : List ℕ) → IsPayload payload bytes → payload_at number (type_of_item (holding number payload)) (bytes ++ rest) ≡ Ok (holding number payload, rest)
unfolding payload_at
payload_again number (Varint value) bytes rest h = rw (varint_again bytes rest value h) refl
payload_again number (Fixed64 value) bytes rest h = rw (fixed_again w64 bytes rest value h.0 h.1) refl
payload_again number (Bytes body) bytes rest h =
    rw (h.2, append_assoc, varint_again h.0 (body ++ rest) (length body) h.1, bytes_again body rest (length body) refl) refl
payload_again number Group bytes rest h = rw h refl
payload_again number (Fixed32 value) bytes rest h = rw (fixed_again w32 bytes rest value h.0 h.1) refl

item_payload_again : (item : Item) (bytes rest : List ℕ) → IsItemPayload item bytes → payload_at (number_of_item item) (type_of_item item) (bytes ++ rest) ≡ Ok (item, rest)
unfolding payload_at
item_payload_again (Holds field) bytes rest h = payload_again field.number field.payload bytes rest h
item_payload_again (Ends number) bytes rest h = rw h refl

-- what is read after a tag is the payload of an item of this number and type
abbrev FindsPayload : ℕ → ℕ → List ℕ → Type 0
FindsPayload number type bytes =
    (item : Item) (rest : List ℕ) → payload_at number type bytes ≡ Ok (item, rest)
    → (payload : List ℕ) × (bytes ≡ payload ++ rest) × IsItemPayload item payload × (number_of_item item ≡ number) × (type_of_item item ≡ type)

-- an item and a rest that are known
finds : (number type : ℕ) (bytes : List ℕ) (known item : Item) (after rest : List ℕ) → ◌≡◌ {A = Result (Item × List ℕ) WireKind} (Ok (known, after)) (Ok (item, rest))
    → (payload : List ℕ) → bytes ≡ payload ++ after → IsItemPayload known payload → number_of_item known ≡ number → type_of_item known ≡ type
    → (payload : List ℕ) × (bytes ≡ payload ++ rest) × IsItemPayload item payload × (number_of_item item ≡ number) × (type_of_item item ≡ type)
finds number type bytes known item after rest e payload parts paid n t =
    subst (λ (p : Item × List ℕ). (payload : List ℕ) × (bytes ≡ payload ++ p.1) × IsItemPayload p.0 payload × (number_of_item p.0 ≡ number) × (type_of_item p.0 ≡ type))
    (ok_is (known, after) (item, rest) e) (payload, parts, paid, n, t)

pub payload_found : (number type : ℕ) (bytes : List ℕ) → FindsPayload number type bytes
unfolding payload_at
payload_found number zero bytes item rest e =
    let b = bind_ok (varint_at bytes) (λ value. Ok (holding number (Varint value.0), value.1)) (item, rest) e in
    let v = varint_found bytes b.0.0 b.0.1 b.1 in
    finds number 0 bytes (holding number (Varint b.0.0)) item b.0.1 rest b.2 v.0 v.1 v.2 refl refl
payload_found number (suc zero) bytes item rest e =
    let b = bind_ok (fixed_at w64 bytes) (λ eight. Ok (holding number (Fixed64 eight.0), eight.1)) (item, rest) e in
    let v = fixed_found w64 bytes b.0.0 b.0.1 b.1 in
    finds number 1 bytes (holding number (Fixed64 b.0.0)) item b.0.1 rest b.2 v.0 v.1 (v.2, v.3) refl refl
payload_found number (suc (suc zero)) bytes item rest e =
    let b = bind_ok (varint_at bytes) (λ size. bytes_at size.0 size.1 >>= λ body. Ok (holding number (Bytes body.0), body.1)) (item, rest) e in
    let v = varint_found bytes b.0.0 b.0.1 b.1 in
    let c = bind_ok (bytes_at b.0.0 b.0.1) (λ body. Ok (holding number (Bytes body.0), body.1)) (item, rest) b.2 in
    let w = bytes_found b.0.0 b.0.1 c.0.0 c.0.1 c.1 in
    let parts : bytes ≡ (v.0 ++ c.0.0) ++ c.0.1 = v.1 ∙ ap (λ (l : List ℕ). v.0 ++ l) w.0 ∙ sym (append_assoc v.0 c.0.0 c.0.1) in
    let size : IsVarint v.0 (length c.0.0) = rw w.1 v.2 in
    finds number 2 bytes (holding number (Bytes c.0.0)) item c.0.1 rest c.2 (v.0 ++ c.0.0) parts (v.0, size, refl) refl refl
payload_found number (suc (suc (suc zero))) bytes item rest e = finds number 3 bytes (holding number Group) item bytes rest e [] refl refl refl refl
payload_found number (suc (suc (suc (suc zero)))) bytes item rest e = finds number 4 bytes (Ends number) item bytes rest e [] refl refl refl refl
payload_found number (suc (suc (suc (suc (suc zero))))) bytes item rest e =
    let b = bind_ok (fixed_at w32 bytes) (λ four. Ok (holding number (Fixed32 four.0), four.1)) (item, rest) e in
    let v = fixed_found w32 bytes b.0.0 b.0.1 b.1 in
    finds number 5 bytes (holding number (Fixed32 b.0.0)) item b.0.1 rest b.2 v.0 v.1 (v.2, v.3) refl refl
payload_found number (suc (suc (suc (suc (suc (suc type)))))) bytes item rest e = absurd cc

-- a payload that isn't whole, or a type that isn't there
pub data FailsAtPayload : ℕ → List ℕ → WireKind → Type 0 where
  no_type : {type : ℕ} {bytes : List ℕ} → 6 ≤ type → FailsAtPayload type bytes BadTag
  long : {type : ℕ} {bytes : List ℕ} → (type ≡ 0) ⊎ (type ≡ 2) → BeginsLong bytes → FailsAtPayload type bytes LongVarint
  cut : {type : ℕ} {bytes : List ℕ} → type ≤ 5 → FailsAtPayload type bytes Truncated

varint_payload_fault : (type : ℕ) (bytes : List ℕ) (k : WireKind) → (type ≡ 0) ⊎ (type ≡ 2) → type ≤ 5 → varint_at bytes ≡ Err k → FailsAtPayload type bytes k
varint_payload_fault type bytes k which le e =
    elim (varint_fault bytes k e) [
      | inl l ↦ rw l.0 (long which l.1)
      | inr t ↦ rw t (cut le)
    ]

pub payload_fault : (number type : ℕ) (bytes : List ℕ) (k : WireKind) → payload_at number type bytes ≡ Err k → FailsAtPayload type bytes k
unfolding payload_at
payload_fault number zero bytes k e =
    elim (bind_err (varint_at bytes) (λ value. Ok (holding number (Varint value.0), value.1)) k e) [
      | inl f ↦ varint_payload_fault 0 bytes k (inl refl) (omega arith) f
      | inr x ↦ let d = x.2 in absurd cc
    ]
payload_fault number (suc zero) bytes k e =
    elim (bind_err (fixed_at w64 bytes) (λ eight. Ok (holding number (Fixed64 eight.0), eight.1)) k e) [
      | inl f ↦ rw (fixed_fault w64 bytes k f) (cut {type = 1} (omega arith))
      | inr x ↦ let d = x.2 in absurd cc
    ]
payload_fault number (suc (suc zero)) bytes k e =
    elim (bind_err (varint_at bytes) (λ size. bytes_at size.0 size.1 >>= λ body. Ok (holding number (Bytes body.0), body.1)) k e) [
      | inl f ↦ varint_payload_fault 2 bytes k (inr refl) (omega arith) f
      | inr x ↦ elim (bind_err (bytes_at x.0.0 x.0.1) (λ body. Ok (holding number (Bytes body.0), body.1)) k x.2) [
        | inl f ↦ rw (bytes_fault x.0.0 x.0.1 k f) (cut {type = 2} (omega arith))
        | inr y ↦ let d = y.2 in absurd cc
      ]
    ]
payload_fault number (suc (suc (suc zero))) bytes k e = absurd cc
payload_fault number (suc (suc (suc (suc zero)))) bytes k e = absurd cc
payload_fault number (suc (suc (suc (suc (suc zero))))) bytes k e =
    elim (bind_err (fixed_at w32 bytes) (λ four. Ok (holding number (Fixed32 four.0), four.1)) k e) [
      | inl f ↦ rw (fixed_fault w32 bytes k f) (cut {type = 5} (omega arith))
      | inr x ↦ let d = x.2 in absurd cc
    ]
payload_fault number (suc (suc (suc (suc (suc (suc type)))))) bytes k e = rw (sym (err_is BadTag k e)) (no_type {type = suc (suc (suc (suc (suc (suc type)))))} (omega arith))

-- ---- items

payload_type_below : (payload : Payload) → type_of_item (holding 0 payload) ≤ 5
payload_type_below (Varint value) = omega arith
payload_type_below (Fixed64 value) = omega arith
payload_type_below (Bytes body) = omega arith
payload_type_below Group = omega arith
payload_type_below (Fixed32 value) = omega arith

type_below : (item : Item) → type_of_item item ≤ 5
type_below (Holds field) = payload_type_below field.payload
type_below (Ends number) = omega arith

both_true : (a b : Bool) → a && b ≡ true → (a ≡ true) × (b ≡ true)
both_true true b e = (refl, e)
both_true false b e = absurd cc

and_false : (a : Bool) → a && false ≡ false
and_false true = refl
and_false false = refl

-- an item is read, whatever follows it
pub item_again : (item : Item) (bytes rest : List ℕ) → IsItem item bytes → item_at (bytes ++ rest) ≡ Ok (item, rest)
unfolding item_at
item_again item bytes rest h =
    let le = type_below item in
    let read : varint_at (bytes ++ rest) ≡ Ok (tag_of item, h.payload ++ rest) = rw (h.joined, append_assoc) (varint_again h.tag (h.payload ++ rest) (tag_of item) h.tagged) in
    let low : ltb (tag_of item) (2 ^ 32) ≡ true = lt-ltb _ _ h.sound.bits in
    let high : leb 8 (tag_of item) ≡ true = le-leb 8 (tag_of item) (omega (arith, h.sound.number)) in
    let number : tag_of item / 8 ≡ number_of_item item = omega arith in
    let type : tag_of item % 8 ≡ type_of_item item = omega arith in
    rw (read, low, high, number, type) (item_payload_again item h.payload rest h.paid)

-- what is read is an item
pub item_found : (bytes : List ℕ) (item : Item) (rest : List ℕ) → item_at bytes ≡ Ok (item, rest) → (front : List ℕ) × (bytes ≡ front ++ rest) × IsItem item front
unfolding item_at
item_found bytes item rest e =
    let b = bind_ok (varint_at bytes) (λ tag. cond (ltb tag.0 (2 ^ 32) && leb 8 tag.0) (payload_at (tag.0 / 8) (tag.0 % 8) tag.1) (Err BadTag)) (item, rest) e in
    let v = varint_found bytes b.0.0 b.0.1 b.1 in
    elim (chosen (ltb b.0.0 (2 ^ 32) && leb 8 b.0.0) (payload_at (b.0.0 / 8) (b.0.0 % 8) b.0.1) (Err BadTag) (Ok (item, rest)) b.2) [
      | inr bad ↦ let d = bad.1 in absurd cc
      | inl good ↦
          let tests = both_true (ltb b.0.0 (2 ^ 32)) (leb 8 b.0.0) good.0 in
          let low : b.0.0 < 2 ^ 32 = ltb-true _ _ tests.0 in
          let high : 8 ≤ b.0.0 = leb-true _ _ tests.1 in
          let p = payload_found (b.0.0 / 8) (b.0.0 % 8) b.0.1 item rest good.1 in
          let le = type_below item in
          let tag_is : tag_of item ≡ b.0.0 = omega (arith, p.3, p.4) in
          let sound : IsSoundTag b.0.0 = record { bits = low; number = omega arith; type = omega (arith, p.4) } in (
            v.0 ++ p.0,
            v.1 ∙ ap (λ (l : List ℕ). v.0 ++ l) p.1 ∙ sym (append_assoc v.0 p.0 rest),
            record { tag = v.0; payload = p.0; joined = refl; tagged = rw tag_is v.2; sound = rw tag_is sound; paid = p.2 },
          )
    ]

pub payload_without_type : (number type : ℕ) (bytes : List ℕ) → 6 ≤ type → payload_at number type bytes ≡ Err BadTag
unfolding payload_at
payload_without_type number zero bytes le = absurd (omega arith)
payload_without_type number (suc zero) bytes le = absurd (omega arith)
payload_without_type number (suc (suc zero)) bytes le = absurd (omega arith)
payload_without_type number (suc (suc (suc zero))) bytes le = absurd (omega arith)
payload_without_type number (suc (suc (suc (suc zero)))) bytes le = absurd (omega arith)
payload_without_type number (suc (suc (suc (suc (suc zero))))) bytes le = absurd (omega arith)
payload_without_type number (suc (suc (suc (suc (suc (suc type)))))) bytes le = refl

payload_long : (number type : ℕ) (bytes : List ℕ) → (type ≡ 0) ⊎ (type ≡ 2) → BeginsLong bytes → payload_at number type bytes ≡ Err LongVarint
unfolding payload_at
payload_long number type bytes (inl zero_is) h = rw (zero_is, varint_long bytes h) refl
payload_long number type bytes (inr two_is) h = rw (two_is, varint_long bytes h) refl

-- the tag was read, and is sound but for its type
pub tag_read : (bytes rest : List ℕ) (value : ℕ) → varint_at bytes ≡ Ok (value, rest) → value < 2 ^ 32 → 8 ≤ value → item_at bytes ≡ payload_at (value / 8) (value % 8) rest
unfolding item_at
tag_read bytes rest value e lt le =
    let low : ltb value (2 ^ 32) ≡ true = lt-ltb _ _ lt in
    let high : leb 8 value ≡ true = le-leb 8 value le in
    rw (e, low, high) refl

-- a varint that is too long in the place of the tag or after it
pub item_long : (bytes : List ℕ) → BeginsLong bytes ⊎ BeginsLongPayload bytes → item_at bytes ≡ Err LongVarint
unfolding item_at
item_long bytes (inl h) = rw (varint_long bytes h) refl
item_long bytes (inr h) =
    let value = h.2 in
    let read : varint_at bytes ≡ Ok (value, h.1) = rw h.3 (varint_again h.0 h.1 value h.4) in
    tag_read bytes h.1 value read h.5.bits (omega (arith, h.5.number)) ∙ payload_long (value / 8) (value % 8) h.1 h.6 h.7

tag_bad : (bytes rest : List ℕ) (value : ℕ) → varint_at bytes ≡ Ok (value, rest) → (value < 8) ⊎ (2 ^ 32 ≤ value) → item_at bytes ≡ Err BadTag
unfolding item_at
tag_bad bytes rest value e (inr wide) =
    let low : ltb value (2 ^ 32) ≡ false = le-ltb _ _ wide in
    rw (e, low) refl
tag_bad bytes rest value e (inl small) =
    let high : leb 8 value ≡ false = lt-leb 8 value small in
    let off : ltb value (2 ^ 32) && leb 8 value ≡ false = rw high (and_false (ltb value (2 ^ 32))) in
    rw (e, off) refl

-- a tag that isn't sound
pub item_unsound : (bytes : List ℕ) → BeginsUnsound bytes → item_at bytes ≡ Err BadTag
item_unsound bytes h =
    let value = h.2 in
    let read : varint_at bytes ≡ Ok (value, h.1) = rw h.3 (varint_again h.0 h.1 value h.4) in
    elim (cases_lt value (2 ^ 32)) [
      | inr wide ↦ tag_bad bytes h.1 value read (inr wide)
      | inl lt ↦ elim (cases_lt value 8) [
        | inl small ↦ tag_bad bytes h.1 value read (inl small)
        | inr le ↦ elim (cases_lt 5 (value % 8)) [
          | inl none ↦ tag_read bytes h.1 value read lt le ∙ payload_without_type (value / 8) (value % 8) h.1 (omega arith)
          | inr some ↦ absurd (h.5 (record { bits = lt; number = omega arith; type = some }))
        ]
      ]
    ]

-- what is wrong where no item is read
abbrev pub FailsAtItem : List ℕ → WireKind → Type 0
FailsAtItem bytes k =
    ((k ≡ LongVarint) × (BeginsLong bytes ⊎ BeginsLongPayload bytes)) ⊎ (((k ≡ BadTag) × BeginsUnsound bytes) ⊎ (k ≡ Truncated))

zero_or_two : (type : ℕ) → (type ≡ 0) ⊎ (type ≡ 2) → type ≤ 5
zero_or_two type (inl e) = omega arith
zero_or_two type (inr e) = omega arith

unsound_test : (value : ℕ) → IsSoundTag value → ltb value (2 ^ 32) && leb 8 value ≡ false → ⊥
unsound_test value sound e =
    let low : ltb value (2 ^ 32) ≡ true = lt-ltb _ _ sound.bits in
    let high : leb 8 value ≡ true = le-leb 8 value (omega (arith, sound.number)) in
    let d : true ≡ false = rw (low, high) at e in
    absurd cc

payload_fails : (bytes rest : List ℕ) (tag : List ℕ) (value : ℕ) (k : WireKind) → bytes ≡ tag ++ rest → IsVarint tag value → value < 2 ^ 32 → 8 ≤ value
    → FailsAtPayload (value % 8) rest k → FailsAtItem bytes k
payload_fails bytes rest tag value BadTag parts v lt le (no_type none) = inr (inl (refl, (tag, rest, value, parts, v, λ s. omega (arith, none, s.type))))
payload_fails bytes rest tag value LongVarint parts v lt le (long which h) =
    inl (refl, inr (tag, rest, value, parts, v, record { bits = lt; number = omega arith; type = zero_or_two (value % 8) which }, which, h))
payload_fails bytes rest tag value Truncated parts v lt le (cut some) = inr (inr refl)
payload_fails bytes rest tag value BadGroup parts v lt le h = elim h [ ]
payload_fails bytes rest tag value DeepGroup parts v lt le h = elim h [ ]

pub item_fault : (bytes : List ℕ) (k : WireKind) → item_at bytes ≡ Err k → FailsAtItem bytes k
unfolding item_at
item_fault bytes k e =
    elim (bind_err (varint_at bytes) (λ tag. cond (ltb tag.0 (2 ^ 32) && leb 8 tag.0) (payload_at (tag.0 / 8) (tag.0 % 8) tag.1) (Err BadTag)) k e) [
      | inl f ↦ elim (varint_fault bytes k f) [
        | inl l ↦ inl (l.0, inl l.1)
        | inr t ↦ inr (inr t)
      ]
      | inr x ↦
          let v = varint_found bytes x.0.0 x.0.1 x.1 in
          elim (chosen (ltb x.0.0 (2 ^ 32) && leb 8 x.0.0) (payload_at (x.0.0 / 8) (x.0.0 % 8) x.0.1) (Err BadTag) (Err k) x.2) [
            | inl good ↦
                let tests = both_true (ltb x.0.0 (2 ^ 32)) (leb 8 x.0.0) good.0 in
                payload_fails bytes x.0.1 v.0 x.0.0 k v.1 v.2 (ltb-true _ _ tests.0) (leb-true _ _ tests.1) (payload_fault (x.0.0 / 8) (x.0.0 % 8) x.0.1 k good.1)
            | inr bad ↦ inr (inl (sym (err_is BadTag k bad.1), (v.0, x.0.1, x.0.0, v.1, v.2, λ s. unsound_test x.0.0 s bad.0)))
          ]
    ]
