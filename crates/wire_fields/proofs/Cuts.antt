-- A part of an item is read as an item that is cut short.
use Rattle.std.proofs.Common.{◌≡◌, ◌≢◌, ℕ, zero, suc, ◌+◌, ◌*◌, ◌/◌, ◌%◌, ◌<◌, ◌≤◌, List, [], ◌∷◌, ◌++◌, length, Ok, Err, refl, sym, ap, ◌∙◌, arith}
use Rattle.std.specs.Int.{Width, w32, w64, byte_len}
use Rattle.std.proofs.lemmas.Bool.{lt-ltb}
use Rattle.gw_base.specs.declared.wire_kind.WireKind.TheVariants.{Truncated}
use Rattle.wire_fields.specs.declared.top.part.Part.{Part}
use Rattle.wire_fields.specs.declared.top.part.Part.TheVariants as parts
use Rattle.wire_fields.specs.declared.top.part.Chain.{Chain}
use Rattle.wire_fields.specs.Grammar.{IsVarint}
use Rattle.wire_fields.specs.Reading.{varint_at, chain_at, bytes_at, fixed_at, payload_at, item_at}
use Rattle.wire_fields.specs.TopReading.{IsBegun, IsTag, LacksSome, IsPart}
use Rattle.wire_fields.proofs.Numbers.{AreHigh, chain_more, varint_again}
use Rattle.wire_fields.proofs.Items.{tag_read}

-- fewer bytes than may be, which all have the high bit set
high_cut : (most : ℕ) (bytes : List ℕ) → AreHigh bytes → length bytes < most → chain_at most bytes ≡ Err Truncated
unfolding chain_at
high_cut zero bytes h lt = absurd (omega arith)
high_cut (suc most) [] h lt = refl
high_cut (suc most) (byte ∷ bytes) h lt = chain_more most byte bytes h.0 ∙ rw (high_cut most bytes h.1 (omega arith)) refl

begun_cut : (chain : Chain) (bytes : List ℕ) → IsBegun chain bytes → varint_at bytes ≡ Err Truncated
unfolding varint_at
begun_cut chain bytes b = rw (high_cut 10 bytes b.high (omega (arith, b.counted, b.few))) refl

fixed_cut : (w : Width) (bytes : List ℕ) → length bytes < byte_len w → fixed_at w bytes ≡ Err Truncated
unfolding fixed_at
fixed_cut w bytes lt = rw (lt-ltb (length bytes) (byte_len w) lt) refl

bytes_cut : (size : ℕ) (bytes : List ℕ) → length bytes < size → bytes_at size bytes ≡ Err Truncated
unfolding bytes_at
bytes_cut size bytes lt = rw (lt-ltb (length bytes) size lt) refl

-- after a tag its payload is read
after_tag : (number type : ℕ) (tag rest bytes : List ℕ) → bytes ≡ tag ++ rest → IsTag number type tag → type ≤ 5 → item_at bytes ≡ payload_at number type rest
after_tag number type tag rest bytes e h few =
    let value = number * 8 + type in
    let read : varint_at bytes ≡ Ok (value, rest) = rw e (varint_again tag rest value h.0) in
    let number_is : value / 8 ≡ number = omega arith in
    let type_is : value % 8 ≡ type = omega arith in
    rw (number_is, type_is) at (tag_read bytes rest value read h.1.bits (omega (arith, h.1.number)))

value_cut : (number : ℕ) (chain : Chain) (rest : List ℕ) → IsBegun chain rest → payload_at number 0 rest ≡ Err Truncated
unfolding payload_at
value_cut number chain rest b = rw (begun_cut chain rest b) refl

size_cut : (number : ℕ) (chain : Chain) (rest : List ℕ) → IsBegun chain rest → payload_at number 2 rest ≡ Err Truncated
unfolding payload_at
size_cut number chain rest b = rw (begun_cut chain rest b) refl

body_cut : (number len left : ℕ) (rest size body : List ℕ) → rest ≡ size ++ body → IsVarint size len → LacksSome len left body → payload_at number 2 rest ≡ Err Truncated
unfolding payload_at
body_cut number len left rest size body e v h = rw (e, varint_again size body len v, bytes_cut len body (omega (arith, h.0, h.1))) refl

eight_cut : (number left : ℕ) (rest : List ℕ) → LacksSome 8 left rest → payload_at number 1 rest ≡ Err Truncated
unfolding payload_at
eight_cut number left rest h = rw (fixed_cut w64 rest (omega (arith, h.0, h.1))) refl

four_cut : (number left : ℕ) (rest : List ℕ) → LacksSome 4 left rest → payload_at number 5 rest ≡ Err Truncated
unfolding payload_at
four_cut number left rest h = rw (fixed_cut w32 rest (omega (arith, h.0, h.1))) refl

tag_cut : (chain : Chain) (bytes : List ℕ) → IsBegun chain bytes → item_at bytes ≡ Err Truncated
unfolding item_at
tag_cut chain bytes b = rw (begun_cut chain bytes b) refl

pub nothing_cut : item_at [] ≡ Err Truncated
unfolding item_at varint_at chain_at
nothing_cut = refl

pub part_cut : (part : Part) (bytes : List ℕ) → IsPart part bytes → item_at bytes ≡ Err Truncated
part_cut parts.Nothing bytes h = rw h nothing_cut
part_cut (parts.Tag chain) bytes h = tag_cut chain bytes h.1
part_cut (parts.Value chain) bytes h =
    after_tag h.0 0 h.1.0 h.1.1 bytes h.1.2 h.1.3 (omega arith) ∙ value_cut h.0 chain h.1.1 h.1.4
part_cut (parts.Size number chain) bytes h =
    after_tag number 2 h.0 h.1 bytes h.2 h.3 (omega arith) ∙ size_cut number chain h.1 h.4
part_cut (parts.Payload number len left) bytes h =
    after_tag number 2 h.0 h.1 bytes h.2 h.3 (omega arith) ∙ body_cut number len left h.1 h.4.0 h.4.1 h.4.2 h.4.3 h.4.4
part_cut (parts.Eight left) bytes h =
    after_tag h.0 1 h.1.0 h.1.1 bytes h.1.2 h.1.3 (omega arith) ∙ eight_cut h.0 left h.1.1 h.1.4
part_cut (parts.Four left) bytes h =
    after_tag h.0 5 h.1.0 h.1.1 bytes h.1.2 h.1.3 (omega arith) ∙ four_cut h.0 left h.1.1 h.1.4

-- ---- a part of an item has some bytes

tag_some : (number type : ℕ) (tag rest : List ℕ) → IsTag number type tag → tag ++ rest ≡ [] → ⊥
tag_some number type [] rest h e = absurd h.0.chain
tag_some number type (byte ∷ tag) rest h e = absurd cc

pub part_some : (part : Part) (bytes : List ℕ) → IsPart part bytes → part ≢ parts.Nothing → bytes ≡ [] → ⊥
part_some parts.Nothing bytes h ne e = ne refl
part_some (parts.Tag chain) bytes h ne e = omega (arith, h.0, h.1.counted, ap length e)
part_some (parts.Value chain) bytes h ne e = tag_some h.0 0 h.1.0 h.1.1 h.1.3 (sym h.1.2 ∙ e)
part_some (parts.Size number chain) bytes h ne e = tag_some number 2 h.0 h.1 h.3 (sym h.2 ∙ e)
part_some (parts.Payload number len left) bytes h ne e = tag_some number 2 h.0 h.1 h.3 (sym h.2 ∙ e)
part_some (parts.Eight left) bytes h ne e = tag_some h.0 1 h.1.0 h.1.1 h.1.3 (sym h.1.2 ∙ e)
part_some (parts.Four left) bytes h ne e = tag_some h.0 5 h.1.0 h.1.1 h.1.3 (sym h.1.2 ∙ e)
