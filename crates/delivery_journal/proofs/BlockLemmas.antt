-- Records as blocks of bytes: what a file holds is decided by its front up to the closed gate.
use Rattle.std.proofs.Common.{get_or, ◌≡◌, ◌≢◌, inl, inr, ℕ, zero, suc, ◌+◌, ◌≤◌, ◌<◌, Bool, true, false, List, [], ◌∷◌, ◌++◌, length, take, drop, Option, Some, None, Result, Ok, Err, refl, sym, ◌∙◌, ap, subst, arith, append_assoc, length-append, length-drop, take-append-drop, ne_eqb}
use Rattle.std.proofs.lemmas.List.{take_at, drop_at, length-take-le, take-append-le, drop-append-le, get_or-take, drop-take}
use Rattle.std.proofs.Math.Seq.{take-take}
use Rattle.std.proofs.lemmas.Bool.{cases_eq}
use Rattle.std.proofs.lemmas.Bool.Decides.{nat_tests}
use Rattle.delivery_journal.specs.declared.open_fault.OpenFault.{OpenFault}
use Rattle.delivery_journal.specs.declared.open_fault.OpenFault.TheVariants.{Damaged}
use Rattle.std.specs.Prelude.{◌==◌, ◌&&◌, nat_le, pos, if◌then◌else◌, option_map, option_and_then, IfSome, MatchOption}
use Rattle.std.specs.Option.{option_map_or}
use Rattle.std.specs.Int.{w32, w64, from_be_bytes}
use Rattle.gw_base.specs.Limits.{body_limit, last_moment}
use Rattle.gw_base.specs.declared.kind.Kind.{Kind}
use Rattle.delivery_journal.specs.declared.header.Header.{Header}
use Rattle.delivery_journal.specs.Kept.{KeptBody, Found, kind_of, moment_of, length_of, header_of, body_behind, record_of, with_first, found_from}

pub skip_drop : (skip at : ℕ) (bytes : List ℕ) → found_from skip at bytes ≡ found_from 0 at (drop skip bytes)
skip_drop zero at bytes = refl
skip_drop (suc skip) at [] = refl
skip_drop (suc skip) at (b ∷ bytes) = skip_drop skip at bytes

-- ---- one gate

-- a closed gate
pub at_closed : (at gate : ℕ) (rest : List ℕ) → gate ≡ 0 → found_from 0 at (gate ∷ rest) ≡ Ok (record { bodies = []; end = at })
at_closed at gate rest shut = subst (λ (g : ℕ). found_from 0 at (g ∷ rest) ≡ Ok (record { bodies = []; end = at })) (sym shut) refl

abbrev Behind : ℕ → List ℕ → Option KeptBody → Result Found OpenFault
Behind at rest None = Err (Damaged at)
Behind at rest (Some kept) = with_first kept (found_from (13 + length kept.body) (at + 14 + length kept.body) rest)

opened : (at gate : ℕ) (rest : List ℕ) → gate ≢ 0 → found_from 0 at (gate ∷ rest) ≡ Behind at rest (record_of rest)
opened at gate rest is_open = by (gate == 0) (ne_eqb gate 0 is_open) (record_of rest)
  where
    by : (shut : Bool) → shut ≡ false → (kept : Option KeptBody)
        → (if shut then Ok (record { bodies = []; end = at }) else option_map_or (λ (k : KeptBody). with_first k (found_from (13 + length k.body) (at + 14 + length k.body) rest)) kept (Err (Damaged at)))
        ≡ Behind at rest kept
    by true is kept = absurd (cc)
    by false is None = refl
    by false is (Some kept) = refl

-- an open gate with a whole record
pub at_record : (at gate : ℕ) (rest : List ℕ) (kept : KeptBody) → gate ≢ 0 → record_of rest ≡ Some kept
    → found_from 0 at (gate ∷ rest) ≡ with_first kept (found_from 0 (at + 14 + length kept.body) (drop (13 + length kept.body) rest))
at_record at gate rest kept is_open is =
    opened at gate rest is_open ∙ ap (Behind at rest) is
    ∙ ap (with_first kept) (skip_drop (13 + length kept.body) (at + 14 + length kept.body) rest)

-- an open gate with none
pub at_damage : (at gate : ℕ) (rest : List ℕ) → gate ≢ 0 → record_of rest ≡ None → found_from 0 at (gate ∷ rest) ≡ Err (Damaged at)
at_damage at gate rest is_open is = opened at gate rest is_open ∙ ap (Behind at rest) is

-- ---- one record

-- the header is read off the first 13 bytes
cut : (i k m : ℕ) (bytes : List ℕ) → k ≤ m → take k (drop i (take (i + m) bytes)) ≡ take k (drop i bytes)
cut i k m bytes le = ap (take k) (drop-take i m bytes) ∙ take-take k m (drop i bytes) le

pub header_cut : (bytes : List ℕ) → header_of (take 13 bytes) ≡ header_of bytes
unfolding header_of
header_cut bytes = λ i. shape (moments i) (counts i) (kinds i)
  where
    shape : ℕ → ℕ → ℕ → Option Header
    shape moment count byte =
        if nat_le moment last_moment && nat_le count body_limit
        then option_map (λ (kind : Kind). record { kind = kind; moment = pos moment; count = count }) (kind_of byte) else None

    moments : moment_of (take 13 bytes) ≡ moment_of bytes
    moments = ap (from_be_bytes w64) (cut 1 8 12 bytes (omega arith))

    counts : length_of (take 13 bytes) ≡ length_of bytes
    counts = ap (from_be_bytes w32) (cut 9 4 4 bytes (omega arith))

    kinds : get_or (take 13 bytes) 0 0 ≡ get_or bytes 0 0
    kinds = get_or-take 13 bytes 0 0 (omega arith)

-- the body that stands behind this header
abbrev pub body_of : List ℕ → Header → KeptBody
body_of bytes header = record { kind = header.kind; moment = header.moment; body = take header.count (drop 13 bytes) }

-- what it means that a record stands there
pub record IsWhole (bytes : List ℕ) (kept : KeptBody) : Type 0 where
  pub header : Header
  pub reads : header_of bytes ≡ Some header
  pub whole : 13 + header.count ≤ length bytes
  pub same : kept ≡ body_of bytes header

pub whole : (bytes : List ℕ) (kept : KeptBody) → record_of bytes ≡ Some kept → IsWhole bytes kept
unfolding record_of
whole bytes kept is = by (header_of bytes) refl is
  where
    within : (header : Header) → header_of bytes ≡ Some header → (fits : Bool) → nat_le (13 + header.count) (length bytes) ≡ fits
        → (if fits then Some (body_of bytes header) else None) ≡ Some kept
        → IsWhole bytes kept
    within header reads true fits is = record { header = header; reads = reads; whole = grind (arith, nat_tests, fits); same = cc }
    within header reads false fits is = absurd (cc)

    by : (header : Option Header) → header_of bytes ≡ header → option_and_then (body_behind bytes) header ≡ Some kept → IsWhole bytes kept
    by None reads is = absurd (cc)
    by (Some header) reads is = within header reads (nat_le (13 + header.count) (length bytes)) refl is

pub whole_reads : (bytes : List ℕ) (header : Header) → header_of bytes ≡ Some header → 13 + header.count ≤ length bytes
    → record_of bytes ≡ Some (body_of bytes header)
unfolding record_of
whole_reads bytes header reads fits =
    ap (option_and_then (body_behind bytes)) reads ∙ by (nat_le (13 + header.count) (length bytes)) (grind (arith, nat_tests))
  where
    by : (b : Bool) → b ≡ true → (if b then Some (body_of bytes header) else None)
        ≡ Some (body_of bytes header)
    by true is = refl
    by false is = absurd (cc)

pub body_length : (bytes : List ℕ) (kept : KeptBody) (is : IsWhole bytes kept) → length kept.body ≡ is.header.count
body_length bytes kept is =
    ap (λ (k : KeptBody). length k.body) is.same ∙ length-take-le is.header.count (drop 13 bytes) (omega (arith, is.whole, length-drop 13 bytes))

pub record_length : (bytes : List ℕ) (kept : KeptBody) → record_of bytes ≡ Some kept → 13 + length kept.body ≤ length bytes
record_length bytes kept is = let w = whole bytes kept is in omega (arith, w.whole, body_length bytes kept w)

-- what a record says is said by its own bytes
pub record_front : (bytes : List ℕ) (kept : KeptBody) → record_of bytes ≡ Some kept → (rest : List ℕ)
    → record_of (take (13 + length kept.body) bytes ++ rest) ≡ Some kept
record_front bytes kept is rest =
    let w = whole bytes kept is in
    let n = w.header.count in
    let size : length kept.body ≡ n = body_length bytes kept w in
    let front = take (13 + n) bytes in
    let long : length front ≡ 13 + n = length-take-le (13 + n) bytes w.whole in
    let reads : header_of (front ++ rest) ≡ Some w.header =
    sym (header_cut (front ++ rest))
    ∙ ap header_of (take-append-le 13 front rest (omega (arith, long)) ∙ take-take 13 (13 + n) bytes (omega arith))
    ∙ header_cut bytes ∙ w.reads in
    let body : take n (drop 13 (front ++ rest)) ≡ take n (drop 13 bytes) =
    ap (take n) (drop-append-le 13 front rest (omega (arith, long)) ∙ ap (λ (l : List ℕ). l ++ rest) (drop-take 13 n bytes))
    ∙ take_at (take n (drop 13 bytes)) rest n (length-take-le n (drop 13 bytes) (omega (arith, w.whole, length-drop 13 bytes))) in
    ap (λ (m : ℕ). record_of (take (13 + m) bytes ++ rest)) size
    ∙ whole_reads (front ++ rest) w.header reads (omega (arith, long, length-append front rest))
    ∙ ap Some ((λ i. record { kind = w.header.kind; moment = w.header.moment; body = body i }) ∙ sym w.same)

-- ---- all records up to the closed gate

pub record IsBlock (kept : KeptBody) (gate : ℕ) (block : List ℕ) : Type 0 where
  pub is_open : gate ≢ 0
  pub size : length block ≡ 13 + length kept.body
  pub reads : (rest : List ℕ) → record_of (block ++ rest) ≡ Some kept

-- these bytes are open records of these bodies
abbrev pub IsBlocks : List KeptBody → List ℕ → Type 0
IsBlocks [] front = front ≡ []
IsBlocks (kept ∷ bodies) front =
    (gate : ℕ) × ((block : List ℕ) × ((rest : List ℕ) × ((front ≡ gate ∷ block ++ rest) × (IsBlock kept gate block × IsBlocks bodies rest))))

abbrev pub onto : List KeptBody → Result Found OpenFault → Result Found OpenFault
onto [] all = all
onto (kept ∷ bodies) all = with_first kept (onto bodies all)

pub onto_ok : (bodies : List KeptBody) (all : Found) → onto bodies (Ok all) ≡ Ok (record { bodies = bodies ++ all.bodies; end = all.end })
onto_ok [] all = refl
onto_ok (kept ∷ bodies) all = ap (with_first kept) (onto_ok bodies all)

pub onto_more : (bodies : List KeptBody) (kept : KeptBody) (all : Result Found OpenFault) → onto (bodies ++ kept ∷ []) all ≡ onto bodies (with_first kept all)
onto_more [] kept all = refl
onto_more (first ∷ bodies) kept all = ap (with_first first) (onto_more bodies kept all)

pub found_behind : (bodies : List KeptBody) (front : List ℕ) → IsBlocks bodies front → (at : ℕ) (rest : List ℕ)
    → found_from 0 at (front ++ rest) ≡ onto bodies (found_from 0 (at + length front) rest)
found_behind [] front is at rest =
    ap (λ (l : List ℕ). found_from 0 at (l ++ rest)) is ∙ ap (λ (m : ℕ). found_from 0 m rest) (omega (arith, ap length is))
found_behind (kept ∷ bodies) front is at rest =
    let gate = is.0 in
    let block = is.1.0 in
    let behind = is.1.1.0 in
    let b : IsBlock kept gate block = is.1.1.1.1.0 in
    let n = 13 + length kept.body in
    let whole_is : front ≡ gate ∷ block ++ behind = is.1.1.1.0 in
    ap (λ (l : List ℕ). found_from 0 at (l ++ rest)) whole_is
    ∙ ap (λ (l : List ℕ). found_from 0 at (gate ∷ l)) (append_assoc block behind rest)
    ∙ at_record at gate (block ++ (behind ++ rest)) kept b.is_open (b.reads (behind ++ rest))
    ∙ ap (λ (l : List ℕ). with_first kept (found_from 0 (at + 14 + length kept.body) l)) (drop_at block (behind ++ rest) n b.size)
    ∙ ap (with_first kept) (found_behind bodies behind is.1.1.1.1.1 (at + 14 + length kept.body) rest)
    ∙ ap (λ (m : ℕ). with_first kept (onto bodies (found_from 0 m rest))) (omega (arith, ap length whole_is, length-append block behind, b.size))

-- bytes in which a list was found: its records, a closed gate, and whatever stands behind it
pub record Parts (at : ℕ) (bytes : List ℕ) (all : Found) : Type 0 where
  pub front : List ℕ
  pub rest : List ℕ
  pub split : bytes ≡ front ++ 0 ∷ rest
  pub blocks : IsBlocks all.bodies front
  pub end : all.end ≡ at + length front

first_of_ok : (kept : KeptBody) (inner : Result Found OpenFault) (all : Found) → with_first kept inner ≡ Ok all
    → (later : Found) × ((inner ≡ Ok later) × (record { bodies = kept ∷ later.bodies; end = later.end } ≡ all))
first_of_ok kept (Ok later) all is = (later, (refl, cc))
first_of_ok kept (Err fault) all is = absurd (cc)

pub parts : (n at : ℕ) (bytes : List ℕ) (all : Found) → length bytes ≤ n → found_from 0 at bytes ≡ Ok all → Parts at bytes all
parts n at [] all le is = absurd (cc)
parts zero at (gate ∷ bytes) all le is = absurd (omega arith)
parts (suc n) at (gate ∷ bytes) all le is = elim (cases_eq gate 0) [
  | inl shut ↦ closed shut
  | inr is_open ↦ by is_open (record_of bytes) refl (λ m at' later le' is'. parts n at' (drop m bytes) later le' is')
]
  where
    closed : gate ≡ 0 → Parts at (gate ∷ bytes) all
    closed shut =
        let same : record { bodies = []; end = at } ≡ all = cc (at_closed at gate bytes shut, is) in
        subst (Parts at (gate ∷ bytes)) same (record { front = []; rest = bytes; split = ap (λ (g : ℕ). g ∷ bytes) shut; blocks = refl; end = omega arith })

    by : gate ≢ 0 → (kept : Option KeptBody) → record_of bytes ≡ kept
        → ((m at' : ℕ) (later : Found) → length (drop m bytes) ≤ n → found_from 0 at' (drop m bytes) ≡ Ok later → Parts at' (drop m bytes) later)
        → Parts at (gate ∷ bytes) all
    by is_open None none goes_on = absurd (cc (at_damage at gate bytes is_open none, is))
    by is_open (Some kept) reads goes_on =
        let m = 13 + length kept.body in
        let long = record_length bytes kept reads in
        let first = first_of_ok kept (found_from 0 (at + 14 + length kept.body) (drop m bytes)) all (sym (at_record at gate bytes kept is_open reads) ∙ is) in
        let later = first.0 in
        let p = goes_on m (at + 14 + length kept.body) later (omega (arith, length-drop m bytes, le)) first.1.0 in
        let size : length (take m bytes) ≡ m = length-take-le m bytes long in
        let front = gate ∷ take m bytes ++ p.front in
        subst (Parts at (gate ∷ bytes)) first.1.1 (record {
          front = front;
          rest = p.rest;
          split = ap (λ (l : List ℕ). gate ∷ l) (sym (take-append-drop m bytes) ∙ ap (λ (l : List ℕ). take m bytes ++ l) p.split ∙ sym (append_assoc (take m bytes) p.front (0 ∷ p.rest)));
          blocks = (gate, (take m bytes, (p.front, (refl, (record { is_open = is_open; size = size; reads = record_front bytes kept reads }, p.blocks)))));
          end = omega (arith, p.end, size, length-append (take m bytes) p.front);
        })

-- ---- what a reader finds behind an open gate

none_if : (bytes : List ℕ) → ((kept : KeptBody) → record_of bytes ≡ Some kept → ⊥) → record_of bytes ≡ None
none_if bytes never = by (record_of bytes) refl
  where
    by : (kept : Option KeptBody) → record_of bytes ≡ kept → kept ≡ None
    by None is = refl
    by (Some kept) is = absurd (never kept is)

pub record_short : (bytes : List ℕ) → length bytes < 13 → record_of bytes ≡ None
record_short bytes short = none_if bytes (λ kept is. let long = record_length bytes kept is in omega arith)

-- the end that a reader answers, by the header that it found
pub end_of_record : (bytes : List ℕ) (header : Option Header) (at left : ℕ) (end : Option ℕ) → header ≡ header_of bytes → length bytes + 1 ≡ left
    → (header ≡ None → end ≡ None)
    → IfSome header (λ h. MatchOption end (left < 14 + h.count) (λ next. (14 + h.count ≤ left) × (next ≡ at + 14 + h.count)))
    → MatchOption end (record_of bytes ≡ None) (λ next. (kept : KeptBody) × (record_of bytes ≡ Some kept) × (next ≡ at + 14 + length kept.body))
end_of_record bytes None at left None header size none some = none_if bytes (λ kept is. absurd (cc (header, (whole bytes kept is).reads)))
end_of_record bytes None at left (Some next) header size none some = absurd (cc (none refl))
end_of_record bytes (Some h) at left None header size none some = none_if bytes (λ kept is.
    let w = whole bytes kept is in
    let same : w.header ≡ h = cc (w.reads, header) in
    let count = ap (λ (x : Header). x.count) same in
    omega (arith, w.whole, count, some))
end_of_record bytes (Some h) at left (Some next) header size none some =
    let reads = whole_reads bytes h (sym header) (omega (arith, some.0)) in
    (body_of bytes h, reads, some.1 ∙ omega (arith, length-take-le h.count (drop 13 bytes) (omega (arith, some.0, length-drop 13 bytes))))
