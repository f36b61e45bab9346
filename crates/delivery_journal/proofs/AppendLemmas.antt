-- What a crash leaves while a body is appended.
use Rattle.std.proofs.Common.{get_or, ◌≡◌, ◌≢◌, ◌⊎◌, inl, inr, ℕ, ◌+◌, ◌≤◌, ◌<◌, ℤ, pos, negsuc, Bool, true, false, nat_le, List, [], ◌∷◌, ◌++◌, length, take, drop, Option, Some, None, Result, Ok, Err, refl, sym, ◌∙◌, ap, arith, append_assoc, length-append, take-append-drop}
use Rattle.std.specs.Prelude.{◌&&◌, if◌then◌else◌, option_map, OnOk}
use Rattle.std.specs.Str.{bytes_eq}
use Rattle.std.specs.Int.{w32, w64, to_be_bytes, from_be_bytes}
use Rattle.std.proofs.lemmas.Nat.{from_be_bytes-to_be_bytes_4, from_be_bytes-to_be_bytes_8}
use Rattle.std.proofs.lemmas.Bool.{le-leb, cases_eq}
use Rattle.std.proofs.lemmas.Bool.Decides.{nat_tests}
use Rattle.std.proofs.lemmas.Slice.Eq.{bytes_eq-Decides}
use Rattle.std.proofs.lemmas.List.{take_at, drop_at, append-nil, drop_more, length-take-le}
use Rattle.std.proofs.Math.Seq.{take-take}
use Rattle.std.proofs.lemmas.Slice.{drop-append-drop}
use Rattle.std.proofs.lemmas.Int.{ints}
use Rattle.gw_base.specs.Chains.{ok_map}
use Rattle.gw_base.specs.Limits.{body_limit, last_moment}
use Rattle.gw_base.specs.Moments.{IsMoment}
use Rattle.gw_base.specs.declared.kind.Kind.{Kind}
use Rattle.gw_base.specs.declared.kind.Kind.TheVariants.{Estimated, Situations, Feed}
use Rattle.delivery_journal.specs.declared.header.Header.{Header}
use Rattle.delivery_journal.specs.declared.open_fault.OpenFault.TheVariants.{NotJournal}
use Rattle.delivery_journal.specs.Disk.{Torn, ComeBy, WhereTold, with_bytes_at}
use Rattle.delivery_journal.specs.HeaderBytes.{kind_byte, header_bytes}
use Rattle.delivery_journal.specs.Kept.{KeptBody, Found, magic, kind_of, header_of, record_of, with_first, found_from, found, kept}
use Rattle.delivery_journal.proofs.BlockLemmas.{IsBlocks, parts, at_record, onto, onto_ok, found_behind, whole_reads}

-- ---- images

pub keeps_front : (m at n : ℕ) (from image : List ℕ) → m ≤ at → Torn at n from image → take m image ≡ take m from
keeps_front m at n from image le torn = sym (take-take m at image le) ∙ ap (take m) torn.before ∙ take-take m at from le

-- a list of bytes put behind one that was put
pub put_both : (file : List ℕ) (at : ℕ) (xs ys : List ℕ) → at ≤ length file
    → with_bytes_at (with_bytes_at file at xs) (at + length xs) ys ≡ with_bytes_at file at (xs ++ ys)
put_both file at xs ys inside =
    let n = at + length xs in
    let both : length (xs ++ ys) ≡ length xs + length ys = length-append xs ys in
    let front : length (take at file ++ xs) ≡ n = length-append (take at file) xs ∙ ap (λ (m : ℕ). m + length xs) (length-take-le at file inside) in
    (λ i. take_at (take at file ++ xs) (drop n file) n front i ++ ys ++ drop-append-drop n file (take at file ++ xs) (n + length ys) (omega arith) front i)
    ∙ ap (λ (l : List ℕ). l ++ drop (n + length ys) file) (append_assoc (take at file) xs ys)
    ∙ ap (λ (m : ℕ). take at file ++ (xs ++ ys) ++ drop m file) (omega (arith, both))

-- a header, a body and a closed gate
pub put_record : (file : List ℕ) (end : ℕ) (header body : List ℕ) → length header ≡ 13 → end < length file
    → with_bytes_at (with_bytes_at (with_bytes_at file (end + 1) header) (end + 14) body) (end + 14 + length body) (0 ∷ [])
    ≡ with_bytes_at file (end + 1) (header ++ body ++ 0 ∷ [])
put_record file end header body size inside =
    let le : end + 1 ≤ length file = omega arith in
    (λ i. with_bytes_at (with_bytes_at (with_bytes_at file (end + 1) header) (at i) body) (at i + length body) (0 ∷ []))
    ∙ ap (λ (l : List ℕ). with_bytes_at l (end + 1 + length header + length body) (0 ∷ [])) (put_both file (end + 1) header body le)
    ∙ ap (λ (n : ℕ). with_bytes_at (with_bytes_at file (end + 1) (header ++ body)) n (0 ∷ [])) (omega (arith, length-append header body))
    ∙ put_both file (end + 1) (header ++ body) (0 ∷ []) le
  where
    at : end + 14 ≡ end + 1 + length header
    at = omega (arith, size)

pub put_told : (told : Option (List ℕ)) (end : ℕ) (header body : List ℕ) → length header ≡ 13 → WhereTold told (λ file. end < length file)
    → option_map (λ file. with_bytes_at file (end + 14 + length body) (0 ∷ [])) (option_map (λ file. with_bytes_at file (end + 14) body) (option_map (λ file. with_bytes_at file (end + 1) header) told))
    ≡ option_map (λ file. with_bytes_at file (end + 1) (header ++ body ++ 0 ∷ [])) told
put_told None end header body size inside = refl
put_told (Some file) end header body size inside = ap Some (put_record file end header body size (inside file refl))

-- the front stays in each image after a write behind it
pub front_by_write : (m at n : ℕ) (file : List ℕ) (old new : List ℕ → Type 0) → m ≤ at → ((image : List ℕ) → old image → take m image ≡ take m file)
    → ComeBy (Torn at n) old new → (image : List ℕ) → new image → take m image ≡ take m file
front_by_write m at n file old new le here come image left = let from = come image left in keeps_front m at n from.0 image le from.2 ∙ here from.0 from.1

pub on_ok : {T E : Type 0} (answer : Result T E) (P : Type 0) → P → OnOk answer P
on_ok (Ok value) P p = p
on_ok (Err fault) P p = tt

pub map_some : (f : List ℕ → List ℕ) (told : Option (List ℕ)) (now : List ℕ) → option_map f told ≡ Some now → (file : List ℕ) × ((told ≡ Some file) × (f file ≡ now))
map_some f None now is = absurd (cc)
map_some f (Some file) now is = (file, (refl, cc))

-- ---- a record that was written

kind_made : (kind : Kind) → kind_of (kind_byte kind) ≡ Some kind
kind_made Estimated = refl
kind_made Situations = refl
kind_made Feed = refl

header_made : (kind : Kind) (moment : ℤ) (body rest : List ℕ) → IsMoment moment → length body ≤ body_limit
    → header_of ((header_bytes kind moment (length body) ++ body) ++ rest) ≡ Some (record { kind = kind; moment = moment; count = length body })
unfolding header_of
header_made kind (negsuc n) body rest range short = absurd (omega (arith, ints, range.0))
header_made kind (pos secs) body rest range short =
    let le : secs ≤ last_moment = omega (arith, ints, range.1) in
    let moments : from_be_bytes w64 (to_be_bytes w64 secs) ≡ secs = from_be_bytes-to_be_bytes_8 secs (omega arith) in
    let counts : from_be_bytes w32 (to_be_bytes w32 (length body)) ≡ length body = from_be_bytes-to_be_bytes_4 (length body) (omega arith) in
    (λ i. shape (moments i) (counts i) (kind_made kind i))
    ∙ by (nat_le secs last_moment) (nat_le (length body) body_limit) (le-leb secs last_moment le) (le-leb (length body) body_limit short)
  where
    shape : ℕ → ℕ → Option Kind → Option Header
    shape at count named =
        if nat_le at last_moment && nat_le count body_limit then option_map (λ (k : Kind). record { kind = k; moment = pos at; count = count }) named else None

    by : (a b : Bool) → a ≡ true → b ≡ true
        → (let made : Header = record { kind = kind; moment = pos secs; count = length body } in (if a && b then Some made else None) ≡ Some made)
    by true true p q = refl
    by true false p q = absurd (cc)
    by false b p q = absurd (cc)

module _ (kind : Kind) (moment : ℤ) (body : List ℕ) (in_range : IsMoment moment) (short : length body ≤ body_limit) where
  abbrev pub new_body : KeptBody
  new_body = record { kind = kind; moment = moment; body = body }

  abbrev pub block : List ℕ
  block = header_bytes kind moment (length body) ++ body

  pub block_length : length block ≡ 13 + length body
  block_length = length-append (header_bytes kind moment (length body)) body

  pub record_made : (rest : List ℕ) → record_of (block ++ rest) ≡ Some new_body
  record_made rest =
      let reads : header_of (block ++ rest) ≡ Some (record { kind = kind; moment = moment; count = length body }) = header_made kind moment body rest in_range short in
      whole_reads (block ++ rest) (record { kind = kind; moment = moment; count = length body }) reads (omega (arith, block_length, length-append block rest))
      ∙ ap (λ (l : List ℕ). Some (record { kind = kind; moment = moment; body = l }))
      (ap (λ (l : List ℕ). take (length body) (drop 13 l)) (append_assoc (header_bytes kind moment (length body)) body rest) ∙ take_at body rest (length body) refl)

-- ---- a file in which a list was found

pub record FileParts (file : List ℕ) (all : Found) : Type 0 where
  pub front : List ℕ
  pub rest : List ℕ
  pub split : file ≡ magic ++ (front ++ 0 ∷ rest)
  pub blocks : IsBlocks all.bodies front
  pub end : all.end ≡ 8 + length front

pub file_parts : (file : List ℕ) (all : Found) → found file ≡ Ok all → FileParts file all
file_parts file all is = by (bytes_eq (take 8 file) magic) refl is
  where
    by : (b : Bool) → bytes_eq (take 8 file) magic ≡ b → (if b then found_from 0 8 (drop 8 file) else Err NotJournal) ≡ Ok all → FileParts file all
    by true begins is =
        let p = parts (length (drop 8 file)) 8 (drop 8 file) all (omega arith) is in
        let front : take 8 file ≡ magic = (bytes_eq-Decides (take 8 file) magic).0 begins in
        record {
          front = p.front;
          rest = p.rest;
          split = sym (take-append-drop 8 file) ∙ (λ i. front i ++ p.split i);
          blocks = p.blocks;
          end = p.end;
        }
    by false begins is = absurd (cc)

pub found_closed : (file : List ℕ) (all : Found) (p : FileParts file all) (rest : List ℕ) → found (magic ++ (p.front ++ 0 ∷ rest)) ≡ Ok all
found_closed file all p rest =
    found_behind all.bodies p.front p.blocks 8 (0 ∷ rest)
    ∙ onto_ok all.bodies (record { bodies = []; end = 8 + length p.front })
    ∙ (λ i. Ok (record { bodies = append-nil all.bodies i; end = sym p.end i }))

pub kept_found : (file : List ℕ) (all : Found) → found file ≡ Ok all → kept file ≡ Ok all.bodies
kept_found file all is = by (nat_le (length file) 9) refl
  where
    p : FileParts file all
    p = file_parts file all is

    none : (bodies : List KeptBody) (front : List ℕ) → IsBlocks bodies front → length front ≤ 0 → bodies ≡ []
    none [] front blocks le = refl
    none (first ∷ bodies) front blocks le = absurd (omega (arith, ap length blocks.1.1.1.0))

    by : (b : Bool) → nat_le (length file) 9 ≡ b → (if b then Ok [] else ok_map (λ (all : Found). all.bodies) (found file)) ≡ Ok all.bodies
    by true short =
        let le : length file ≤ 9 = grind (arith, nat_tests, short) in
        let long : length file ≡ 8 + length (p.front ++ 0 ∷ p.rest) = ap length p.split ∙ length-append magic (p.front ++ 0 ∷ p.rest) in
        ap Ok (sym (none all.bodies p.front p.blocks (omega (arith, long, length-append p.front (0 ∷ p.rest)))))
    by false long = ap (ok_map (λ (all : Found). all.bodies)) is

-- ---- a crash while a body is appended

module _ (file : List ℕ) (all : Found) (is : found file ≡ Ok all) where
  p : FileParts file all
  p = file_parts file all is

  abbrev before : List ℕ
  before = magic ++ p.front

  size : length before ≡ all.end
  size = length-append magic p.front ∙ sym p.end

  split : file ≡ before ++ 0 ∷ p.rest
  split = p.split ∙ sym (append_assoc magic p.front (0 ∷ p.rest))

  pub end_inside : all.end < length file
  end_inside = omega (arith, size, ap length split, length-append before (0 ∷ p.rest))

  shut : take (all.end + 1) file ≡ before ++ 0 ∷ []
  shut = ap (take (all.end + 1)) (split ∙ sym (append_assoc before (0 ∷ []) p.rest))
      ∙ take_at (before ++ 0 ∷ []) p.rest (all.end + 1) (omega (arith, size, length-append before (0 ∷ [])))

  open_front : take all.end file ≡ before
  open_front = ap (take all.end) split ∙ take_at before (0 ∷ p.rest) all.end size

  -- what is written behind the closed gate doesn't count
  pub found_shut : (image : List ℕ) → take (all.end + 1) image ≡ take (all.end + 1) file → found image ≡ Ok all
  found_shut image same =
      let rest = drop (all.end + 1) image in
      ap found (sym (take-append-drop (all.end + 1) image) ∙ ap (λ (l : List ℕ). l ++ rest) (same ∙ shut)
      ∙ append_assoc before (0 ∷ []) rest ∙ append_assoc magic p.front (0 ∷ rest))
      ∙ found_closed file all p rest

  module _ (kind : Kind) (moment : ℤ) (body : List ℕ) (in_range : IsMoment moment) (short : length body ≤ body_limit) where
    abbrev kept_body : KeptBody
    kept_body = record { kind = kind; moment = moment; body = body }

    abbrev tail : List ℕ
    tail = header_bytes kind moment (length body) ++ body

    -- the record and a new closed gate, put behind the closed gate
    abbrev pub staged : List ℕ
    staged = with_bytes_at file (all.end + 1) (tail ++ 0 ∷ [])

    abbrev behind : List ℕ
    behind = drop (all.end + 1 + length (tail ++ 0 ∷ [])) file

    front_long : length (take (all.end + 1) file) ≡ all.end + 1
    front_long = length-take-le (all.end + 1) file (omega (arith, end_inside))

    staged_split : staged ≡ (take (all.end + 1) file) ++ (tail ++ (0 ∷ behind))
    staged_split = append_assoc (take (all.end + 1) file) (tail ++ 0 ∷ []) behind ∙ ap (λ (l : List ℕ). take (all.end + 1) file ++ l) (append_assoc tail (0 ∷ []) behind)

    staged_shut : take (all.end + 1) staged ≡ take (all.end + 1) file
    staged_shut = ap (take (all.end + 1)) staged_split ∙ take_at (take (all.end + 1) file) (tail ++ (0 ∷ behind)) (all.end + 1) front_long

    staged_back : drop (all.end + 1) staged ≡ tail ++ (0 ∷ behind)
    staged_back = ap (drop (all.end + 1)) staged_split ∙ drop_at (take (all.end + 1) file) (tail ++ (0 ∷ behind)) (all.end + 1) front_long

    staged_front : take all.end staged ≡ before
    staged_front = sym (take-take all.end (all.end + 1) staged (omega arith)) ∙ ap (take all.end) staged_shut ∙ take-take all.end (all.end + 1) file (omega arith) ∙ open_front

    pub staged_longer : all.end < length staged
    staged_longer = omega (arith, ap length staged_split, length-append (take (all.end + 1) file) (tail ++ (0 ∷ behind)), front_long)

    abbrev pub with_new : Found
    with_new = record { bodies = all.bodies ++ kept_body ∷ []; end = all.end + 14 + length body }

    -- the staged file with this byte as the gate, which is open
    found_gated : (gate : ℕ) → gate ≢ 0 → found (magic ++ (p.front ++ gate ∷ (tail ++ (0 ∷ behind)))) ≡ Ok with_new
    found_gated gate is_open =
        found_behind all.bodies p.front p.blocks 8 (gate ∷ (tail ++ (0 ∷ behind)))
        ∙ ap (onto all.bodies) (
        at_record (8 + length p.front) gate (tail ++ (0 ∷ behind)) kept_body is_open (record_made kind moment body in_range short (0 ∷ behind))
        ∙ ap (λ (l : List ℕ). with_first kept_body (found_from 0 (8 + length p.front + 14 + length body) l)) (drop_at tail (0 ∷ behind) (13 + length body) (block_length kind moment body in_range short)))
        ∙ onto_ok all.bodies (record { bodies = kept_body ∷ []; end = 8 + length p.front + 14 + length body })
        ∙ ap (λ (n : ℕ). Ok (record { bodies = all.bodies ++ kept_body ∷ []; end = n })) (omega (arith, p.end))

    -- any byte may stand as the gate while it is opened
    pub found_torn : (image : List ℕ) → Torn all.end 1 staged image → (found image ≡ Ok all) ⊎ (found image ≡ Ok with_new)
    found_torn image torn =
        let gate = get_or image all.end 0 in
        let rest : drop all.end image ≡ gate ∷ (tail ++ (0 ∷ behind)) =
        drop_more image all.end 0 (omega (arith, torn.no_shorter, staged_longer)) ∙ ap (λ (l : List ℕ). gate ∷ l) (torn.behind ∙ staged_back) in
        let whole : image ≡ magic ++ (p.front ++ gate ∷ (tail ++ (0 ∷ behind))) =
        sym (take-append-drop all.end image) ∙ (λ i. (torn.before ∙ staged_front) i ++ rest i) ∙ append_assoc magic p.front (gate ∷ (tail ++ (0 ∷ behind))) in
        elim (cases_eq gate 0) [
          | inl is_shut ↦ inl (ap found whole ∙ ap (λ (g : ℕ). found (magic ++ (p.front ++ g ∷ (tail ++ (0 ∷ behind))))) is_shut ∙ found_closed file all p (tail ++ (0 ∷ behind)))
          | inr is_open ↦ inr (ap found whole ∙ found_gated gate is_open)
        ]

    -- the gate was opened
    pub found_opened : found (with_bytes_at staged all.end (1 ∷ [])) ≡ Ok with_new
    found_opened =
        ap found ((λ i. staged_front i ++ (1 ∷ []) ++ staged_back i) ∙ append_assoc before (1 ∷ []) (tail ++ (0 ∷ behind)) ∙ append_assoc magic p.front (1 ∷ (tail ++ (0 ∷ behind))))
        ∙ found_gated 1 (λ is. omega arith)
