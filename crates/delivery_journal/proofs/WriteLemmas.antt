-- What a write makes of a file, and what it may be torn to.
use Rattle.std.proofs.Common.{◌≡◌, ℕ, ◌+◌, ◌-◌, ◌≤◌, ◌<◌, List, [], ◌∷◌, ◌++◌, length, take, drop, Option, Some, None, refl, sym, ◌∙◌, ap, arith, append_assoc, length-append, length-drop}
use Rattle.std.specs.Prelude.{option_map}
use Rattle.std.proofs.Math.Seq.{take-take}
use Rattle.std.proofs.lemmas.List.{take_at, drop_at, length-take-le}
use Rattle.std.proofs.lemmas.Slice.{drop-append-drop}
use Rattle.delivery_journal.specs.Disk.{with_bytes_at, Torn, WhereTold}

module _ (file : List ℕ) (at : ℕ) (inside : at ≤ length file) where
  front : (bytes : List ℕ) → length (take at file ++ bytes) ≡ at + length bytes
  front bytes = length-append (take at file) bytes ∙ ap (λ (n : ℕ). n + length bytes) (length-take-le at file inside)

  pub length-with_bytes_at : (bytes : List ℕ) → length (with_bytes_at file at bytes) ≡ at + length bytes + (length file - (at + length bytes))
  length-with_bytes_at bytes = omega (arith, front bytes, length-append (take at file ++ bytes) (drop (at + length bytes) file), length-drop (at + length bytes) file)

  -- the first so many of n bytes were put
  pub torn_part : (n : ℕ) (bytes : List ℕ) → length bytes ≤ n → Torn at n file (with_bytes_at file at bytes)
  torn_part n bytes le = record {
    before = ap (λ (l : List ℕ). take at l) (append_assoc (take at file) bytes (drop (at + length bytes) file)) ∙ take_at (take at file) (bytes ++ drop (at + length bytes) file) at (length-take-le at file inside);
    behind = drop-append-drop (at + length bytes) file (take at file ++ bytes) (at + n) (omega arith) (front bytes);
    no_shorter = omega (arith, length-with_bytes_at bytes);
    no_longer = omega (arith, length-with_bytes_at bytes);
  }

  -- one byte more
  pub put_more : (bytes : List ℕ) (byte : ℕ)
      → with_bytes_at (with_bytes_at file at bytes) (at + length bytes) (byte ∷ []) ≡ with_bytes_at file at (bytes ++ byte ∷ [])
  put_more bytes byte =
      let n = at + length bytes in
      let both : length (bytes ++ byte ∷ []) ≡ length bytes + 1 = length-append bytes (byte ∷ []) in
      (λ i. take_at (take at file ++ bytes) (drop n file) n (front bytes) i ++ byte ∷ [] ++ drop-append-drop n file (take at file ++ bytes) (n + 1) (omega arith) (front bytes) i)
      ∙ ap (λ (l : List ℕ). l ++ drop (n + 1) file) (append_assoc (take at file) bytes (byte ∷ []))
      ∙ ap (λ (m : ℕ). take at file ++ (bytes ++ byte ∷ []) ++ drop m file) (omega arith)

pub torn_same : (at n : ℕ) (file : List ℕ) → Torn at n file file
torn_same at n file = record { before = refl; behind = refl; no_shorter = omega arith; no_longer = omega arith }

-- a byte put before bytes that were put
pub put_before : (file : List ℕ) (at byte : ℕ) (bytes : List ℕ) → at < length file
    → with_bytes_at (with_bytes_at file (at + 1) bytes) at (byte ∷ []) ≡ with_bytes_at file at (byte ∷ bytes)
put_before file at byte bytes inside =
    let le : at + 1 ≤ length file = omega arith in
    let rest = drop (at + 1 + length bytes) file in
    let put = with_bytes_at file (at + 1) bytes in
    let torn = torn_part file (at + 1) le (length bytes) bytes (omega arith) in
    let front : take at put ≡ take at file = sym (take-take at (at + 1) put (omega arith)) ∙ ap (take at) torn.before ∙ take-take at (at + 1) file (omega arith) in
    let behind : drop (at + 1) put ≡ bytes ++ rest =
    ap (drop (at + 1)) (append_assoc (take (at + 1) file) bytes rest) ∙ drop_at (take (at + 1) file) (bytes ++ rest) (at + 1) (length-take-le (at + 1) file le) in
    (λ i. front i ++ byte ∷ [] ++ behind i)
    ∙ append_assoc (take at file) (byte ∷ []) (bytes ++ rest)
    ∙ sym (append_assoc (take at file) (byte ∷ bytes) rest)
    ∙ ap (λ (n : ℕ). take at file ++ (byte ∷ bytes) ++ drop n file) (omega arith)

pub told_before : (told : Option (List ℕ)) (at byte : ℕ) (bytes : List ℕ) → WhereTold told (λ file. at < length file)
    → option_map (λ file. with_bytes_at file at (byte ∷ [])) (option_map (λ file. with_bytes_at file (at + 1) bytes) told)
    ≡ option_map (λ file. with_bytes_at file at (byte ∷ bytes)) told
told_before None at byte bytes inside = refl
told_before (Some file) at byte bytes inside = ap Some (put_before file at byte bytes (inside file refl))
