-- What a sink got while some bytes are still gathered.
use Rattle.std.proofs.Common.{◌≡◌, ◌∙◌, ◌++◌, ◌∷◌, [], ◌<◌, ◌+◌, ℕ, Bool, true, false, cond, List, Option, Some, take, drop, length, sym, ap, refl, subst, arith, append_assoc, get_or}
use Rattle.std.proofs.lemmas.List.{append-nil, get_or-map, length-map, take_more, take-append-drop}
use Rattle.std.proofs.Math.Seq.{take-length}
use Rattle.std.proofs.lemmas.List.Concat.{flat_map-append}
use Rattle.std.proofs.lemmas.List.Elements.{filter-append}
use Rattle.std.specs.Prelude.{filter}
use Rattle.std.specs.List.{flat_map}
use Rattle.gw_base.specs.Told.{PutsUnless, with_bytes}
use Rattle.gw_base.proofs.ToldLemmas.{puts_more, puts_wider, with_bytes-with_bytes}
use Rattle.feed_index.specs.Chosen.{Sends, chosen}
use Rattle.span_pool.specs.Spans.{bytes_of}
use Rattle.feed_index.specs.declared.entry.Entry.{Entry}
use Rattle.feed_index.specs.declared.row.Row.{Row}
use Rattle.feed_index.specs.Rows.{entries_of, entry_of}

-- one more piece was gathered
pub sends_more : (before mid now : Option (List ℕ)) (gathered more text piece : List ℕ) → Sends before mid gathered text → Sends mid now more (gathered ++ piece) → Sends before now more (text ++ piece)
sends_more before mid now gathered more text piece first second = record {
  sent = first.sent ++ second.sent;
  told = second.told ∙ ap (λ told. with_bytes told second.sent) first.told ∙ with_bytes-with_bytes before first.sent second.sent;
  rest = append_assoc first.sent second.sent more ∙ ap (λ (rest : List ℕ). first.sent ++ rest) second.rest ∙ sym (append_assoc first.sent gathered piece) ∙ ap (λ (front : List ℕ). front ++ piece) first.rest;
}

-- the last of the text was written, or only a front of it
pub sends_all : (before mid now : Option (List ℕ)) (gathered text : List ℕ) → Sends before mid gathered text → now ≡ with_bytes mid gathered → now ≡ with_bytes before text
sends_all before mid now gathered text first whole =
    whole ∙ ap (λ told. with_bytes told gathered) first.told ∙ with_bytes-with_bytes before first.sent gathered ∙ ap (with_bytes before) first.rest

pub sends_front : (P Q : Type 0) (before mid now : Option (List ℕ)) (gathered text more : List ℕ) → Sends before mid gathered text → (P → Q) → PutsUnless P mid now (gathered ++ more) → PutsUnless Q before now (text ++ more)
sends_front P Q before mid now gathered text more first wider puts =
    let T : List ℕ → Type 0 = λ all. PutsUnless Q before now all in
    subst T (sym (append_assoc first.sent gathered more) ∙ ap (λ (front : List ℕ). front ++ more) first.rest)
    (puts_more Q before mid now first.sent (gathered ++ more) first.told (puts_wider P Q mid now (gathered ++ more) wider puts))

pub sends_part : (P Q : Type 0) (before mid now : Option (List ℕ)) (gathered text : List ℕ) → Sends before mid gathered text → (P → Q) → PutsUnless P mid now gathered → PutsUnless Q before now text
sends_part P Q before mid now gathered text first wider puts =
    let T : List ℕ → Type 0 = λ all. PutsUnless Q before now all in
    subst T first.rest (puts_more Q before mid now first.sent gathered first.told (puts_wider P Q mid now gathered wider puts))

pub puts_whole : (P : Type 0) (before now : Option (List ℕ)) (text : List ℕ) → now ≡ with_bytes before text → PutsUnless P before now text
puts_whole P before now text whole = (length text, omega arith, whole ∙ ap (with_bytes before) (sym (take-length text)), λ lt. absurd (omega arith))

-- the chosen bytes of one more entry
module _ {K R : Type 0} (passes : R → Bool) where
  pub chosen-append : (xs ys : List (Entry K R)) → chosen passes (xs ++ ys) ≡ chosen passes xs ++ chosen passes ys
  chosen-append xs ys = ap (flat_map (λ (one : Entry K R). one.bytes)) (filter-append (λ one. passes one.value) xs ys) ∙ flat_map-append (λ (one : Entry K R). one.bytes) (filter (λ one. passes one.value) xs) (filter (λ one. passes one.value) ys)

  pub chosen-one : (one : Entry K R) → chosen passes (one ∷ []) ≡ cond (passes one.value) one.bytes []
  chosen-one one = by (passes one.value)
    where
      by : (b : Bool) → flat_map (λ (each : Entry K R). each.bytes) (cond b (one ∷ []) []) ≡ cond b one.bytes []
      by true = append-nil one.bytes
      by false = refl

  pub chosen-more : (xs : List (Entry K R)) (i : ℕ) (d : Entry K R) → i < length xs → chosen passes (take (i + 1) xs) ≡ chosen passes (take i xs) ++ cond (passes (get_or xs i d).value) (get_or xs i d).bytes []
  chosen-more xs i d h = ap (chosen passes) (take_more xs i d h) ∙ chosen-append (take i xs) (get_or xs i d ∷ []) ∙ ap (λ (rest : List ℕ). chosen passes (take i xs) ++ rest) (chosen-one (get_or xs i d))

  -- the chosen bytes of the rows up to one, and of all
  pub chosen_next : (spans : List (ℕ × List ℕ)) (rows : List (Row K R)) (i : ℕ) (row : Row K R) (piece : List ℕ) → i < length rows → row ≡ get_or rows i row → bytes_of spans row.slot ≡ Some piece →
      chosen passes (take (i + 1) (entries_of spans rows)) ≡ chosen passes (take i (entries_of spans rows)) ++ cond (passes row.value) piece []
  chosen_next spans rows i row piece h is_row held =
      let long : i < length (entries_of spans rows) = rw (length-map rows (entry_of spans)) h in
      let one : get_or (entries_of spans rows) i (entry_of spans row) ≡ entry_of spans row = get_or-map (entry_of spans) rows i row (entry_of spans row) h ∙ ap (entry_of spans) (sym is_row) in
      chosen-more (entries_of spans rows) i (entry_of spans row) long ∙ rw (one, held) refl

  pub chosen_whole : (xs : List (Entry K R)) (i : ℕ) → chosen passes (take i xs) ++ chosen passes (drop i xs) ≡ chosen passes xs
  chosen_whole xs i = sym (chosen-append (take i xs) (drop i xs)) ∙ ap (chosen passes) (take-append-drop i xs)
