-- The live spans while they are moved together, one after the other.
use Rattle.std.proofs.Common.{◌≡◌, ◌+◌, ◌-◌, ◌<◌, ◌≤◌, ◌++◌, ◌∷◌, [], ℕ, List, Option, None, Some, length, get_or, set, take, drop, arith, refl, sym, ◌∙◌, ap, subst, cond, zero-add}
use Rattle.std.specs.List.{slice_get, slice_range, cons_option}
use Rattle.std.proofs.lemmas.Bool.{le-leb}
use Rattle.std.proofs.lemmas.List.{append-nil, take-take, take_all, drop_all, take_more, drop_more, length-take-le, take-append-drop, length-set}
use Rattle.std.proofs.lemmas.Option.{slice_get_within, slice_get_read}
use Rattle.std.proofs.lemmas.List.Edits.{length-between}
use Rattle.span_pool.specs.Spans.{live_bytes}
use Rattle.span_pool.specs.Places.{with_place, standing, cut, Ascends, AreBelow, AreDistinct, IsMoved}
use Rattle.span_pool.specs.declared.place.Place.{Place}
use Rattle.span_pool.proofs.SpanLemmas.{live_bytes-append}
use Rattle.span_pool.proofs.PlaceLemmas.{standing-append, standing-set, slice_get-set_same, cut-append, cut-below, cut-above, Ascends-append, Ascends-weaken, Ascends-le}
use Rattle.span_pool.proofs.OrderLemmas.{Lacks-take, Lacks-drop}

-- the region while it is packed: the spans of the slots before `i` stand together up to `end`, the others after
pub record IsPacking (slots bytes_were : List ℕ) (places_were : List Place) (bytes : List ℕ) (places : List Place) (i end : ℕ) : Type 0 where
  pub same : cut bytes (standing places slots) ≡ cut bytes_were (standing places_were slots)
  pub done : Ascends 0 (standing places (take i slots)) end
  pub to_do : Ascends end (standing places (drop i slots)) (length bytes)
  pub end_is : end ≡ live_bytes (cut bytes (standing places (take i slots)))
  pub rows : length places ≡ length places_were

-- one slot in the middle of others
record IsMid (slots : List ℕ) (places : List Place) (i : ℕ) (place : Option Place) (slot : ℕ) : Type 0 where
  whole : standing places slots ≡ standing places (take i slots) ++ cons_option (with_place slot place) (standing places (drop (i + 1) slots))
  front : standing places (take (i + 1) slots) ≡ standing places (take i slots) ++ cons_option (with_place slot place) []
  back : standing places (drop i slots) ≡ cons_option (with_place slot place) (standing places (drop (i + 1) slots))

is_mid : (slots : List ℕ) (places : List Place) (i : ℕ) → i < length slots → IsMid slots places i (slice_get places (get_or slots i 0)) (get_or slots i 0)
is_mid slots places i within = record {
  whole = ap (standing places) (sym (take-append-drop i slots)) ∙ standing-append places (take i slots) (drop i slots) ∙ ap (λ rest. standing places (take i slots) ++ standing places rest) (drop_more slots i 0 within);
  front = ap (standing places) (take_more slots i 0 within) ∙ standing-append places (take i slots) (get_or slots i 0 ∷ []);
  back = ap (standing places) (drop_more slots i 0 within);
}

pub packing_skip : (slots bytes_were : List ℕ) (places_were : List Place) (bytes : List ℕ) (places : List Place) (i end : ℕ) → i < length slots → with_place (get_or slots i 0) (slice_get places (get_or slots i 0)) ≡ None → IsPacking slots bytes_were places_were bytes places i end → IsPacking slots bytes_were places_were bytes places (i + 1) end
packing_skip slots bytes_were places_were bytes places i end within nobodys is =
    let mid : IsMid slots places i (slice_get places (get_or slots i 0)) (get_or slots i 0) = is_mid slots places i within in
    let front : standing places (take (i + 1) slots) ≡ standing places (take i slots) =
    mid.front ∙ ap (λ row. standing places (take i slots) ++ cons_option row []) nobodys ∙ append-nil (standing places (take i slots)) in
    let back : standing places (drop i slots) ≡ standing places (drop (i + 1) slots) =
    mid.back ∙ ap (λ row. cons_option row (standing places (drop (i + 1) slots))) nobodys in
    record {
      same = is.same;
      done = subst (λ stand. Ascends 0 stand end) (sym front) is.done;
      to_do = subst (λ stand. Ascends end stand (length bytes)) back is.to_do;
      end_is = is.end_is ∙ ap (λ stand. live_bytes (cut bytes stand)) (sym front);
      rows = is.rows;
    }

-- the row of the next slot, as it is read
pub packing_read : (slots bytes_were : List ℕ) (places_were : List Place) (bytes : List ℕ) (places : List Place) (i end : ℕ) (place : Place) → i < length slots → AreBelow slots (length places_were) → place ≡ get_or places (get_or slots i 0) place → IsPacking slots bytes_were places_were bytes places i end → slice_get places (get_or slots i 0) ≡ Some place
packing_read slots bytes_were places_were bytes places i end place within below read is =
    slice_get_read places (length places) (get_or slots i 0) place refl (omega (arith, below i within, is.rows)) read

-- the next live span stands after those that are packed, within the region
pub packing_next : (slots bytes_were : List ℕ) (places_were : List Place) (bytes : List ℕ) (places : List Place) (i end : ℕ) (place : Place) → i < length slots → slice_get places (get_or slots i 0) ≡ Some place → place.start ≤ place.end → IsPacking slots bytes_were places_were bytes places i end → (end ≤ place.start) × (place.end ≤ length bytes)
packing_next slots bytes_were places_were bytes places i end place within at ordered is =
    let slot : ℕ = get_or slots i 0 in
    let mid : IsMid slots places i (slice_get places slot) slot = is_mid slots places i within in
    let row : with_place slot (slice_get places slot) ≡ Some (slot, place) =
    ap (with_place slot) at ∙ ap (λ b. cond b (Some (slot, place)) None) (le-leb place.start place.end ordered) in
    let rest : List (ℕ × Place) = standing places (drop (i + 1) slots) in
    let to_do : Ascends end ((slot, place) ∷ rest) (length bytes) =
    subst (λ stand. Ascends end stand (length bytes)) (mid.back ∙ ap (λ at_it. cons_option at_it rest) row) is.to_do in
    (to_do.0, Ascends-le rest place.end (length bytes) to_do.2)

pub packing_move : (slots bytes_were : List ℕ) (places_were : List Place) (bytes now : List ℕ) (places places_now : List Place) (i end : ℕ) (place : Place) → i < length slots → slice_get places (get_or slots i 0) ≡ Some place → place.start ≤ place.end → IsMoved bytes now place end → places_now ≡ set places (get_or slots i 0) (record { start = end; end = end + (place.end - place.start) }) → AreDistinct slots → IsPacking slots bytes_were places_were bytes places i end → IsPacking slots bytes_were places_were now places_now (i + 1) (end + (place.end - place.start))
packing_move slots bytes_were places_were bytes now places places_now i end place within at ordered moved rows_now distinct is =
    let slot : ℕ = get_or slots i 0 in
    let put : Place = record { start = end; end = end + (place.end - place.start) } in
    let done : List (ℕ × Place) = standing places (take i slots) in
    let rest : List (ℕ × Place) = standing places (drop (i + 1) slots) in
    let row : with_place slot (slice_get places slot) ≡ Some (slot, place) =
    ap (with_place slot) at ∙ ap (λ b. cond b (Some (slot, place)) None) (le-leb place.start place.end ordered) in
    let row_now : with_place slot (slice_get places_now slot) ≡ Some (slot, put) =
    ap (λ list. with_place slot (slice_get list slot)) rows_now
    ∙ ap (with_place slot) (slice_get-set_same places slot put (slice_get_within places slot place at))
    ∙ ap (λ b. cond b (Some (slot, put)) None) (le-leb end (end + (place.end - place.start)) (omega arith)) in
    let done_now : standing places_now (take i slots) ≡ done =
    ap (λ list. standing list (take i slots)) rows_now ∙ standing-set (take i slots) places slot put (Lacks-take slots i distinct within) in
    let rest_now : standing places_now (drop (i + 1) slots) ≡ rest =
    ap (λ list. standing list (drop (i + 1) slots)) rows_now ∙ standing-set (drop (i + 1) slots) places slot put (Lacks-drop slots i distinct within) in
    let mid : IsMid slots places i (slice_get places slot) slot = is_mid slots places i within in
    let mid_now : IsMid slots places_now i (slice_get places_now slot) slot = is_mid slots places_now i within in
    let whole : standing places slots ≡ done ++ (slot, place) ∷ rest = mid.whole ∙ ap (λ at_it. done ++ cons_option at_it rest) row in
    let whole_now : standing places_now slots ≡ done ++ (slot, put) ∷ rest =
    mid_now.whole ∙ ap (λ at_it. standing places_now (take i slots) ++ cons_option at_it (standing places_now (drop (i + 1) slots))) row_now
    ∙ ap (λ front. front ++ (slot, put) ∷ standing places_now (drop (i + 1) slots)) done_now ∙ ap (λ back. done ++ (slot, put) ∷ back) rest_now in
    let front_now : standing places_now (take (i + 1) slots) ≡ done ++ (slot, put) ∷ [] =
    mid_now.front ∙ ap (λ at_it. standing places_now (take i slots) ++ cons_option at_it []) row_now ∙ ap (λ front. front ++ (slot, put) ∷ []) done_now in
    let to_do : Ascends end ((slot, place) ∷ rest) (length bytes) =
    subst (λ stand. Ascends end stand (length bytes)) (mid.back ∙ ap (λ at_it. cons_option at_it rest) row) is.to_do in
    let cut_done : cut now done ≡ cut bytes done = cut-below done bytes now 0 end is.done moved.below in
    let cut_rest : cut now rest ≡ cut bytes rest = cut-above rest bytes now place.end (length bytes) place.end (omega arith) to_do.2 moved.above in
    let inside : place.end ≤ length bytes = Ascends-le rest place.end (length bytes) to_do.2 in
    let span_length : length (slice_range now end (end + (place.end - place.start))) ≡ place.end - place.start =
    ap length moved.moved ∙ length-between bytes place.start place.end inside in
    record {
      same =
          ap (cut now) whole_now ∙ cut-append now done ((slot, put) ∷ rest)
          ∙ ap (λ front. front ++ (slot, slice_range now end (end + (place.end - place.start))) ∷ cut now rest) cut_done
          ∙ ap (λ span. cut bytes done ++ (slot, span) ∷ cut now rest) moved.moved
          ∙ ap (λ back. cut bytes done ++ (slot, slice_range bytes place.start place.end) ∷ back) cut_rest
          ∙ sym (cut-append bytes done ((slot, place) ∷ rest)) ∙ ap (cut bytes) (sym whole) ∙ is.same;
      done = subst (λ stand. Ascends 0 stand (end + (place.end - place.start))) (sym front_now)
          (Ascends-append done ((slot, put) ∷ []) 0 end (end + (place.end - place.start)) is.done (omega arith, omega arith, omega arith));
      to_do =
          let up : Ascends (end + (place.end - place.start)) rest (length bytes) =
          Ascends-weaken rest place.end (end + (place.end - place.start)) (length bytes) (omega (arith, to_do.0)) to_do.2 in
          let now_up : Ascends (end + (place.end - place.start)) rest (length now) = subst (Ascends (end + (place.end - place.start)) rest) (sym moved.as_long) up in
          subst (λ stand. Ascends (end + (place.end - place.start)) stand (length now)) (sym rest_now) now_up;
      end_is =
          let whole_length : live_bytes (cut now (done ++ (slot, put) ∷ [])) ≡ live_bytes (cut now done) + live_bytes (cut now ((slot, put) ∷ [])) =
          ap live_bytes (cut-append now done ((slot, put) ∷ [])) ∙ live_bytes-append (cut now done) (cut now ((slot, put) ∷ [])) in
          let last : live_bytes (cut now ((slot, put) ∷ [])) ≡ place.end - place.start = zero-add (length (slice_range now end (end + (place.end - place.start)))) ∙ span_length in
          let first : live_bytes (cut now done) ≡ end = ap live_bytes cut_done ∙ sym is.end_is in
          sym (ap (λ stand. live_bytes (cut now stand)) front_now ∙ whole_length ∙ ap (λ n. n + live_bytes (cut now ((slot, put) ∷ []))) first ∙ ap (λ n. end + n) last);
      rows = ap length rows_now ∙ length-set places slot put ∙ is.rows;
    }

-- when all are packed and the rest is cut off
pub packing_all : (slots bytes_were : List ℕ) (places_were : List Place) (bytes : List ℕ) (places : List Place) (i end : ℕ) → length slots ≤ i → IsPacking slots bytes_were places_were bytes places i end →
    (cut (take end bytes) (standing places slots) ≡ cut bytes_were (standing places_were slots))
    × Ascends 0 (standing places slots) (length (take end bytes))
    × (length (take end bytes) ≡ live_bytes (cut bytes_were (standing places_were slots)))
packing_all slots bytes_were places_were bytes places i end all is =
    let whole : take i slots ≡ slots = take_all i slots (omega arith) in
    let none : drop i slots ≡ [] = drop_all i slots (omega arith) in
    let inside : end ≤ length bytes = subst (λ rest. Ascends end (standing places rest) (length bytes)) none is.to_do in
    let as_long : length (take end bytes) ≡ end = length-take-le end bytes inside in
    let done : Ascends 0 (standing places slots) end = subst (λ front. Ascends 0 (standing places front) end) whole is.done in (
      cut-below (standing places slots) bytes (take end bytes) 0 end done (take-take end end bytes (omega arith)) ∙ is.same,
      subst (Ascends 0 (standing places slots)) (sym as_long) done,
      as_long ∙ is.end_is ∙ ap (λ front. live_bytes (cut bytes (standing places front))) whole ∙ ap live_bytes is.same,
    )
