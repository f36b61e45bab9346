-- Entries that are gathered in two runs of rows, and what an index will be with them.
use Rattle.std.proofs.Common.{◌≡◌, ◌∙◌, ◌++◌, ◌∷◌, [], ◌+◌, ◌-◌, ◌≤◌, ℕ, Bool, true, false, List, cond, length, take, drop, Option, Some, None, IsSome, option_map, sym, ap, refl, subst, arith, append_assoc, length-append}
use Rattle.std.proofs.lemmas.Bool.{le-ltb, lt-ltb}
use Rattle.std.proofs.lemmas.List.{length-map, take-append-drop}
use Rattle.std.proofs.lemmas.List.Sums.{sum_by-append}
use Rattle.std.specs.Prelude.{is_some, nat_lt}
use Rattle.std.specs.Cmp.{IsTotalOrder}
use Rattle.std.specs.List.{AllByRecursion}
use Rattle.std.specs.Option.{option_or}
use Rattle.std.specs.declared.cmp.Ordering.{Ordering}
use Rattle.span_pool.specs.Spans.{Spans, bytes_of, live_bytes}
use Rattle.feed_index.specs.declared.entry.Entry.{Entry}
use Rattle.feed_index.specs.declared.row.Row.{Row}
use Rattle.feed_index.specs.Entries.{Rising, dead_with, most_dead, put, put_all, settled, total, value_at}
use Rattle.feed_index.specs.Rows.{AreHeld, entries_of, entry_of}
use Rattle.feed_index.specs.Staged.{AreGathered, AreStaged, Takes, gathered}
use Rattle.feed_index.proofs.AllLemmas.{all_one, found, found_all, length-all, length-one, sum-all}
use Rattle.feed_index.proofs.HeldLemmas.{own_is_live}
use Rattle.feed_index.proofs.RisingLemmas.{rising_all}

module _ {K R : Type 0} where
  -- the span of each row is live
  pub all_live : (before rows : List (Row K R)) (spans : List (ℕ × List ℕ)) → AreHeld (before ++ rows) spans → AllByRecursion (λ (row : Row K R). IsSome (bytes_of spans row.slot)) rows
  all_live before [] spans h = tt
  all_live before (row ∷ rows) spans h =
      let P : List (Row K R) → Type 0 = λ all. AreHeld all spans in
      (own_is_live before row rows spans h, all_live (before ++ row ∷ []) rows spans (subst P (sym (append_assoc before (row ∷ []) rows)) h))

module _ {K R : Type 0} {cmp : K → K → Ordering} (o : IsTotalOrder cmp) where
  pub length_gathered : (rows : List (Row K R)) (pool : Spans) (front : ℕ) → AreGathered cmp rows pool front → length (gathered cmp rows pool.spans front) ≡ length rows
  length_gathered rows pool front h =
      let entries = entries_of pool.spans rows in
      length-all (λ (one : Entry K R). one.key) o (take front entries) (drop front entries) h.staged
      ∙ sym (length-append (take front entries) (drop front entries))
      ∙ ap length (take-append-drop front entries)
      ∙ length-map rows (entry_of pool.spans)

  pub total_gathered : (rows : List (Row K R)) (pool : Spans) (front : ℕ) → AreGathered cmp rows pool front → total (gathered cmp rows pool.spans front) ≡ total (entries_of pool.spans rows)
  total_gathered rows pool front h =
      let entries = entries_of pool.spans rows in
      sum-all (λ (one : Entry K R). one.key) o (λ one. length one.bytes) (take front entries) (drop front entries) h.staged
      ∙ sym (sum_by-append (λ (one : Entry K R). length one.bytes) (take front entries) (drop front entries))
      ∙ ap total (take-append-drop front entries)

  live_gathered : (rows : List (Row K R)) (pool : Spans) (front : ℕ) → AreGathered cmp rows pool front → live_bytes pool.spans ≡ total (gathered cmp rows pool.spans front)
  live_gathered rows pool front h = h.held.total_is ∙ sym (total_gathered rows pool front h)

  -- the dead bytes after one more item came and the region was packed where these were too many
  pub dead_taken : (rows given now : List (Row K R)) (pool start after done : Spans) (front next : ℕ) (item : Entry K R) → AreGathered cmp rows pool front → start.spans ≡ pool.spans → start.dead ≡ pool.dead → Takes cmp given start front item now after next
      → done.spans ≡ after.spans → done.dead ≡ settled (live_bytes after.spans) after.dead → done.dead ≤ most_dead (live_bytes done.spans)
      → (done.dead ≡ dead_with pool.dead (gathered cmp rows pool.spans front) (length item.bytes) (gathered cmp now done.spans next)) × (done.dead ≤ most_dead (total (gathered cmp now done.spans next)))
  dead_taken rows given now pool start after done front next item before begins begins_dead takes same dead bounded =
      let gathers : AreGathered cmp now done next = record {
        held = subst (λ (s : List (ℕ × List ℕ)). AreHeld now s) (sym same) takes.held;
        staged = subst (λ (s : List (ℕ × List ℕ)). AreStaged (λ (one : Entry K R). one.key) cmp (take next (entries_of s now)) (drop next (entries_of s now))) (sym same) takes.stages.staged;
        within = takes.within;
        bounded = bounded;
      } in
      let live_now : live_bytes done.spans ≡ total (gathered cmp now done.spans next) = live_gathered now done next gathers in
      let live_old : live_bytes start.spans ≡ total (gathered cmp rows pool.spans front) = ap live_bytes begins ∙ live_gathered rows pool front before in
      let live_after : live_bytes after.spans ≡ total (gathered cmp now done.spans next) = ap live_bytes (sym same) ∙ live_now in
      let grew : after.dead ≡ pool.dead + (total (gathered cmp rows pool.spans front) + length item.bytes - total (gathered cmp now done.spans next)) =
      omega (arith, begins_dead, takes.dead.never_falls, takes.dead.sums, live_old, live_after) in (
        dead ∙ ap (λ n. settled n after.dead) live_after ∙ ap (settled (total (gathered cmp now done.spans next))) grew,
        subst (λ n. done.dead ≤ most_dead n) live_now bounded,
      )

  map_or : (a b : Option (Entry K R)) → option_map (λ (one : Entry K R). one.value) (option_or a b) ≡ option_or (option_map (λ (one : Entry K R). one.value) a) (option_map (λ (one : Entry K R). one.value) b)
  map_or None b = refl
  map_or (Some one) b = refl

  -- the value that a key has after several were put
  pub value_after : (entries items : List (Entry K R)) (key : K) → Rising cmp items → value_at cmp (put_all cmp entries items) key ≡ option_or (value_at cmp items key) (value_at cmp entries key)
  value_after entries items key h =
      ap (option_map (λ (one : Entry K R). one.value)) (found_all (λ (one : Entry K R). one.key) o key entries items h)
      ∙ map_or (found (λ (one : Entry K R). one.key) o key items) (found (λ (one : Entry K R). one.key) o key entries)

  some_value : (it : Option (Entry K R)) → is_some (option_map (λ (one : Entry K R). one.value) it) ≡ is_some it
  some_value None = refl
  some_value (Some one) = refl

  -- how many entries there are with one more
  pub length_put : (entries : List (Entry K R)) (one : Entry K R) (key : K) (value : Option R) → Rising cmp entries → one.key ≡ key → value ≡ value_at cmp entries key → length (put cmp entries one) ≡ length entries + cond (is_some value) 0 1
  length_put entries one key value h same is =
      length-one (λ (each : Entry K R). each.key) o entries one h
      ∙ rw (is, ← same) (ap (λ b. length entries + cond b 0 1) (sym (some_value (found (λ (each : Entry K R). each.key) o one.key entries))))

  -- how many entries there will be with one more among several: one more where no other of its key stays, and it is
  -- one more of the several
  pub length_with : (kept items : List (Entry K R)) (one : Entry K R) (stays grew : Bool) → Rising cmp kept → Rising cmp items → stays ≡ is_some (value_at cmp kept one.key) → grew ≡ nat_lt (length items) (length (put cmp items one)) →
      length (put_all cmp kept (put cmp items one)) ≡ cond stays (length (put_all cmp kept items)) (cond grew (length (put_all cmp kept items) + 1) (length (put_all cmp kept items)))
  length_with kept items one stays grew kept_rises rises stays_is grew_is =
      let after = put_all cmp kept items in
      let among : length (put cmp items one) ≡ length items + cond (is_some (value_at cmp items one.key)) 0 1 = length_put items one one.key (value_at cmp items one.key) rises refl refl in
      let whole : length (put cmp after one) ≡ length after + cond (is_some (value_at cmp after one.key)) 0 1 =
      length_put after one one.key (value_at cmp after one.key) (rising_all (λ (each : Entry K R). each.key) o kept items kept_rises) refl refl in
      ap length (all_one (λ (each : Entry K R). each.key) o kept items one rises)
      ∙ whole
      ∙ ap (λ (it : Option R). length after + cond (is_some it) 0 1) (value_after kept items one.key rises)
      ∙ by (value_at cmp items one.key) (value_at cmp kept one.key) stays grew (length items) (length (put cmp items one)) (length after) among stays_is grew_is
    where
      by : (a b : Option R) (s g : Bool) (m n l : ℕ) → n ≡ m + cond (is_some a) 0 1 → s ≡ is_some b → g ≡ nat_lt m n →
          l + cond (is_some (option_or a b)) 0 1 ≡ cond s l (cond g (l + 1) l)
      by (Some x) (Some y) s g m n l h is more = rw is (omega arith)
      by None (Some y) s g m n l h is more = rw is (omega arith)
      by (Some x) None s g m n l h is more =
          let same : g ≡ false = more ∙ le-ltb m n (omega (arith, h)) in
          rw (is, same) (omega arith)
      by None None s g m n l h is more =
          let grew : g ≡ true = more ∙ lt-ltb m n (omega (arith, h)) in
          rw (is, grew) (omega arith)
