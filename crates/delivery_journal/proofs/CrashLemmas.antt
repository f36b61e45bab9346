-- The calls of a disk in memory gone through again, and the files that a crash leaves.
use Rattle.std.proofs.Common.{get_or, ◌≡◌, inr, ℕ, ◌+◌, ◌/◌, ◌%◌, ◌≤◌, ◌<◌, Bool, true, false, nat_le, List, [], ◌∷◌, ◌++◌, length, take, drop, map, replicate, Result, Ok, Err, refl, sym, ◌∙◌, ap, subst, arith, length-take, length-drop, take-append-drop}
use Rattle.std.specs.Prelude.{◌==◌, if◌then◌else◌, IfOk}
use Rattle.std.specs.List.{fold}
use Rattle.std.proofs.lemmas.Bool.Decides.{nat_tests}
use Rattle.std.proofs.lemmas.List.{length-replicate, map_push, drop_more, drop_all}
use Rattle.delivery_journal.specs.declared.call.Op.{Op}
use Rattle.delivery_journal.specs.declared.call.Op.TheVariants.{Len, Read, Write, Sync}
use Rattle.delivery_journal.specs.declared.call.Call.{Call}
use Rattle.delivery_journal.specs.Disk.{Torn, with_bytes_at}
use Rattle.delivery_journal.specs.DiskInMemory.{Done, Content, bytes_put, content_by, next_content, content_after, done_calls, total_count, written_count, IsTornBy, IsImage}
use Rattle.delivery_journal.specs.CrashImages.{calls_of, bytes_of, unsynced_by, next_unsynced, unsynced, torn_bytes, torn_by, crash_image, image_count}
use Rattle.delivery_journal.specs.CrashSteps.{Crash, crash_by, next_crash}
use Rattle.delivery_journal.proofs.WriteLemmas.{torn_part, torn_same}

-- ---- the record

pub calls_are : (calls : List Call) (bytes : List ℕ) → calls_of (done_calls calls bytes) ≡ calls
calls_are [] bytes = refl
calls_are (call ∷ calls) bytes = ap (λ (l : List Call). call ∷ l) (calls_are calls (drop (written_count call) bytes))

pub bytes_are : (calls : List Call) (bytes : List ℕ) → total_count calls ≡ length bytes → bytes_of (done_calls calls bytes) ≡ bytes
bytes_are [] [] total = refl
bytes_are [] (b ∷ bytes) total = absurd (omega arith)
bytes_are (call ∷ calls) bytes total =
    let n = written_count call in
    ap (λ (l : List ℕ). take n bytes ++ l) (bytes_are calls (drop n bytes) (omega (arith, total, length-drop n bytes)))
    ∙ take-append-drop n bytes

-- ---- torn writes

abbrev pub range_of : Done → ℕ × ℕ
range_of done = (done.call.at, length done.bytes)

torn_few : (way fill : ℕ) (bytes : List ℕ) → length (torn_bytes way fill bytes) ≤ length bytes
torn_few way fill bytes = by (way == 0) (way == 1) (way == 2) (way == 3)
  where
    by : (a b c d : Bool) → length (if a then [] else if b then bytes else if c then take (length bytes / 2) bytes else if d then replicate (length bytes) fill else replicate (length bytes / 2) fill) ≤ length bytes
    by true b c d = omega arith
    by false true c d = omega arith
    by false false true d = omega (arith, length-take (length bytes / 2) bytes)
    by false false false true = omega (arith, length-replicate (length bytes) fill)
    by false false false false = omega (arith, length-replicate (length bytes / 2) fill)

torn_step : (way fill : ℕ) (done : Done) (file : List ℕ) → Torn done.call.at (length done.bytes) file (torn_by way fill done file)
torn_step way fill done file = by (nat_le done.call.at (length file)) refl
  where
    by : (b : Bool) → nat_le done.call.at (length file) ≡ b
        → Torn done.call.at (length done.bytes) file (if b then with_bytes_at file done.call.at (torn_bytes way fill done.bytes) else file)
    by true le =
        let inside : done.call.at ≤ length file = grind (arith, nat_tests, le) in
        torn_part file done.call.at inside (length done.bytes) (torn_bytes way fill done.bytes) (torn_few way fill done.bytes)
    by false past = torn_same done.call.at (length done.bytes) file

pub torn_image : (number fill : ℕ) (writes : List Done) (file : List ℕ) → IsTornBy file (map range_of writes) (crash_image number fill writes file)
torn_image number fill [] file = refl
torn_image number fill (done ∷ writes) file =
    (torn_by (number % 5) fill done file, torn_step (number % 5) fill done file, torn_image (number / 5) fill writes (torn_by (number % 5) fill done file))

-- ---- the digits that are left

abbrev digits_left : ℕ → List Done → ℕ
digits_left number [] = number
digits_left number (done ∷ writes) = digits_left (number / 5) writes

digits_push : (number : ℕ) (writes : List Done) (done : Done) → digits_left number (writes ++ done ∷ []) ≡ digits_left number writes / 5
digits_push number [] done = refl
digits_push number (first ∷ writes) done = digits_push (number / 5) writes done

image_push : (number fill : ℕ) (writes : List Done) (done : Done) (file : List ℕ)
    → crash_image number fill (writes ++ done ∷ []) file ≡ torn_by (digits_left number writes % 5) fill done (crash_image number fill writes file)
image_push number fill [] done file = refl
image_push number fill (first ∷ writes) done file = image_push (number / 5) fill writes done (torn_by (number % 5) fill first file)

-- ---- the calls gone through

record Goes (number fill : ℕ) (content : Content) (writes : List Done) (crash : Crash) : Type 0 where
  ranges : content.ranges ≡ map range_of writes
  file : crash.file ≡ content.file
  image : crash.image ≡ crash_image number fill writes content.on_disk
  left : crash.left ≡ digits_left number writes

goes_write : (number fill : ℕ) (content : Content) (writes : List Done) (crash : Crash) (done : Done) → Goes number fill content writes crash
    → Goes number fill (content_by Write done content) (unsynced_by Write done writes) (crash_by number fill Write done crash)
goes_write number fill content writes crash done goes = record {
  ranges = ap (λ (l : List (ℕ × ℕ)). l ++ range_of done ∷ []) goes.ranges ∙ sym (map_push range_of writes done);
  file = λ i. with_bytes_at (goes.file i) done.call.at (bytes_put done.call.went done.bytes);
  image = (λ i. torn_by (goes.left i % 5) fill done (goes.image i)) ∙ sym (image_push number fill writes done content.on_disk);
  left = ap (λ (n : ℕ). n / 5) goes.left ∙ sym (digits_push number writes done);
}

goes_sync : (number fill : ℕ) (content : Content) (writes : List Done) (crash : Crash) (went : Bool) → Goes number fill content writes crash
    → Goes number fill (if went then record { file = content.file; on_disk = content.file; ranges = [] } else content)
    (if went then [] else writes) (if went then record { file = crash.file; image = crash.file; left = number } else crash)
goes_sync number fill content writes crash true goes = record { ranges = refl; file = goes.file; image = goes.file; left = refl }
goes_sync number fill content writes crash false goes = goes

goes_by : (number fill : ℕ) (content : Content) (writes : List Done) (crash : Crash) (op : Op) (done : Done) → Goes number fill content writes crash
    → Goes number fill (content_by op done content) (unsynced_by op done writes) (crash_by number fill op done crash)
goes_by number fill content writes crash Len done goes = goes
goes_by number fill content writes crash Read done goes = goes
goes_by number fill content writes crash Write done goes = goes_write number fill content writes crash done goes
goes_by number fill content writes crash Sync done goes = goes_sync number fill content writes crash done.call.went goes

goes_all : (number fill : ℕ) (dones : List Done) (content : Content) (writes : List Done) (crash : Crash) → Goes number fill content writes crash
    → Goes number fill (fold next_content content dones) (fold next_unsynced writes dones) (fold (next_crash number fill) crash dones)
goes_all number fill [] content writes crash goes = goes
goes_all number fill (done ∷ dones) content writes crash goes =
    goes_all number fill dones (next_content content done) (next_unsynced writes done) (next_crash number fill crash done)
    (goes_by number fill content writes crash done.call.op done goes)

module _ (number fill : ℕ) (start : List ℕ) (dones : List Done) where
  goes : Goes number fill (content_after start dones) (unsynced dones) (fold (next_crash number fill) (record { file = start; image = start; left = number }) dones)
  goes = goes_all number fill dones (record { file = start; on_disk = start; ranges = [] }) [] (record { file = start; image = start; left = number })
      (record { ranges = refl; file = refl; image = refl; left = refl })

  -- what is kept at the end is the image with that number
  pub image_is : (fold (next_crash number fill) (record { file = start; image = start; left = number }) dones).image
      ≡ crash_image number fill (unsynced dones) (content_after start dones).on_disk
  image_is = goes.image

  -- and a crash may leave it
  pub image_left : IsImage (content_after start dones) (crash_image number fill (unsynced dones) (content_after start dones).on_disk)
  image_left = inr (subst (λ (ranges : List (ℕ × ℕ)). IsTornBy (content_after start dones).on_disk ranges (crash_image number fill (unsynced dones) (content_after start dones).on_disk))
      (sym goes.ranges) (torn_image number fill (unsynced dones) (content_after start dones).on_disk))

-- the same of an answer
pub image_answer : {E : Type 0} (number fill : ℕ) (start given : List ℕ) (dones : List Done) (answer : Result (List ℕ) E) → given ≡ start
    → IfOk answer (λ image. image ≡ (fold (next_crash number fill) (record { file = given; image = given; left = number }) dones).image)
    → IfOk answer (λ image. image ≡ crash_image number fill (unsynced dones) (content_after start dones).on_disk)
image_answer number fill start given dones (Ok image) same is =
    is ∙ (λ i. (fold (next_crash number fill) (record { file = same i; image = same i; left = number }) dones).image) ∙ image_is number fill start dones
image_answer number fill start given dones (Err fault) same is = tt

pub image_may : {E : Type 0} (number fill : ℕ) (start : List ℕ) (dones : List Done) (answer : Result (List ℕ) E)
    → IfOk answer (λ image. image ≡ crash_image number fill (unsynced dones) (content_after start dones).on_disk)
    → IfOk answer (λ image. IsImage (content_after start dones) image)
image_may number fill start dones (Ok image) is = subst (λ (l : List ℕ). IsImage (content_after start dones) l) (sym is) (image_left number fill start dones)
image_may number fill start dones (Err fault) is = tt

-- ---- the loop that counts

-- a count is that of the writes so far, and the calls from number i on are left
abbrev pub IsCounted : List Call → ℕ → ℕ → Type 0
IsCounted calls i count = (bytes : List ℕ) → (writes : List Done) × (rest : List ℕ) × (count ≡ image_count writes)
    × (unsynced (done_calls calls bytes) ≡ fold next_unsynced writes (done_calls (drop i calls) rest))

pub count_first : (calls : List Call) → IsCounted calls 0 1
count_first calls bytes = ([], bytes, refl, refl)

pub count_more : (calls : List Call) (i : ℕ) (d : Call) → i < length calls → (count more : ℕ)
    → ((writes : List Done) (bytes : List ℕ) → count ≡ image_count writes
    → more ≡ image_count (next_unsynced writes (record { call = get_or calls i d; bytes = bytes })))
    → IsCounted calls i count → IsCounted calls (i + 1) more
count_more calls i d within count more next counted bytes =
    let so_far = counted bytes in
    let call = get_or calls i d in
    let n = written_count call in (
      next_unsynced so_far.0 (record { call = call; bytes = take n so_far.1 }),
      drop n so_far.1,
      next so_far.0 (take n so_far.1) so_far.2,
      so_far.3 ∙ ap (λ (l : List Call). fold next_unsynced so_far.0 (done_calls l so_far.1)) (drop_more calls i d within),
    )

pub count_last : (calls : List Call) (i count : ℕ) → length calls ≤ i → IsCounted calls i count → (bytes : List ℕ) → count ≡ image_count (unsynced (done_calls calls bytes))
count_last calls i count past counted bytes =
    let so_far = counted bytes in
    let all : unsynced (done_calls calls bytes) ≡ so_far.0 =
    so_far.3 ∙ ap (λ (l : List Call). fold next_unsynced so_far.0 (done_calls l so_far.1)) (drop_all i calls past) in
    so_far.2 ∙ sym (ap image_count all)
