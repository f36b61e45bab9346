-- Several calls, one after the other on one disk.
use Rattle.std.proofs.Common.{◌≡◌, ⊎_elim, ℕ, ◌+◌, ◌≤◌, List, [], ◌∷◌, ◌++◌, length, take, Option, Some, Result, Ok, Err, refl, sym, ◌∙◌, ap, subst, arith, length-append}
use Rattle.std.proofs.lemmas.List.{append-nil, append_assoc, take-append-le, take_all}
use Rattle.std.proofs.lemmas.Option.{same_Some}
use Rattle.std.specs.Prelude.{option_map}
use Rattle.std.specs.Result.{result_ok}
use Rattle.delivery_journal.specs.Disk.{Survives, WhereTold}
use Rattle.delivery_journal.specs.Kept.{KeptBody, kept}
use Rattle.delivery_journal.specs.Standing.{appended_file}
use Rattle.gateway_core.specs.Arrivals.{Arrival}
use Rattle.gateway_core.specs.declared.accepted.Accepted.{Accepted}
use Rattle.gateway_core.specs.declared.setting.Setting.{Setting}
use Rattle.gateway_core.specs.declared.take.kept.KeptFault.{KeptFault}
use Rattle.gateway_core.specs.declared.take.kept.KeptFault.TheVariants.{Differential, Feed, Full, Memory, NotDelivery, NotJson, TooManyCalls, Unkept}
use Rattle.gateway_durable.specs.Reopening.{CanReplay}
use Rattle.gateway_durable.specs.Replays.{Replays}
use Rattle.gateway_durable.specs.Runs.{HasKept, HoldsPrefix, LeavesPrefix, failed_of, taken_of}
use Rattle.gateway_durable.specs.Standing.{DurableGate, DurableStandsOn, IsDurable}
use Rattle.gateway_durable.specs.Taking.{HoldsTaken, TakesDurably}
use Rattle.gateway_durable.proofs.DiskLemmas.{survives_none, survives_then}
use Rattle.gateway_durable.proofs.FoundLemmas.{found_kept}
use Rattle.gateway_durable.proofs.ReplayLemmas.{replays_joined}

same_ok : {A E : Type 0} (a b : A) → ◌≡◌ {A = Result A E} (Ok a) (Ok b) → a ≡ b
same_ok a b e = same_Some a b (ap result_ok e)

-- ---- files that hold a prefix

module _ (setting : Setting) (bodies added : List KeptBody) (new : KeptBody) (image : List ℕ) where
  -- of so many it is a prefix of one more
  longer : HoldsPrefix setting bodies added image → HoldsPrefix setting bodies (added ++ new ∷ []) image
  longer holds =
      let same : take holds.0 added ≡ take holds.0 (added ++ new ∷ []) = sym (take-append-le holds.0 added (new ∷ []) holds.1) in (
        holds.0,
        omega (arith, holds.1, length-append added (new ∷ [])),
        holds.2 ∙ ap (λ (l : List KeptBody). Ok (bodies ++ l)) same,
        subst (λ (l : List KeptBody). CanReplay setting (bodies ++ l)) same holds.3,
      )

  -- all but the new one
  without : kept image ≡ Ok (bodies ++ added) → CanReplay setting (bodies ++ added) → HoldsPrefix setting bodies (added ++ new ∷ []) image
  without held can =
      let same : added ≡ take (length added) added = sym (take_all (length added) added (omega arith)) in
      longer (
        length added,
        omega arith,
        held ∙ ap (λ (l : List KeptBody). Ok (bodies ++ l)) same,
        subst (λ (l : List KeptBody). CanReplay setting (bodies ++ l)) same can,
      )

  -- all
  with_it : kept image ≡ Ok (bodies ++ added ++ new ∷ []) → CanReplay setting (bodies ++ added ++ new ∷ [])
      → HoldsPrefix setting bodies (added ++ new ∷ []) image
  with_it held can =
      let all = length (added ++ new ∷ []) in
      let same : bodies ++ added ++ new ∷ [] ≡ bodies ++ take (length (added ++ new ∷ [])) (added ++ new ∷ []) =
      append_assoc bodies added (new ∷ []) ∙ ap (λ (l : List KeptBody). bodies ++ l) (sym (take_all (length (added ++ new ∷ [])) (added ++ new ∷ []) (omega arith))) in (
        length (added ++ new ∷ []),
        omega arith,
        held ∙ ap Ok same,
        subst (λ (l : List KeptBody). CanReplay setting l) same can,
      )

  -- what a crash leaves of a call that came behind these
  taken_prefix : (arrivals : List Arrival) → Replays setting [] (bodies ++ added) arrivals
      → HoldsTaken setting arrivals (bodies ++ added) new image → HoldsPrefix setting bodies (added ++ new ∷ []) image
  taken_prefix arrivals replays holds =
      ⊎_elim (λ held. without held (arrivals, replays))
      (λ both. with_it both.0 (
        record { moment = new.moment; gives = both.1.1 } ∷ arrivals,
        replays_joined setting [] (bodies ++ added) (new ∷ []) arrivals (record { moment = new.moment; gives = both.1.1 } ∷ arrivals) replays
            (both.1.0, both.1.1, both.1.2, refl),
      ))
      holds

  -- after these, all that were there before are there, with the new one or without it
  with_or_without : (arrivals : List Arrival) → Replays setting [] bodies arrivals → HoldsTaken setting arrivals bodies new image
      → HoldsPrefix setting bodies (new ∷ []) image
  with_or_without arrivals replays holds =
      ⊎_elim (λ held. (
        0,
        omega arith,
        held ∙ ap Ok (sym (append-nil bodies)),
        subst (λ (l : List KeptBody). CanReplay setting l) (sym (append-nil bodies)) (arrivals, replays),
      ))
      (λ both. (
        1,
        omega arith,
        both.0,
        (
          record { moment = new.moment; gives = both.1.1 } ∷ arrivals,
          replays_joined setting [] bodies (new ∷ []) arrivals (record { moment = new.moment; gives = both.1.1 } ∷ arrivals) replays
              (both.1.0, both.1.1, both.1.2, refl),
        ),
      ))
      holds

-- ---- calls

module _ {D : Type 0} (told : D → Option (List ℕ)) (may_leave : D → List ℕ → Type 0) (clock : D → ℕ) (left_since : D → ℕ → List ℕ → Type 0) where
  -- the bodies that a durable gateway stands for are those that the file holds
  replays_held : (disk : D) (durable : DurableGate) (file : List ℕ) (bodies : List KeptBody) (is : IsDurable (may_leave disk) durable file) → kept file ≡ Ok bodies
      → Replays durable.gate.setting [] bodies is.arrivals
  replays_held disk durable file bodies is held =
      subst (λ (b : List KeptBody). Replays durable.gate.setting [] b is.arrivals)
      (same_ok is.bodies bodies (sym (found_kept file (record { bodies = is.bodies; end = durable.journal.end }) is.holds) ∙ held)) is.replays

  -- where a durable gateway stands on the disk every crash leaves all bodies
  at_rest : (disk : D) (durable : DurableGate) (file : List ℕ) (bodies : List KeptBody) → IsDurable (may_leave disk) durable file
      → kept file ≡ Ok bodies → (image : List ℕ) → may_leave disk image → HoldsPrefix durable.gate.setting bodies [] image
  at_rest disk durable file bodies one held image left = (
    0,
    omega arith,
    ap kept (one.on_disk image left) ∙ held ∙ ap Ok (sym (append-nil bodies)),
    subst (λ (b : List KeptBody). CanReplay durable.gate.setting b) (sym (append-nil bodies)) (one.arrivals, replays_held disk durable file bodies one held),
  )

  begins_prefix : ((disk : D) (image : List ℕ) → left_since disk (clock disk) image → may_leave disk image)
      → (disk : D) (durable : DurableGate) (file : List ℕ) (bodies : List KeptBody) → IsDurable (may_leave disk) durable file
      → kept file ≡ Ok bodies → LeavesPrefix clock left_since disk disk durable.gate.setting bodies []
  begins_prefix only_now disk durable file bodies one held =
      survives_none told may_leave clock left_since only_now disk (HoldsPrefix durable.gate.setting bodies [])
      (λ image left. at_rest disk durable file bodies one held image left)

  pub run_begins : ((disk : D) (image : List ℕ) → left_since disk (clock disk) image → may_leave disk image)
      → (disk : D) (durable : DurableGate) (file : List ℕ) (bodies : List KeptBody) → DurableStandsOn told may_leave durable disk → told disk ≡ Some file
      → kept file ≡ Ok bodies → HasKept told may_leave clock left_since disk disk durable.gate.setting bodies [] []
  run_begins only_now disk durable file bodies stands is held = record {
    any_moment = begins_prefix only_now disk durable file bodies (stands file is) held;
    from_now = λ image left.
        subst (λ (b : List KeptBody). HoldsPrefix durable.gate.setting b [] image) (sym (append-nil bodies))
        (at_rest disk durable file bodies (stands file is) held image left);
    file = λ none. (file, is, held ∙ ap Ok (sym (append-nil bodies)));
  }

  goes_on_prefix : (faults : D → ℕ) (first before after : D) (old now : DurableGate) (new : KeptBody) (answer : Result Accepted KeptFault) (file : List ℕ)
      (bodies added : List KeptBody) → DurableStandsOn told may_leave old before → told before ≡ Some file → kept file ≡ Ok (bodies ++ added)
      → LeavesPrefix clock left_since first before old.gate.setting bodies added
      → TakesDurably told may_leave clock left_since faults old before new answer now after
      → LeavesPrefix clock left_since first after old.gate.setting bodies (added ++ new ∷ [])
  goes_on_prefix faults first before after old now new answer file bodies added stands is held so_far takes =
      let one = stands file is in
      survives_then told may_leave clock left_since first before after (HoldsPrefix old.gate.setting bodies added)
      (HoldsTaken old.gate.setting one.arrivals (bodies ++ added) new) (HoldsPrefix old.gate.setting bodies (added ++ new ∷ []))
      so_far (takes.any_moment file is (bodies ++ added) held one.arrivals one.stands)
      (λ image. longer old.gate.setting bodies added new image)
      (λ image. taken_prefix old.gate.setting bodies added new image one.arrivals (replays_held before old file (bodies ++ added) one held))

  -- after an answer without which nothing was done all is as before
  goes_on_same : (first before after : D) (setting : Setting) (bodies taken : List KeptBody)
      → HasKept told may_leave clock left_since first before setting bodies taken [] → after ≡ before
      → HasKept told may_leave clock left_since first after setting bodies (taken ++ []) []
  goes_on_same first before after setting bodies taken so_far same =
      subst (λ (d : D). HasKept told may_leave clock left_since first d setting bodies (taken ++ []) []) (sym same)
      (subst (λ (t : List KeptBody). HasKept told may_leave clock left_since first before setting bodies t []) (sym (append-nil taken)) so_far)

  module _ (now_counts : (disk : D) (since : ℕ) (image : List ℕ) → since ≤ clock disk → may_leave disk image → left_since disk since image)
      (faults : D → ℕ) (first before after : D) (old now : DurableGate) (new : KeptBody) (bodies taken : List KeptBody)
      (stands : DurableStandsOn told may_leave old before)
      (so_far : HasKept told may_leave clock left_since first before old.gate.setting bodies taken []) where
    -- what the file held
    held_before : (file : List ℕ) × (told before ≡ Some file) × (kept file ≡ Ok (bodies ++ taken))
    held_before = so_far.file refl

    prefix_before : LeavesPrefix clock left_since first before old.gate.setting bodies taken
    prefix_before =
        subst (λ (added : List KeptBody). LeavesPrefix clock left_since first before old.gate.setting bodies added) (append-nil taken) so_far.any_moment

    on_ok : (accepted : Accepted) → TakesDurably told may_leave clock left_since faults old before new (Ok accepted) now after
        → HasKept told may_leave clock left_since first after old.gate.setting bodies (taken ++ new ∷ []) []
    on_ok accepted takes =
        let was = held_before in
        let is : told after ≡ Some (appended_file old.journal.end new was.0) = takes.bytes ∙ ap (option_map (appended_file old.journal.end new)) was.1 in
        let at_first : WhereTold (told before) (λ f. kept f ≡ Ok (bodies ++ taken)) =
        λ f t. ap kept (same_Some f was.0 (sym t ∙ was.1)) ∙ was.2 in
        let held : kept (appended_file old.journal.end new was.0) ≡ Ok ((bodies ++ taken) ++ new ∷ []) =
        takes.added (bodies ++ taken) at_first (appended_file old.journal.end new was.0) is in
        let one : IsDurable (may_leave after) now (appended_file old.journal.end new was.0) = takes.stands (λ e. cc) (appended_file old.journal.end new was.0) is in
        let all : kept (appended_file old.journal.end new was.0) ≡ Ok (bodies ++ (taken ++ new ∷ [])) = held ∙ ap Ok (append_assoc bodies taken (new ∷ [])) in record {
          any_moment =
              subst (λ (added : List KeptBody). LeavesPrefix clock left_since first after old.gate.setting bodies added) (sym (append-nil (taken ++ new ∷ [])))
              (goes_on_prefix faults first before after old now new (Ok accepted) was.0 bodies taken stands was.1 was.2 prefix_before takes);
          from_now = λ image left.
              subst (λ (s : Setting). HoldsPrefix s (bodies ++ (taken ++ new ∷ [])) [] image) takes.setting_is
              (at_rest after now (appended_file old.journal.end new was.0) (bodies ++ (taken ++ new ∷ [])) one all image left);
          file = λ none. (appended_file old.journal.end new was.0, is, all);
        }

    on_unkept : TakesDurably told may_leave clock left_since faults old before new (Err Unkept) now after
        → HasKept told may_leave clock left_since first after old.gate.setting bodies (taken ++ []) (new ∷ [])
    on_unkept takes =
        let was = held_before in
        let one : IsDurable (may_leave before) old was.0 = stands was.0 was.1 in
        let meanwhile : Survives clock left_since before after (HoldsTaken old.gate.setting one.arrivals (bodies ++ taken) new) =
        takes.any_moment was.0 was.1 (bodies ++ taken) was.2 one.arrivals one.stands in
        subst (λ (t : List KeptBody). HasKept told may_leave clock left_since first after old.gate.setting bodies t (new ∷ [])) (sym (append-nil taken))
        (record {
          any_moment = goes_on_prefix faults first before after old now new (Err Unkept) was.0 bodies taken stands was.1 was.2 prefix_before takes;
          from_now = λ image left.
              with_or_without old.gate.setting (bodies ++ taken) [] new image one.arrivals (replays_held before old was.0 (bodies ++ taken) one was.2)
              (meanwhile.each image (now_counts after (clock before) image meanwhile.later left));
          file = λ none. absurd (cc);
        })

    pub run_goes_on_by : (answer : Result Accepted KeptFault) → TakesDurably told may_leave clock left_since faults old before new answer now after
        → HasKept told may_leave clock left_since first after old.gate.setting bodies (taken ++ taken_of answer new) (failed_of answer new)
    run_goes_on_by (Ok accepted) takes = on_ok accepted takes
    run_goes_on_by (Err Unkept) takes = on_unkept takes
    run_goes_on_by (Err NotJson) takes = goes_on_same first before after old.gate.setting bodies taken so_far (takes.untouched (λ e. cc)).1
    run_goes_on_by (Err (NotDelivery member)) takes = goes_on_same first before after old.gate.setting bodies taken so_far (takes.untouched (λ e. cc)).1
    run_goes_on_by (Err (Feed fault)) takes = goes_on_same first before after old.gate.setting bodies taken so_far (takes.untouched (λ e. cc)).1
    run_goes_on_by (Err Differential) takes = goes_on_same first before after old.gate.setting bodies taken so_far (takes.untouched (λ e. cc)).1
    run_goes_on_by (Err (TooManyCalls calls)) takes = goes_on_same first before after old.gate.setting bodies taken so_far (takes.untouched (λ e. cc)).1
    run_goes_on_by (Err (Full end)) takes = goes_on_same first before after old.gate.setting bodies taken so_far (takes.untouched (λ e. cc)).1
    run_goes_on_by (Err Memory) takes = goes_on_same first before after old.gate.setting bodies taken so_far (takes.untouched (λ e. cc)).1

  pub run_goes_on : ((disk : D) (since : ℕ) (image : List ℕ) → since ≤ clock disk → may_leave disk image → left_since disk since image)
      → (faults : D → ℕ) (first before after : D) (old now : DurableGate) (new : KeptBody) (answer : Result Accepted KeptFault) (bodies taken : List KeptBody)
      → DurableStandsOn told may_leave old before → HasKept told may_leave clock left_since first before old.gate.setting bodies taken []
      → TakesDurably told may_leave clock left_since faults old before new answer now after
      → HasKept told may_leave clock left_since first after old.gate.setting bodies (taken ++ taken_of answer new) (failed_of answer new)
  run_goes_on now_counts faults first before after old now new answer bodies taken stands so_far takes =
      run_goes_on_by now_counts faults first before after old now new bodies taken stands so_far answer takes
