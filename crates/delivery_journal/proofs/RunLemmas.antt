-- Several calls of a disk, one after the other.
use Rattle.std.proofs.Common.{◌≡◌, inl, inr, ⊎_elim, ℕ, ◌≤◌, List, Option, refl, ◌∙◌, arith}
use Rattle.delivery_journal.specs.Disk.{NoMore, Passes, ReadsOnly, Survives}
use Rattle.delivery_journal.specs.Standing.{IsAtRest}

module _ {D : Type 0} (told : D → Option (List ℕ)) (may_leave : D → List ℕ → Type 0) (clock : D → ℕ) (left_since : D → ℕ → List ℕ → Type 0) where
  pub reads_none : (disk : D) → ReadsOnly told may_leave clock left_since disk disk
  reads_none disk = record { same = refl; images = λ image left. left; later = omega arith; since = λ since image le left. left }

  pub reads_then : (old mid new : D) → ReadsOnly told may_leave clock left_since old mid → ReadsOnly told may_leave clock left_since mid new
      → ReadsOnly told may_leave clock left_since old new
  reads_then old mid new first next = record {
    same = next.same ∙ first.same;
    images = λ image left. first.images image (next.images image left);
    later = omega (arith, first.later, next.later);
    since = λ since image le left. first.since since image le (next.since since image (omega (arith, le, first.later)) left);
  }

  -- one call that writes nothing
  pub reads_one : ((disk : D) (since : ℕ) (image : List ℕ) → since ≤ clock disk → may_leave disk image → left_since disk since image)
      → (old new : D) → told new ≡ told old → NoMore (may_leave old) (may_leave new)
      → Passes (clock old) (clock new) (left_since old) (left_since new) (may_leave new)
      → ReadsOnly told may_leave clock left_since old new
  reads_one now_counts old new same images time = record {
    same = same;
    images = images;
    later = time.never_falls;
    since = λ since image le left. ⊎_elim (λ past. past) (λ now. now_counts old since image le (images image now)) (time.no_more since image le left);
  }

  -- what holds of every image at first holds of all that was left meanwhile
  pub survives_reads : ((disk : D) (image : List ℕ) → left_since disk (clock disk) image → may_leave disk image)
      → (old new : D) (Holds : List ℕ → Type 0) → ReadsOnly told may_leave clock left_since old new
      → ((image : List ℕ) → may_leave old image → Holds image) → Survives clock left_since old new Holds
  survives_reads only_now old new Holds reads here = record {
    later = reads.later;
    each = λ image left. here image (only_now old image (reads.since (clock old) image (omega arith) left));
    from_before = λ since image le left. inl (reads.since since image le left);
  }

  -- one call more, after which what a crash may leave has it
  pub survives_call : (old mid new : D) (Holds : List ℕ → Type 0) → Survives clock left_since old mid Holds
      → Passes (clock mid) (clock new) (left_since mid) (left_since new) (may_leave new)
      → ((image : List ℕ) → may_leave new image → Holds image) → Survives clock left_since old new Holds
  survives_call old mid new Holds so_far time here = record {
    later = omega (arith, so_far.later, time.never_falls);
    each = λ image left. ⊎_elim (so_far.each image) (here image) (time.no_more (clock old) image so_far.later left);
    from_before = λ since image le left. ⊎_elim (so_far.from_before since image le) (λ now. inr (here image now)) (time.no_more since image (omega (arith, le, so_far.later)) left);
  }

  -- two spans, one after the other
  pub survives_then : (old mid new : D) (First Next Holds : List ℕ → Type 0) → Survives clock left_since old mid First
      → Survives clock left_since mid new Next → ((image : List ℕ) → First image → Holds image) → ((image : List ℕ) → Next image → Holds image)
      → Survives clock left_since old new Holds
  survives_then old mid new First Next Holds first next of_first of_next = record {
    later = omega (arith, first.later, next.later);
    each = λ image left. ⊎_elim (λ past. of_first image (first.each image past)) (of_next image) (next.from_before (clock old) image first.later left);
    from_before = λ since image le left. ⊎_elim
        (λ past. ⊎_elim (λ before. inl before) (λ now. inr (of_first image now)) (first.from_before since image le past))
        (λ now. inr (of_next image now))
        (next.from_before since image (omega (arith, le, first.later)) left);
  }

  -- a wider fact
  pub survives_wider : (old new : D) (Holds Wider : List ℕ → Type 0) → Survives clock left_since old new Holds
      → ((image : List ℕ) → Holds image → Wider image) → Survives clock left_since old new Wider
  survives_wider old new Holds Wider survives wider = record {
    later = survives.later;
    each = λ image left. wider image (survives.each image left);
    from_before = λ since image le left. ⊎_elim (λ past. inl past) (λ now. inr (wider image now)) (survives.from_before since image le left);
  }

-- what stands on a disk stands on it after it was read
pub at_rest_reads : (old new : List ℕ → Type 0) (end : ℕ) (file : List ℕ) → NoMore old new → IsAtRest old end file → IsAtRest new end file
at_rest_reads old new end file no_more at_rest =
    record { bodies = at_rest.bodies; holds = at_rest.holds; on_disk = λ image left. at_rest.on_disk image (no_more image left) }
