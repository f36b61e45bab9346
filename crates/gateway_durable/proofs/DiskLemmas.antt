-- What a crash may have left over calls that change nothing of a disk.
use Rattle.std.proofs.Common.{inl, inr, ⊎_elim, ℕ, List, Option, refl, ◌∙◌, arith}
use Rattle.delivery_journal.specs.Disk.{ReadsOnly, Survives}

module _ {D : Type 0} (told : D → Option (List ℕ)) (may_leave : D → List ℕ → Type 0) (clock : D → ℕ) (left_since : D → ℕ → List ℕ → Type 0) where
  -- no call at all
  pub survives_none : ((disk : D) (image : List ℕ) → left_since disk (clock disk) image → may_leave disk image)
      → (disk : D) (Holds : List ℕ → Type 0) → ((image : List ℕ) → may_leave disk image → Holds image)
      → Survives clock left_since disk disk Holds
  survives_none only_now disk Holds here = record {
    later = omega arith;
    each = λ image left. here image (only_now disk image left);
    from_before = λ since image le left. inl left;
  }

  -- a wider fact
  pub survives_wider : (old new : D) (Holds Wider : List ℕ → Type 0) → Survives clock left_since old new Holds
      → ((image : List ℕ) → Holds image → Wider image) → Survives clock left_since old new Wider
  survives_wider old new Holds Wider survives wider = record {
    later = survives.later;
    each = λ image left. wider image (survives.each image left);
    from_before = λ since image le left. ⊎_elim (λ past. inl past) (λ now. inr (wider image now)) (survives.from_before since image le left);
  }

  -- two spans, one after the other
  pub survives_then : (old mid new : D) (First Next Holds : List ℕ → Type 0) → Survives clock left_since old mid First
      → Survives clock left_since mid new Next → ((image : List ℕ) → First image → Holds image) → ((image : List ℕ) → Next image → Holds image)
      → Survives clock left_since old new Holds
  survives_then old mid new First Next Holds first next of_first of_next = record {
    later = omega (arith, first.later, next.later);
    each = λ image left. ⊎_elim (λ past. of_first image (first.each image past)) (of_next image) (next.from_before (clock old) image first.later left);
    from_before = λ since image le left. ⊎_elim
        (λ past. ⊎_elim (λ before. inl before) (λ now. inr (of_first image now)) (first.from_before since image le past))
        (λ now. inr (of_next image now))
        (next.from_before since image (omega (arith, le, first.later)) left);
  }

  -- after a span the disk was only read
  pub survives_and_reads : (old mid new : D) (Holds : List ℕ → Type 0) → Survives clock left_since old mid Holds
      → ReadsOnly told may_leave clock left_since mid new → Survives clock left_since old new Holds
  survives_and_reads old mid new Holds survives reads = record {
    later = omega (arith, survives.later, reads.later);
    each = λ image left. survives.each image (reads.since (clock old) image survives.later left);
    from_before = λ since image le left. survives.from_before since image le (reads.since since image (omega (arith, le, survives.later)) left);
  }

  pub reads_none : (disk : D) → ReadsOnly told may_leave clock left_since disk disk
  reads_none disk = record { same = refl; images = λ image left. left; later = omega arith; since = λ since image le left. left }

  pub reads_then : (old mid new : D) → ReadsOnly told may_leave clock left_since old mid → ReadsOnly told may_leave clock left_since mid new
      → ReadsOnly told may_leave clock left_since old new
  reads_then old mid new first next = record {
    same = next.same ∙ first.same;
    images = λ image left. first.images image (next.images image left);
    later = omega (arith, first.later, next.later);
    since = λ since image le left. first.since since image le (next.since since image (omega (arith, le, first.later)) left);
  }
