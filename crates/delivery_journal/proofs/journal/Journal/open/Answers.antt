use Rattle.std.proofs.Common.{◌≡◌, ◌⊎◌, inl, inr, ◌≤◌, ℕ, List, [], length, Ok, refl, sym, ◌∙◌, ap, subst, arith}
use Rattle.delivery_journal.specs.Kept.{kept, found}
use Rattle.delivery_journal.specs.Standing.{new_file}
use Rattle.delivery_journal.proofs.RunLemmas.{survives_reads, survives_then}
use Rattle.delivery_journal.proofs.FileLemmas.{kept_short, opened_short, new_of}
use Rattle.delivery_journal.proofs.journal.Journal.open.Goals as goal

pub returns-in_err-make_new-clause-any_moment : goal.returns-in_err-make_new-clause-any_moment
returns-in_err-make_new-clause-any_moment g c file is =
    let short : length file ≤ 9 = omega (arith, c.in_ok-len.ensures.len file is) in
    let P : List ℕ → Type 0 = λ image. g.K.Disk.may_leave c.args.disk.now image ⊎ (kept image ≡ kept file) in
    survives_then g.K.Disk.told g.K.Disk.may_leave g.K.Disk.clock g.K.Disk.left_since c.args.disk.now c.synced_len.new.disk c.make_new.new.disk P (λ image. length image ≤ 9) P
    (survives_reads g.K.Disk.told g.K.Disk.may_leave g.K.Disk.clock g.K.Disk.left_since g.met.K.Disk.only_now c.args.disk.now c.synced_len.new.disk P c.synced_len.ensures.reads (λ image left. inl left))
    (c.make_new.ensures.any_moment file short (c.in_ok-len.ensures.on_disk file is))
    (λ image p. p) (λ image le. inr (kept_short image le ∙ sym (kept_short file short)))

pub returns-then-len-le9-clause-any_moment : goal.returns-then-len-le9-clause-any_moment
returns-then-len-le9-clause-any_moment g c file is =
    let short : length file ≤ 9 = omega (arith, c.in_ok-len.ensures.len file is) in
    let P : List ℕ → Type 0 = λ image. g.K.Disk.may_leave c.args.disk.now image ⊎ (kept image ≡ kept file) in
    survives_then g.K.Disk.told g.K.Disk.may_leave g.K.Disk.clock g.K.Disk.left_since c.args.disk.now c.synced_len.new.disk c.make_new.new.disk P (λ image. length image ≤ 9) P
    (survives_reads g.K.Disk.told g.K.Disk.may_leave g.K.Disk.clock g.K.Disk.left_since g.met.K.Disk.only_now c.args.disk.now c.synced_len.new.disk P c.synced_len.ensures.reads (λ image left. inl left))
    (c.make_new.ensures.any_moment file short (c.in_ok-len.ensures.on_disk file is))
    (λ image p. p) (λ image le. inr (kept_short image le ∙ sym (kept_short file short)))

pub returns-then-len-le9-clause-stands : goal.returns-then-len-le9-clause-stands
returns-then-len-le9-clause-stands g c file is =
    let new : new_file ≡ file = new_of (g.K.Disk.told c.synced_len.new.disk) file (sym c.in_ok-make_new.ensures.file ∙ is) in
    record {
      bodies = [];
      holds = subst (λ (f : List ℕ). found f ≡ Ok (record { bodies = []; end = 8 })) new refl;
      on_disk = c.in_ok-make_new.ensures.on_disk file is;
    }

pub returns-then-len-le9-clause-list : goal.returns-then-len-le9-clause-list
returns-then-len-le9-clause-list g c file is =
    let short : length file ≤ 9 = omega (arith, c.in_ok-len.ensures.len file is) in
    ([], kept_short file short, ap kept (opened_short file short))
