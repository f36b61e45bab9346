use Rattle.std.proofs.Common.{◌≡◌, inl, ◌+◌, ◌<◌, ℕ, List, [], ◌∷◌, ◌++◌, length, take, Some, sym, ◌∙◌, ap, subst}
use Rattle.std.specs.Prelude.{option_map}
use Rattle.gw_base.specs.Moments.{IsMoment}
use Rattle.delivery_journal.specs.Disk.{Torn, WhereTold, with_bytes_at}
use Rattle.delivery_journal.specs.HeaderBytes.{header_bytes}
use Rattle.delivery_journal.specs.Kept.{KeptBody, kept}
use Rattle.delivery_journal.specs.Standing.{Standing, IsAtRest, HoldsWithOrWithout, appended_file}
use Rattle.delivery_journal.proofs.RunLemmas.{reads_none, survives_reads, survives_wider, survives_then}
use Rattle.delivery_journal.proofs.WriteLemmas.{told_before}
use Rattle.delivery_journal.proofs.AppendLemmas.{map_some}
use Rattle.delivery_journal.proofs.AppendRuns.{gate_inside, holds_shut, written_inside, holds_torn, opened_holds, opened_kept}
use Rattle.delivery_journal.proofs.journal.Journal.append.Goals as goal

pub returns-then-self-body-clause-any_moment : goal.returns-then-self-body-clause-any_moment
returns-then-self-body-clause-any_moment g c file is bodies held =
    let at_rest = subst (λ (s : Standing). IsAtRest (g.K.Disk.may_leave c.args.disk.now) s.end file) (sym c.self.view_is) (c.requires.stands file is) in
    survives_reads g.K.Disk.told g.K.Disk.may_leave g.K.Disk.clock g.K.Disk.left_since g.met.K.Disk.only_now c.args.disk.now c.args.disk.now (HoldsWithOrWithout bodies (record { kind = c.args.kind; moment = c.args.moment; body = c.args.body.now })) (reads_none g.K.Disk.told g.K.Disk.may_leave g.K.Disk.clock g.K.Disk.left_since c.args.disk.now)
    (λ image left. inl (ap kept (at_rest.on_disk image left) ∙ held))

pub write_record-requires-clause-inside : goal.write_record-requires-clause-inside
write_record-requires-clause-inside g c file is =
    let at_rest = subst (λ (s : Standing). IsAtRest (g.K.Disk.may_leave c.args.disk.now) s.end file) (sym c.self.view_is) (c.requires.stands file is) in
    gate_inside (g.K.Disk.may_leave c.args.disk.now) c.self.inside.end file at_rest

pub returns-in_err-write_record-clause-any_moment : goal.returns-in_err-write_record-clause-any_moment
returns-in_err-write_record-clause-any_moment g c file is bodies held =
    let at_rest = subst (λ (s : Standing). IsAtRest (g.K.Disk.may_leave c.args.disk.now) s.end file) (sym c.self.view_is) (c.requires.stands file is) in
    survives_wider g.K.Disk.told g.K.Disk.may_leave g.K.Disk.clock g.K.Disk.left_since c.args.disk.now c.write_record.new.disk (λ image. take (c.self.inside.end + 1) image ≡ take (c.self.inside.end + 1) file) (HoldsWithOrWithout bodies (record { kind = c.args.kind; moment = c.args.moment; body = c.args.body.now }))
    (c.write_record.ensures.any_moment file is at_rest.on_disk) (holds_shut (g.K.Disk.may_leave c.args.disk.now) c.self.inside.end file at_rest (record { kind = c.args.kind; moment = c.args.moment; body = c.args.body.now }) bodies held)

pub open_gate-requires : goal.open_gate-requires
open_gate-requires g c = record {
  inside = λ now told.
      let from = map_some (λ (f : List ℕ). with_bytes_at f (c.self.inside.end + 1) (header_bytes c.args.kind c.args.moment (length c.args.body.now) ++ c.args.body.now ++ 0 ∷ [])) (g.K.Disk.told c.args.disk.now) now (sym c.in_ok-write_record.ensures.file ∙ told) in
      let file = from.0 in
      let is = from.1.0 in
      let at_rest = subst (λ (s : Standing). IsAtRest (g.K.Disk.may_leave c.args.disk.now) s.end file) (sym c.self.view_is) (c.requires.stands file is) in
      let in_range : IsMoment c.args.moment = subst IsMoment c.secs-secs.ensures.value c.secs-secs.ensures.range in
      subst (λ (f : List ℕ). c.self.inside.end < length f) from.1.1 (written_inside (g.K.Disk.may_leave c.args.disk.now) c.self.inside.end file at_rest c.args.kind c.args.moment c.args.body.now in_range c.requires.short);
}

pub returns-in_err-open_gate-clause-any_moment : goal.returns-in_err-open_gate-clause-any_moment
returns-in_err-open_gate-clause-any_moment g c file is bodies held =
    let at_rest = subst (λ (s : Standing). IsAtRest (g.K.Disk.may_leave c.args.disk.now) s.end file) (sym c.self.view_is) (c.requires.stands file is) in
    let in_range : IsMoment c.args.moment = subst IsMoment c.secs-secs.ensures.value c.secs-secs.ensures.range in
    let told : g.K.Disk.told c.write_record.new.disk ≡ Some (with_bytes_at file (c.self.inside.end + 1) (header_bytes c.args.kind c.args.moment (length c.args.body.now) ++ c.args.body.now ++ 0 ∷ [])) = c.in_ok-write_record.ensures.file ∙ ap (option_map (λ (f : List ℕ). with_bytes_at f (c.self.inside.end + 1) (header_bytes c.args.kind c.args.moment (length c.args.body.now) ++ c.args.body.now ++ 0 ∷ []))) is in
    survives_then g.K.Disk.told g.K.Disk.may_leave g.K.Disk.clock g.K.Disk.left_since c.args.disk.now c.write_record.new.disk c.open_gate.new.disk
    (λ image. take (c.self.inside.end + 1) image ≡ take (c.self.inside.end + 1) file) (λ image. Torn c.self.inside.end 1 (with_bytes_at file (c.self.inside.end + 1) (header_bytes c.args.kind c.args.moment (length c.args.body.now) ++ c.args.body.now ++ 0 ∷ [])) image) (HoldsWithOrWithout bodies (record { kind = c.args.kind; moment = c.args.moment; body = c.args.body.now }))
    (c.write_record.ensures.any_moment file is at_rest.on_disk)
    (c.open_gate.ensures.any_moment (with_bytes_at file (c.self.inside.end + 1) (header_bytes c.args.kind c.args.moment (length c.args.body.now) ++ c.args.body.now ++ 0 ∷ [])) told (c.in_ok-write_record.ensures.on_disk (with_bytes_at file (c.self.inside.end + 1) (header_bytes c.args.kind c.args.moment (length c.args.body.now) ++ c.args.body.now ++ 0 ∷ [])) told))
    (holds_shut (g.K.Disk.may_leave c.args.disk.now) c.self.inside.end file at_rest (record { kind = c.args.kind; moment = c.args.moment; body = c.args.body.now }) bodies held) (holds_torn (g.K.Disk.may_leave c.args.disk.now) c.self.inside.end file at_rest c.args.kind c.args.moment c.args.body.now in_range c.requires.short bodies held)

pub returns-clause-any_moment : goal.returns-clause-any_moment
returns-clause-any_moment g c file is bodies held =
    let at_rest = subst (λ (s : Standing). IsAtRest (g.K.Disk.may_leave c.args.disk.now) s.end file) (sym c.self.view_is) (c.requires.stands file is) in
    let in_range : IsMoment c.args.moment = subst IsMoment c.secs-secs.ensures.value c.secs-secs.ensures.range in
    let told : g.K.Disk.told c.write_record.new.disk ≡ Some (with_bytes_at file (c.self.inside.end + 1) (header_bytes c.args.kind c.args.moment (length c.args.body.now) ++ c.args.body.now ++ 0 ∷ [])) = c.in_ok-write_record.ensures.file ∙ ap (option_map (λ (f : List ℕ). with_bytes_at f (c.self.inside.end + 1) (header_bytes c.args.kind c.args.moment (length c.args.body.now) ++ c.args.body.now ++ 0 ∷ []))) is in
    survives_then g.K.Disk.told g.K.Disk.may_leave g.K.Disk.clock g.K.Disk.left_since c.args.disk.now c.write_record.new.disk c.open_gate.new.disk
    (λ image. take (c.self.inside.end + 1) image ≡ take (c.self.inside.end + 1) file) (λ image. Torn c.self.inside.end 1 (with_bytes_at file (c.self.inside.end + 1) (header_bytes c.args.kind c.args.moment (length c.args.body.now) ++ c.args.body.now ++ 0 ∷ [])) image) (HoldsWithOrWithout bodies (record { kind = c.args.kind; moment = c.args.moment; body = c.args.body.now }))
    (c.write_record.ensures.any_moment file is at_rest.on_disk)
    (c.open_gate.ensures.any_moment (with_bytes_at file (c.self.inside.end + 1) (header_bytes c.args.kind c.args.moment (length c.args.body.now) ++ c.args.body.now ++ 0 ∷ [])) told (c.in_ok-write_record.ensures.on_disk (with_bytes_at file (c.self.inside.end + 1) (header_bytes c.args.kind c.args.moment (length c.args.body.now) ++ c.args.body.now ++ 0 ∷ [])) told))
    (holds_shut (g.K.Disk.may_leave c.args.disk.now) c.self.inside.end file at_rest (record { kind = c.args.kind; moment = c.args.moment; body = c.args.body.now }) bodies held) (holds_torn (g.K.Disk.may_leave c.args.disk.now) c.self.inside.end file at_rest c.args.kind c.args.moment c.args.body.now in_range c.requires.short bodies held)

pub returns-clause-added : goal.returns-clause-added
returns-clause-added g c bodies held now told =
    let opened = map_some (λ (f : List ℕ). with_bytes_at f c.self.inside.end (1 ∷ [])) (g.K.Disk.told c.write_record.new.disk) now (sym c.in_ok-open_gate.ensures.file ∙ told) in
    let from = map_some (λ (f : List ℕ). with_bytes_at f (c.self.inside.end + 1) (header_bytes c.args.kind c.args.moment (length c.args.body.now) ++ c.args.body.now ++ 0 ∷ [])) (g.K.Disk.told c.args.disk.now) opened.0 (sym c.in_ok-write_record.ensures.file ∙ opened.1.0) in
    let file = from.0 in
    let is = from.1.0 in
    let at_rest = subst (λ (s : Standing). IsAtRest (g.K.Disk.may_leave c.args.disk.now) s.end file) (sym c.self.view_is) (c.requires.stands file is) in
    let in_range : IsMoment c.args.moment = subst IsMoment c.secs-secs.ensures.value c.secs-secs.ensures.range in
    let now_is = ap (λ (f : List ℕ). with_bytes_at f c.self.inside.end (1 ∷ [])) from.1.1 ∙ opened.1.1 in
    opened_kept (g.K.Disk.may_leave c.args.disk.now) c.self.inside.end file at_rest c.args.kind c.args.moment c.args.body.now in_range c.requires.short now now_is bodies (held file is)

pub returns-clause-stands : goal.returns-clause-stands
returns-clause-stands g c ok now told =
    let opened = map_some (λ (f : List ℕ). with_bytes_at f c.self.inside.end (1 ∷ [])) (g.K.Disk.told c.write_record.new.disk) now (sym c.in_ok-open_gate.ensures.file ∙ told) in
    let from = map_some (λ (f : List ℕ). with_bytes_at f (c.self.inside.end + 1) (header_bytes c.args.kind c.args.moment (length c.args.body.now) ++ c.args.body.now ++ 0 ∷ [])) (g.K.Disk.told c.args.disk.now) opened.0 (sym c.in_ok-write_record.ensures.file ∙ opened.1.0) in
    let file = from.0 in
    let is = from.1.0 in
    let at_rest = subst (λ (s : Standing). IsAtRest (g.K.Disk.may_leave c.args.disk.now) s.end file) (sym c.self.view_is) (c.requires.stands file is) in
    let in_range : IsMoment c.args.moment = subst IsMoment c.secs-secs.ensures.value c.secs-secs.ensures.range in
    let now_is = ap (λ (f : List ℕ). with_bytes_at f c.self.inside.end (1 ∷ [])) from.1.1 ∙ opened.1.1 in
    record {
      bodies = at_rest.bodies ++ (record { kind = c.args.kind; moment = c.args.moment; body = c.args.body.now }) ∷ [];
      holds = opened_holds (g.K.Disk.may_leave c.args.disk.now) c.self.inside.end file at_rest c.args.kind c.args.moment c.args.body.now in_range c.requires.short now now_is;
      on_disk = c.in_ok-open_gate.ensures.on_disk now told;
    }

pub returns-clause-bytes : goal.returns-clause-bytes
returns-clause-bytes g c =
    let new : KeptBody = record { kind = c.args.kind; moment = c.args.moment; body = c.args.body.now } in
    let inside : WhereTold (g.K.Disk.told c.args.disk.now) (λ (file : List ℕ). c.self.inside.end < length file) = λ file is.
    gate_inside (g.K.Disk.may_leave c.args.disk.now) c.self.inside.end file (subst (λ (s : Standing). IsAtRest (g.K.Disk.may_leave c.args.disk.now) s.end file) (sym c.self.view_is) (c.requires.stands file is)) in
    c.in_ok-open_gate.ensures.file
    ∙ ap (option_map (λ (f : List ℕ). with_bytes_at f c.self.inside.end (1 ∷ []))) c.in_ok-write_record.ensures.file
    ∙ told_before (g.K.Disk.told c.args.disk.now) c.self.inside.end 1 (header_bytes c.args.kind c.args.moment (length c.args.body.now) ++ c.args.body.now ++ 0 ∷ []) inside
    ∙ ap (λ (s : Standing). option_map (appended_file s.end new) (g.K.Disk.told c.args.disk.now)) c.self.view_is
