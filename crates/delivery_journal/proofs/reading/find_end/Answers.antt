use Rattle.std.proofs.Common.{◌≡◌, ◌+◌, ℕ, [], ◌∷◌, ◌++◌, length, drop, Option, Some, None, ◌∙◌, subst, arith}
use Rattle.std.specs.Prelude.{MatchOption}
use Rattle.delivery_journal.specs.Kept.{KeptBody, found_from, record_of}
use Rattle.delivery_journal.proofs.RunLemmas.{reads_then}
use Rattle.delivery_journal.proofs.FileLemmas.{leads_closed, leads_damage, leads_end, leads_next}
use Rattle.delivery_journal.proofs.reading.find_end.Goals as goal

pub returns-then-gate-eq0-clause-found : goal.returns-then-gate-eq0-clause-found
returns-then-gate-eq0-clause-found g c file is =
    let leads = c.loop-at.invariant.leads file is in
    let gate = c.in_ok-gate.ensures.gate file (c.loop-at.invariant.reads.same ∙ is) in
    (leads.0 ++ [], leads_closed file (found_from 0 8 (drop 8 file)) leads.0 c.loop-at.at leads.1 c.in_ok-gate.gate (drop (c.loop-at.at + 1) file) gate c.if-gate-eq0.true)

pub returns-in-None-clause-fault : goal.returns-in-None-clause-fault
returns-in-None-clause-fault g c not_disk file is =
    let leads = c.loop-at.invariant.leads file is in
    let before = c.loop-at.invariant.reads.same ∙ is in
    let gate = c.in_ok-gate.ensures.gate file before in
    let none = subst (λ (end : Option ℕ). MatchOption end (record_of (drop (c.loop-at.at + 1) file) ≡ None) (λ next. (kept : KeptBody) × (record_of (drop (c.loop-at.at + 1) file) ≡ Some kept) × (next ≡ c.loop-at.at + 14 + length kept.body)))
    c.in-None.is (c.in_ok-end_of_record.ensures.end file (c.gate_at.ensures.reads.same ∙ before)) in
    leads_damage file (found_from 0 8 (drop 8 file)) leads.0 c.loop-at.at leads.1 c.in_ok-gate.gate (drop (c.loop-at.at + 1) file) gate c.if-gate-eq0.false none

pub loop-at-preserved : goal.loop-at-preserved
loop-at-preserved g c = record {
  leads = λ file is.
      let leads = c.loop-at.invariant.leads file is in
      let before = c.loop-at.invariant.reads.same ∙ is in
      let gate = c.in_ok-gate.ensures.gate file before in
      let some = subst (λ (end : Option ℕ). MatchOption end (record_of (drop (c.loop-at.at + 1) file) ≡ None) (λ next. (kept : KeptBody) × (record_of (drop (c.loop-at.at + 1) file) ≡ Some kept) × (next ≡ c.loop-at.at + 14 + length kept.body)))
      c.in-Some.is (c.in_ok-end_of_record.ensures.end file (c.gate_at.ensures.reads.same ∙ before)) in
      (leads.0 ++ some.0 ∷ [], leads_next file (found_from 0 8 (drop 8 file)) leads.0 c.loop-at.at leads.1 c.in_ok-gate.gate some.0 c.in-Some.next gate c.if-gate-eq0.false some.1 some.2);
  reads = reads_then g.K.Disk.told g.K.Disk.may_leave g.K.Disk.clock g.K.Disk.left_since c.args.disk.now c.gate_at.new.disk c.end_of_record.new.disk
      (reads_then g.K.Disk.told g.K.Disk.may_leave g.K.Disk.clock g.K.Disk.left_since c.args.disk.now c.loop-at.disk c.gate_at.new.disk c.loop-at.invariant.reads c.gate_at.ensures.reads)
      c.end_of_record.ensures.reads;
  faults = omega (arith, c.loop-at.invariant.faults, c.gate_at.ensures.counts.never_falls, c.end_of_record.ensures.counts.never_falls);
}

pub returns-clause-fault : goal.returns-clause-fault
returns-clause-fault g c not_disk file is =
    let leads = c.loop-at.invariant.leads file is in
    leads_end file (found_from 0 8 (drop 8 file)) leads.0 c.loop-at.at leads.1 (omega (arith, c.requires.length file is))
