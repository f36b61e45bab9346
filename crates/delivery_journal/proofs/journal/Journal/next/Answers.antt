use Rattle.std.proofs.Common.{◌≡◌, ◌+◌, ◌≤◌, drop, Option, Some, sym, ◌∙◌, subst, arith}
use Rattle.std.specs.Prelude.{IfSome}
use Rattle.delivery_journal.specs.declared.header.Header.{Header}
use Rattle.delivery_journal.specs.Kept.{header_of}
use Rattle.delivery_journal.specs.Standing.{Standing, IsAtRest}
use Rattle.delivery_journal.proofs.RunLemmas.{reads_then, at_rest_reads}
use Rattle.delivery_journal.proofs.AppendRuns.{gate_inside}
use Rattle.delivery_journal.proofs.GateLemmas.{gives_end, gives_next}
use Rattle.delivery_journal.proofs.journal.Journal.next.Goals as goal

pub returns-then-at-self-clause-body : goal.returns-then-at-self-clause-body
returns-then-at-self-clause-body g c file is before rest held place =
    let at_rest = subst (λ (s : Standing). IsAtRest (g.K.Disk.may_leave c.args.disk.now) s.end file) (sym c.self.view_is) (c.requires.stands file is) in
    gives_end (g.K.Disk.may_leave c.args.disk.now) c.self.inside.end file at_rest c.args.at before rest held place c.if-at-self.true c.args.body.now

pub whole_at-requires-clause-inside : goal.whole_at-requires-clause-inside
whole_at-requires-clause-inside g c file is =
    let at_rest = subst (λ (s : Standing). IsAtRest (g.K.Disk.may_leave c.args.disk.now) s.end file) (sym c.self.view_is) (c.requires.stands file is) in
    let inside = gate_inside (g.K.Disk.may_leave c.args.disk.now) c.self.inside.end file at_rest in
    omega arith

pub returns-in_err-header-clause-stands : goal.returns-in_err-header-clause-stands
returns-in_err-header-clause-stands g c file is = at_rest_reads (g.K.Disk.may_leave c.args.disk.now) (g.K.Disk.may_leave c.whole_at.new.disk) c.args.self.now.end file c.whole_at.ensures.reads.images
    (c.requires.stands file (sym c.whole_at.ensures.reads.same ∙ is))

pub returns-in-None-clause-stands : goal.returns-in-None-clause-stands
returns-in-None-clause-stands g c file is = at_rest_reads (g.K.Disk.may_leave c.args.disk.now) (g.K.Disk.may_leave c.whole_at.new.disk) c.args.self.now.end file c.whole_at.ensures.reads.images
    (c.requires.stands file (sym c.whole_at.ensures.reads.same ∙ is))

pub read_body-requires-clause-inside : goal.read_body-requires-clause-inside
read_body-requires-clause-inside g c file told =
    let is = sym c.whole_at.ensures.reads.same ∙ told in
    let at_rest = subst (λ (s : Standing). IsAtRest (g.K.Disk.may_leave c.args.disk.now) s.end file) (sym c.self.view_is) (c.requires.stands file is) in
    let inside = gate_inside (g.K.Disk.may_leave c.args.disk.now) c.self.inside.end file at_rest in
    let fits : c.args.at + 14 + c.in-Some.header.count ≤ c.self.inside.end = subst (λ (o : Option Header). IfSome o (λ h. c.args.at + 14 + h.count ≤ c.self.inside.end)) c.in-Some.is c.in_ok-header.ensures.fits in
    omega arith

pub returns-in_err-read_body-clause-stands : goal.returns-in_err-read_body-clause-stands
returns-in_err-read_body-clause-stands g c file told =
    let both = reads_then g.K.Disk.told g.K.Disk.may_leave g.K.Disk.clock g.K.Disk.left_since c.args.disk.now c.whole_at.new.disk c.read_body.new.disk c.whole_at.ensures.reads c.read_body.ensures.reads in
    at_rest_reads (g.K.Disk.may_leave c.args.disk.now) (g.K.Disk.may_leave c.read_body.new.disk) c.args.self.now.end file both.images (c.requires.stands file (sym both.same ∙ told))

pub returns-clause-stands : goal.returns-clause-stands
returns-clause-stands g c file told =
    let both = reads_then g.K.Disk.told g.K.Disk.may_leave g.K.Disk.clock g.K.Disk.left_since c.args.disk.now c.whole_at.new.disk c.read_body.new.disk c.whole_at.ensures.reads c.read_body.ensures.reads in
    at_rest_reads (g.K.Disk.may_leave c.args.disk.now) (g.K.Disk.may_leave c.read_body.new.disk) c.args.self.now.end file both.images (c.requires.stands file (sym both.same ∙ told))

pub returns-clause-body : goal.returns-clause-body
returns-clause-body g c file is before rest held place =
    let at_rest = subst (λ (s : Standing). IsAtRest (g.K.Disk.may_leave c.args.disk.now) s.end file) (sym c.self.view_is) (c.requires.stands file is) in
    let header = subst (λ (o : Option Header). (h : Header) → header_of (drop (c.args.at + 1) file) ≡ Some h → c.args.at + 14 + h.count ≤ c.self.inside.end → o ≡ Some h) c.in-Some.is (c.in_ok-header.ensures.header file is) in
    gives_next (g.K.Disk.may_leave c.args.disk.now) c.self.inside.end file at_rest c.args.at before rest held place c.if-at-self.false c.in-Some.header header c.read_body.new.body
    (c.in_ok-read_body.ensures.body file (c.whole_at.ensures.reads.same ∙ is))
