-- No connection yet, one more, and the end.
use Rattle.std.proofs.Common.{◌≡◌, ◌≤◌, ◌∙◌, ◌+◌, ◌-◌, Bool, List, true, false, ℕ, inl, inr, Result, Ok, Err, ap, arith, refl, subst, sym}
use Rattle.std.proofs.lemmas.Bool.{true≢false}
use Rattle.gw_base.specs.Changes.{change}
use Rattle.gw_base.specs.Count.{Rose}
use Rattle.gw_base.specs.declared.sink.Failed.{Failed}
use Rattle.gw_base.proofs.CountLemmas.{rose-after, rose-before}
use Rattle.delivery_journal.specs.Kept.{KeptBody}
use Rattle.gateway_server.specs.Serving.{ServesAllAfter}
use Rattle.gateway_server.proofs.CauseLemmas.{counts_end, counts_more, counts_none, no_further, one_further}
use Rattle.gateway_server.proofs.CrashLemmas.{kept_end, kept_more, kept_none}
use Rattle.gateway_server.proofs.LoopLemmas.{is_end, serves_end, serves_more, serves_none}
use Rattle.gateway_server.proofs.connections.serve_with.Goals as goal

le_self : (n : ℕ) → n ≤ n
le_self n = omega arith

le_both : (a b c : ℕ) → a ≤ b → b ≤ c → a ≤ c
le_both a b c ab bc = omega arith

none_yet : (n : ℕ) → 0 ≡ n - n
none_yet n = omega arith

one_more : (n left : ℕ) → left ≤ n → 1 ≤ left → (n - left) + 1 ≡ n - (left - 1)
one_more n left few more = omega arith

all_served : (n left : ℕ) → left ≤ 0 → n - left ≡ n
all_served n left none = omega arith

at_most : (n left : ℕ) → n - left ≤ n
at_most n left = omega arith

fewer : (n left : ℕ) → left ≤ n → left - 1 ≤ n
fewer n left few = omega arith

abbrev answer : Bool → Result Bool Failed
answer found = Ok found

not_true : (found : Bool) → found ≡ false → answer found ≡ answer true → ⊥
not_true found is e = cc

abbrev fault_of : Failed → Result Bool Failed
fault_of fault = Err fault

not_ok : (fault : Failed) → fault_of fault ≡ answer true → ⊥
not_ok fault e = cc

pub loop-left-init : goal.loop-left-init
loop-left-init g c = record {
  absent = c.requires.absent;
  setting = refl;
  door = le_self (g.D.Sink.faults c.args.door.now);
  clock = le_self (g.C.Clock.faults c.args.clock.now);
  keeping = le_self (g.H.HoldsGateway.faults c.args.beside.now);
  ready = c.requires.ready;
  failed = λ was is. absurd (true≢false (sym was ∙ is));
  few = le_self c.args.connections;
  small = c.requires.small;
  serves = λ told tells past stands.
      subst (λ (count : ℕ). ServesAllAfter (Rose (g.D.Sink.faults c.args.door.now) (g.D.Sink.faults c.args.door.now)) (Rose (g.H.HoldsGateway.faults c.args.beside.now) (g.H.HoldsGateway.faults c.args.beside.now)) g.H.HoldsGateway.room (g.H.HoldsGateway.held c.args.host.now) past told
      (change g.C.Clock.told g.C.Clock.faults c.args.clock.now c.args.clock.now) (g.D.Sink.told c.args.door.now) (g.D.Sink.beside c.args.door.now) (g.H.HoldsGateway.held c.args.host.now) count) (none_yet c.args.connections)
      (serves_none (Rose (g.D.Sink.faults c.args.door.now) (g.D.Sink.faults c.args.door.now)) (Rose (g.H.HoldsGateway.faults c.args.beside.now) (g.H.HoldsGateway.faults c.args.beside.now)) g.H.HoldsGateway.room (g.H.HoldsGateway.held c.args.host.now) past told (g.C.Clock.told c.args.clock.now) (g.C.Clock.faults c.args.clock.now) (g.C.Clock.faults c.args.clock.now)
      (g.D.Sink.told c.args.door.now) (g.D.Sink.beside c.args.door.now) tells stands);
  counted = λ told tells past stands.
      counts_none (Rose (g.H.HoldsGateway.faults c.args.beside.now) (g.H.HoldsGateway.faults c.args.beside.now)) g.H.HoldsGateway.room (g.H.HoldsGateway.held c.args.host.now) past told (g.D.Sink.told c.args.door.now) (g.D.Sink.beside c.args.door.now) (g.D.Sink.faults c.args.door.now) (g.C.Clock.faults c.args.clock.now) tells stands;
  kept = λ told tells past stands first before keeps.
      kept_none (λ (taken failed : List KeptBody). g.H.HoldsGateway.keeps first taken failed c.args.host.now c.args.beside.now) before (g.H.HoldsGateway.held c.args.host.now) past told (g.D.Sink.told c.args.door.now) (g.D.Sink.beside c.args.door.now) tells stands keeps;
}

pub loop-left-preserved : goal.loop-left-preserved
loop-left-preserved g c = record {
  absent = c.serve_one_with.ensures.ended;
  setting = c.serve_one_with.ensures.setting ∙ c.loop-left.invariant.setting;
  door = le_both (g.D.Sink.faults c.args.door.now) (g.D.Sink.faults c.next.new.self) (g.D.Sink.faults c.serve_one_with.new.door) came c.serve_one_with.ensures.counts;
  clock = le_both (g.C.Clock.faults c.args.clock.now) (g.C.Clock.faults c.loop-left.clock) (g.C.Clock.faults c.serve_one_with.new.clock) c.loop-left.invariant.clock c.serve_one_with.ensures.clock;
  keeping = le_both (g.H.HoldsGateway.faults c.args.beside.now) (g.H.HoldsGateway.faults c.loop-left.beside) (g.H.HoldsGateway.faults c.serve_one_with.new.beside) c.loop-left.invariant.keeping c.serve_one_with.ensures.keeping;
  ready = c.serve_one_with.ensures.ready;
  failed = λ was is. rose-after (g.H.HoldsGateway.faults c.args.beside.now) (g.H.HoldsGateway.faults c.loop-left.beside) (g.H.HoldsGateway.faults c.serve_one_with.new.beside) c.loop-left.invariant.keeping
      (c.serve_one_with.ensures.failed is);
  few = fewer c.args.connections c.loop-left.left c.loop-left.invariant.few;
  small = c.serve_one_with.ensures.small;
  serves = λ told tells past stands.
      subst (λ (count : ℕ). ServesAllAfter (Rose (g.D.Sink.faults c.args.door.now) (g.D.Sink.faults c.serve_one_with.new.door)) (Rose (g.H.HoldsGateway.faults c.args.beside.now) (g.H.HoldsGateway.faults c.serve_one_with.new.beside)) g.H.HoldsGateway.room (g.H.HoldsGateway.held c.args.host.now) past told
      (change g.C.Clock.told g.C.Clock.faults c.args.clock.now c.serve_one_with.new.clock) (g.D.Sink.told c.serve_one_with.new.door) (g.D.Sink.beside c.serve_one_with.new.door) (g.H.HoldsGateway.held c.serve_one_with.new.host) count)
      (one_more c.args.connections c.loop-left.left c.loop-left.invariant.few c.loop-left-test.true)
      (serves_more (Rose (g.D.Sink.faults c.args.door.now) (g.D.Sink.faults c.loop-left.door)) (Rose (g.D.Sink.faults c.next.new.self) (g.D.Sink.faults c.serve_one_with.new.door)) (Rose (g.D.Sink.faults c.args.door.now) (g.D.Sink.faults c.serve_one_with.new.door))
      (Rose (g.H.HoldsGateway.faults c.args.beside.now) (g.H.HoldsGateway.faults c.loop-left.beside)) (Rose (g.H.HoldsGateway.faults c.loop-left.beside) (g.H.HoldsGateway.faults c.serve_one_with.new.beside)) (Rose (g.H.HoldsGateway.faults c.args.beside.now) (g.H.HoldsGateway.faults c.serve_one_with.new.beside)) g.H.HoldsGateway.room
      (g.H.HoldsGateway.held c.args.host.now) (g.H.HoldsGateway.held c.loop-left.host) (g.H.HoldsGateway.held c.serve_one_with.new.host) past told (g.C.Clock.told c.args.clock.now) (g.C.Clock.told c.loop-left.clock) (g.C.Clock.told c.serve_one_with.new.clock)
      (g.C.Clock.faults c.args.clock.now) (g.C.Clock.faults c.loop-left.clock) (g.C.Clock.faults c.serve_one_with.new.clock)
      (g.D.Sink.beside c.loop-left.door) (g.D.Sink.beside c.next.new.self) (g.D.Sink.beside c.serve_one_with.new.door) (c.args.connections - c.loop-left.left)
      (g.D.Sink.told c.loop-left.door) (g.D.Sink.told c.next.new.self) (g.D.Sink.told c.serve_one_with.new.door) (c.loop-left.invariant.serves told tells past stands)
      (λ rose. rose-before (g.D.Sink.faults c.args.door.now) (g.D.Sink.faults c.loop-left.door) (g.D.Sink.faults c.serve_one_with.new.door) rose
      (le_both (g.D.Sink.faults c.loop-left.door) (g.D.Sink.faults c.next.new.self) (g.D.Sink.faults c.serve_one_with.new.door) c.next.ensures.counts.never_falls c.serve_one_with.ensures.counts))
      (λ rose. rose-after (g.D.Sink.faults c.args.door.now) (g.D.Sink.faults c.next.new.self) (g.D.Sink.faults c.serve_one_with.new.door) came rose)
      kept_before kept_after
      c.loop-left.invariant.setting c.loop-left.invariant.clock (c.in-Ok-true.ensures.came (ap Ok c.in-Ok-true.field-0-test)) (c.in-Ok-true.ensures.fresh (ap Ok c.in-Ok-true.field-0-test))
      c.serve_one_with.ensures.serves);
  counted = λ told tells past stands.
      counts_more (Rose (g.H.HoldsGateway.faults c.args.beside.now) (g.H.HoldsGateway.faults c.loop-left.beside)) (Rose (g.H.HoldsGateway.faults c.loop-left.beside) (g.H.HoldsGateway.faults c.serve_one_with.new.beside)) (Rose (g.H.HoldsGateway.faults c.args.beside.now) (g.H.HoldsGateway.faults c.serve_one_with.new.beside)) g.H.HoldsGateway.room
      (g.H.HoldsGateway.held c.args.host.now).gate.setting (g.H.HoldsGateway.held c.loop-left.host) (g.H.HoldsGateway.held c.serve_one_with.new.host) past told (g.C.Clock.told c.loop-left.clock) (g.C.Clock.told c.serve_one_with.new.clock)
      (g.D.Sink.faults c.args.door.now) (g.D.Sink.faults c.loop-left.door) (g.D.Sink.faults c.next.new.self) (g.D.Sink.faults c.serve_one_with.new.door)
      (g.C.Clock.faults c.args.clock.now) (g.C.Clock.faults c.loop-left.clock) (g.C.Clock.faults c.serve_one_with.new.clock)
      (g.D.Sink.beside c.loop-left.door) (g.D.Sink.beside c.next.new.self) (g.D.Sink.beside c.serve_one_with.new.door)
      (g.D.Sink.told c.loop-left.door) (g.D.Sink.told c.next.new.self) (g.D.Sink.told c.serve_one_with.new.door) (c.loop-left.invariant.counted told tells past stands)
      kept_before kept_after
      c.loop-left.invariant.setting c.next.ensures.counts.never_falls c.serve_one_with.ensures.counts c.serve_one_with.ensures.clock
      (c.in-Ok-true.ensures.came (ap Ok c.in-Ok-true.field-0-test)) (c.in-Ok-true.ensures.fresh (ap Ok c.in-Ok-true.field-0-test)) c.serve_one_with.ensures.serves;
  kept = λ told tells past stands first before keeps.
      kept_more (Rose (g.D.Sink.faults c.next.new.self) (g.D.Sink.faults c.serve_one_with.new.door)) (Rose (g.H.HoldsGateway.faults c.loop-left.beside) (g.H.HoldsGateway.faults c.serve_one_with.new.beside)) g.H.HoldsGateway.room
      (λ (taken failed : List KeptBody). g.H.HoldsGateway.keeps first taken failed c.loop-left.host c.loop-left.beside) (λ (taken failed : List KeptBody). g.H.HoldsGateway.keeps first taken failed c.serve_one_with.new.host c.serve_one_with.new.beside) before
      (g.H.HoldsGateway.held c.loop-left.host) (g.H.HoldsGateway.held c.serve_one_with.new.host) told (change g.C.Clock.told g.C.Clock.faults c.loop-left.clock c.serve_one_with.new.clock)
      (g.D.Sink.beside c.loop-left.door) (g.D.Sink.beside c.next.new.self) (g.D.Sink.beside c.serve_one_with.new.door)
      (g.D.Sink.told c.loop-left.door) (g.D.Sink.told c.next.new.self) (g.D.Sink.told c.serve_one_with.new.door) (c.loop-left.invariant.kept told tells past stands first before keeps)
      (sym c.is_sound.ensures.value ∙ c.if-not-is_sound.false)
      (c.in-Ok-true.ensures.came (ap Ok c.in-Ok-true.field-0-test)) (c.in-Ok-true.ensures.fresh (ap Ok c.in-Ok-true.field-0-test)) c.serve_one_with.ensures.serves
      (λ one is_fresh entry logged kept so. c.serve_one_with.ensures.keeps one is_fresh entry logged first kept so);
}
  where
    came : g.D.Sink.faults c.args.door.now ≤ g.D.Sink.faults c.next.new.self
    came = le_both (g.D.Sink.faults c.args.door.now) (g.D.Sink.faults c.loop-left.door) (g.D.Sink.faults c.next.new.self) c.loop-left.invariant.door c.next.ensures.counts.never_falls

    kept_before : Rose (g.H.HoldsGateway.faults c.args.beside.now) (g.H.HoldsGateway.faults c.loop-left.beside) → Rose (g.H.HoldsGateway.faults c.args.beside.now) (g.H.HoldsGateway.faults c.serve_one_with.new.beside)
    kept_before rose = rose-before (g.H.HoldsGateway.faults c.args.beside.now) (g.H.HoldsGateway.faults c.loop-left.beside) (g.H.HoldsGateway.faults c.serve_one_with.new.beside) rose c.serve_one_with.ensures.keeping

    kept_after : Rose (g.H.HoldsGateway.faults c.loop-left.beside) (g.H.HoldsGateway.faults c.serve_one_with.new.beside) → Rose (g.H.HoldsGateway.faults c.args.beside.now) (g.H.HoldsGateway.faults c.serve_one_with.new.beside)
    kept_after rose = rose-after (g.H.HoldsGateway.faults c.args.beside.now) (g.H.HoldsGateway.faults c.loop-left.beside) (g.H.HoldsGateway.faults c.serve_one_with.new.beside) c.loop-left.invariant.keeping rose

-- nothing more can be taken
pub returns-then-not-is_sound-clause-serves : goal.returns-then-not-is_sound-clause-serves
returns-then-not-is_sound-clause-serves g c = λ told tells past stands. (
  c.args.connections - c.loop-left.left,
  at_most c.args.connections c.loop-left.left,
  c.loop-left.invariant.serves told tells past stands,
  inr (inr (sym c.is_sound.ensures.value ∙ c.if-not-is_sound.true)),
)

pub returns-then-not-is_sound-clause-causes : goal.returns-then-not-is_sound-clause-causes
returns-then-not-is_sound-clause-causes g c = λ told left tells ends past stands logged log.
    counts_end (Rose (g.H.HoldsGateway.faults c.args.beside.now) (g.H.HoldsGateway.faults c.loop-left.beside)) g.H.HoldsGateway.room (g.H.HoldsGateway.held c.args.host.now).gate.setting past told left (g.D.Sink.told c.loop-left.door) (g.D.Sink.beside c.loop-left.door) (g.D.Sink.beside c.loop-left.door) (g.H.HoldsGateway.held c.loop-left.host) logged 0
    (g.D.Sink.faults c.args.door.now) (g.D.Sink.faults c.loop-left.door) (g.D.Sink.faults c.loop-left.door) (g.C.Clock.faults c.args.clock.now) (g.C.Clock.faults c.loop-left.clock)
    (c.loop-left.invariant.counted told tells past stands) refl ends log
    (no_further (g.D.Sink.faults c.args.door.now) (g.D.Sink.faults c.loop-left.door) (g.D.Sink.faults c.loop-left.door) (le_self (g.D.Sink.faults c.loop-left.door)))

pub returns-in-Ok-false-clause-serves : goal.returns-in-Ok-false-clause-serves
returns-in-Ok-false-clause-serves g c = λ told tells past stands. (
  c.args.connections - c.loop-left.left,
  at_most c.args.connections c.loop-left.left,
  serves_end (Rose (g.D.Sink.faults c.args.door.now) (g.D.Sink.faults c.loop-left.door)) (Rose (g.D.Sink.faults c.args.door.now) (g.D.Sink.faults c.next.new.self)) (Rose (g.H.HoldsGateway.faults c.args.beside.now) (g.H.HoldsGateway.faults c.loop-left.beside)) g.H.HoldsGateway.room (g.H.HoldsGateway.held c.args.host.now) (g.H.HoldsGateway.held c.loop-left.host) past told
      (change g.C.Clock.told g.C.Clock.faults c.args.clock.now c.loop-left.clock) (g.D.Sink.told c.loop-left.door) (g.D.Sink.told c.next.new.self) (g.D.Sink.beside c.loop-left.door) (g.D.Sink.beside c.next.new.self)
      (c.args.connections - c.loop-left.left)
      (λ rose. rose-before (g.D.Sink.faults c.args.door.now) (g.D.Sink.faults c.loop-left.door) (g.D.Sink.faults c.next.new.self) rose c.next.ensures.counts.never_falls)
      (c.in-Ok-false.ensures.stays (not_true c.in-Ok-false.field-0 c.in-Ok-false.field-0-test))
      (c.in-Ok-false.ensures.none (ap Ok c.in-Ok-false.field-0-test)).0 (c.loop-left.invariant.serves told tells past stands),
  inr (inl (is_end (g.D.Sink.beside c.loop-left.door) (g.D.Sink.beside c.next.new.self) (c.in-Ok-false.ensures.none (ap Ok c.in-Ok-false.field-0-test)))),
)

pub returns-in-Err-clause-serves : goal.returns-in-Err-clause-serves
returns-in-Err-clause-serves g c = λ told tells past stands. (
  c.args.connections - c.loop-left.left,
  at_most c.args.connections c.loop-left.left,
  serves_end (Rose (g.D.Sink.faults c.args.door.now) (g.D.Sink.faults c.loop-left.door)) (Rose (g.D.Sink.faults c.args.door.now) (g.D.Sink.faults c.next.new.self)) (Rose (g.H.HoldsGateway.faults c.args.beside.now) (g.H.HoldsGateway.faults c.loop-left.beside)) g.H.HoldsGateway.room (g.H.HoldsGateway.held c.args.host.now) (g.H.HoldsGateway.held c.loop-left.host) past told
      (change g.C.Clock.told g.C.Clock.faults c.args.clock.now c.loop-left.clock) (g.D.Sink.told c.loop-left.door) (g.D.Sink.told c.next.new.self) (g.D.Sink.beside c.loop-left.door) (g.D.Sink.beside c.next.new.self)
      (c.args.connections - c.loop-left.left)
      (λ rose. rose-before (g.D.Sink.faults c.args.door.now) (g.D.Sink.faults c.loop-left.door) (g.D.Sink.faults c.next.new.self) rose c.next.ensures.counts.never_falls)
      (c.in-Err.ensures.stays (not_ok c.in-Err.field-0)) c.in-Err.ensures.failed (c.loop-left.invariant.serves told tells past stands),
  tt,
)

pub returns-clause-serves : goal.returns-clause-serves
returns-clause-serves g c = λ told tells past stands. (
  c.args.connections - c.loop-left.left,
  at_most c.args.connections c.loop-left.left,
  c.loop-left.invariant.serves told tells past stands,
  inl (all_served c.args.connections c.loop-left.left c.loop-left-test.false),
)

pub returns-in-Ok-false-clause-causes : goal.returns-in-Ok-false-clause-causes
returns-in-Ok-false-clause-causes g c = λ told left tells ends past stands logged log.
    counts_end (Rose (g.H.HoldsGateway.faults c.args.beside.now) (g.H.HoldsGateway.faults c.loop-left.beside)) g.H.HoldsGateway.room (g.H.HoldsGateway.held c.args.host.now).gate.setting past told left (g.D.Sink.told c.loop-left.door) (g.D.Sink.beside c.loop-left.door) (g.D.Sink.beside c.next.new.self) (g.H.HoldsGateway.held c.loop-left.host) logged 0
    (g.D.Sink.faults c.args.door.now) (g.D.Sink.faults c.loop-left.door) (g.D.Sink.faults c.next.new.self) (g.C.Clock.faults c.args.clock.now) (g.C.Clock.faults c.loop-left.clock)
    (c.loop-left.invariant.counted told tells past stands) (c.in-Ok-false.ensures.none (ap Ok c.in-Ok-false.field-0-test)).0 ends log
    (no_further (g.D.Sink.faults c.args.door.now) (g.D.Sink.faults c.loop-left.door) (g.D.Sink.faults c.next.new.self) c.next.ensures.counts.never_falls)

pub returns-in-Err-clause-causes : goal.returns-in-Err-clause-causes
returns-in-Err-clause-causes g c = λ told left tells ends past stands logged log.
    counts_end (Rose (g.H.HoldsGateway.faults c.args.beside.now) (g.H.HoldsGateway.faults c.loop-left.beside)) g.H.HoldsGateway.room (g.H.HoldsGateway.held c.args.host.now).gate.setting past told left (g.D.Sink.told c.loop-left.door) (g.D.Sink.beside c.loop-left.door) (g.D.Sink.beside c.next.new.self) (g.H.HoldsGateway.held c.loop-left.host) logged 1
    (g.D.Sink.faults c.args.door.now) (g.D.Sink.faults c.loop-left.door) (g.D.Sink.faults c.next.new.self) (g.C.Clock.faults c.args.clock.now) (g.C.Clock.faults c.loop-left.clock)
    (c.loop-left.invariant.counted told tells past stands) c.in-Err.ensures.failed ends log
    (one_further (g.D.Sink.faults c.args.door.now) (g.D.Sink.faults c.loop-left.door) (g.D.Sink.faults c.next.new.self) (c.in-Err.ensures.counts.cause refl) c.next.ensures.counts.never_falls)

pub returns-clause-causes : goal.returns-clause-causes
returns-clause-causes g c = λ told left tells ends past stands logged log.
    counts_end (Rose (g.H.HoldsGateway.faults c.args.beside.now) (g.H.HoldsGateway.faults c.loop-left.beside)) g.H.HoldsGateway.room (g.H.HoldsGateway.held c.args.host.now).gate.setting past told left (g.D.Sink.told c.loop-left.door) (g.D.Sink.beside c.loop-left.door) (g.D.Sink.beside c.loop-left.door) (g.H.HoldsGateway.held c.loop-left.host) logged 0
    (g.D.Sink.faults c.args.door.now) (g.D.Sink.faults c.loop-left.door) (g.D.Sink.faults c.loop-left.door) (g.C.Clock.faults c.args.clock.now) (g.C.Clock.faults c.loop-left.clock)
    (c.loop-left.invariant.counted told tells past stands) refl ends log
    (no_further (g.D.Sink.faults c.args.door.now) (g.D.Sink.faults c.loop-left.door) (g.D.Sink.faults c.loop-left.door) (le_self (g.D.Sink.faults c.loop-left.door)))

pub returns-then-not-is_sound-clause-keeps : goal.returns-then-not-is_sound-clause-keeps
returns-then-not-is_sound-clause-keeps g c = λ told left tells ends past stands logged log first before keeps.
    kept_end (λ (taken failed : List KeptBody). g.H.HoldsGateway.keeps first taken failed c.loop-left.host c.loop-left.beside) before told left (g.D.Sink.told c.loop-left.door) (g.D.Sink.beside c.loop-left.door) (g.D.Sink.beside c.loop-left.door) (g.H.HoldsGateway.held c.loop-left.host) logged
    (c.loop-left.invariant.kept told tells past stands first before keeps) refl ends log

pub returns-in-Ok-false-clause-keeps : goal.returns-in-Ok-false-clause-keeps
returns-in-Ok-false-clause-keeps g c = λ told left tells ends past stands logged log first before keeps.
    kept_end (λ (taken failed : List KeptBody). g.H.HoldsGateway.keeps first taken failed c.loop-left.host c.loop-left.beside) before told left (g.D.Sink.told c.loop-left.door) (g.D.Sink.beside c.loop-left.door) (g.D.Sink.beside c.next.new.self) (g.H.HoldsGateway.held c.loop-left.host) logged
    (c.loop-left.invariant.kept told tells past stands first before keeps) (c.in-Ok-false.ensures.none (ap Ok c.in-Ok-false.field-0-test)).0 ends log

pub returns-in-Err-clause-keeps : goal.returns-in-Err-clause-keeps
returns-in-Err-clause-keeps g c = λ told left tells ends past stands logged log first before keeps.
    kept_end (λ (taken failed : List KeptBody). g.H.HoldsGateway.keeps first taken failed c.loop-left.host c.loop-left.beside) before told left (g.D.Sink.told c.loop-left.door) (g.D.Sink.beside c.loop-left.door) (g.D.Sink.beside c.next.new.self) (g.H.HoldsGateway.held c.loop-left.host) logged
    (c.loop-left.invariant.kept told tells past stands first before keeps) c.in-Err.ensures.failed ends log

pub returns-clause-keeps : goal.returns-clause-keeps
returns-clause-keeps g c = λ told left tells ends past stands logged log first before keeps.
    kept_end (λ (taken failed : List KeptBody). g.H.HoldsGateway.keeps first taken failed c.loop-left.host c.loop-left.beside) before told left (g.D.Sink.told c.loop-left.door) (g.D.Sink.beside c.loop-left.door) (g.D.Sink.beside c.loop-left.door) (g.H.HoldsGateway.held c.loop-left.host) logged
    (c.loop-left.invariant.kept told tells past stands first before keeps) refl ends log
