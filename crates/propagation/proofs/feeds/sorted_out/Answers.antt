use Rattle.std.proofs.Common.{◌∙◌, List, None, Some, Ok, Err, length, reverse, sym, ap, arith}
use Rattle.std.proofs.lemmas.List.{append-nil}
use Rattle.journey_model.specs.FeedReadings.{aside_all, given_all, last_of_each, passed_count}
use Rattle.journey_model.specs.declared.readings.DatedReading.{DatedReading}
use Rattle.propagation.proofs.FeedLemmas.{Said, said_to, sorted_none, sorted_more, sorted_all, passed-most}
use Rattle.propagation.proofs.feeds.sorted_out.Goals as goal
use Rattle.propagation.proofs.feeds.sorted_out.Goals.{in-None, in-Some-Ok+in_ok-push-in-Some-Ok, in-Some-Err+in_ok-push-in-Some-Err}

pub overflow_add-passed : goal.overflow_add-passed
overflow_add-passed c =
    let so_far = c.loop-number.invariant in
    omega (
      arith,
      so_far.passed_is,
      so_far.many,
      passed-most (said_to c.args.context.now c.args.feed.now c.loop-number.number),
    )

pub loop-number-init : goal.loop-number-init
loop-number-init c =
    rw (c.new-given.ensures.empty, c.new-aside.ensures.empty)
    (sorted_none c.args.context.now c.args.feed.now)

pub loop-number-preserved : goal.loop-number-preserved
loop-number-preserved c =
    let schedule = c.args.context.now in
    let so_far = c.loop-number.invariant in
    let number = c.loop-number.number in
    let within = rw c.as_slice-entity-items.ensures.same at c.loop-number-test.true in
    let is = rw c.as_slice-entity-items.ensures.same at c.entity-item.is in
    elim c.match-branch-2.branch [
      | in-None w ↦
          sorted_more schedule c.args.feed.now number c.loop-number.given c.match-branch-2.given c.loop-number.passed
          c.match-branch-2.passed c.loop-number.aside c.match-branch-2.aside
          c.entity-item.result None so_far within is (sym w.in-None.is ∙ c.in_ok-read_entity.ensures)
          (w.given-is ∙ sym (append-nil c.loop-number.given)) w.passed-is
          (w.aside-is ∙ sym (append-nil c.loop-number.aside))
      | in-Some-Ok+in_ok-push-in-Some-Ok w ↦
          sorted_more schedule c.args.feed.now number c.loop-number.given c.match-branch-2.given c.loop-number.passed
          c.match-branch-2.passed c.loop-number.aside c.match-branch-2.aside
          c.entity-item.result (Some (Ok w.in-Some-Ok.reading)) so_far within is
          (ap (λ said. Some said) (sym w.in-Some-Ok.field-0-is)
          ∙ (sym w.in-Some-Ok.is ∙ c.in_ok-read_entity.ensures))
          (w.given-is ∙ w.in_ok-push-in-Some-Ok.ensures.added) (w.passed-is ∙ omega arith)
          (w.aside-is ∙ sym (append-nil c.loop-number.aside))
      | in-Some-Err+in_ok-push-in-Some-Err w ↦
          sorted_more schedule c.args.feed.now number c.loop-number.given c.match-branch-2.given c.loop-number.passed
          c.match-branch-2.passed c.loop-number.aside c.match-branch-2.aside
          c.entity-item.result (Some (Err w.in-Some-Err.fault)) so_far within is
          (ap (λ said. Some said) (sym w.in-Some-Err.field-0-is)
          ∙ (sym w.in-Some-Err.is ∙ c.in_ok-read_entity.ensures))
          (w.given-is ∙ sym (append-nil c.loop-number.given)) (w.passed-is ∙ omega arith)
          (w.aside-is ∙ w.in_ok-push-in-Some-Err.ensures.added)
    ]

pub returns : goal.returns
returns c =
    let so_far = c.loop-number.invariant in
    let all = sorted_all c.args.context.now c.args.feed.now c.loop-number.number
    (rw c.as_slice-entity-items.ensures.same at c.loop-number-test.false) in
    record {
      last = c.in_ok-last_of_each.ensures
          ∙ ap (λ (given : List DatedReading). reverse (last_of_each given))
          (so_far.given_is ∙ ap (λ (said : List Said). given_all said) all);
      taken = c.len-taken.ensures.value
          ∙ (ap length so_far.given_is ∙ ap (λ (said : List Said). length (given_all said)) all);
      passed = so_far.passed_is ∙ ap passed_count all;
      aside = so_far.aside_is ∙ ap aside_all all;
    }
