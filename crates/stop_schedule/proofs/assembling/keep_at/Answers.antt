-- The id of a trip that is carried is one, and is new.
use Rattle.std.proofs.Common.{◌≡◌, ◌∙◌, true, false, [], get_or, sym}
use Rattle.std.proofs.lemmas.Bool.{false≢true}
use Rattle.timetable.specs.Ids.{has_id, is_id}
use Rattle.stop_schedule.proofs.CarryingLemmas.{found_at}
use Rattle.timetable.proofs.IdLemmas.{and-left, id-at}
use Rattle.stop_schedule.proofs.assembling.keep_at.Goals as goal

pub prove-unreachable-requires : goal.prove-unreachable-requires
prove-unreachable-requires c =
    let ids = c.args.ids.now in
    let id = c.at.result.now in
    let is : get_or ids c.args.place [] ≡ id = found_at ids c.args.place id c.at.ensures.value in
    let sound : is_id id ≡ true = id-at ids c.args.place id (and-left _ _ c.len.ensures.ids) c.at.ensures.value in
    let lacks : has_id id c.args.kept.now ≡ false = rw is at c.requires.new in
    let added : c.in_ok-added.added ≡ true =
    rw (c.as_bytes.ensures.value, sound, lacks) at c.in_ok-added.ensures.added in
    false≢true (sym c.if-prove.true ∙ added)

pub returns : goal.returns
returns c =
    let ids = c.args.ids.now in
    let id = c.at.result.now in
    let is : get_or ids c.args.place [] ≡ id = found_at ids c.args.place id c.at.ensures.value in
    let sound : is_id id ≡ true = id-at ids c.args.place id (and-left _ _ c.len.ensures.ids) c.at.ensures.value in
    let lacks : has_id id c.args.kept.now ≡ false = rw is at c.requires.new in
    let added : c.in_ok-added.added ≡ true =
    rw (c.as_bytes.ensures.value, sound, lacks) at c.in_ok-added.ensures.added in
    let flag : get_or c.args.carried.now c.args.place false ≡ true =
    sym c.is_carried_at.ensures ∙ c.if-not-is_carried_at.false in
    rw (flag, is) (rw (added, c.as_bytes.ensures.value) at c.in_ok-added.ensures.ids)
