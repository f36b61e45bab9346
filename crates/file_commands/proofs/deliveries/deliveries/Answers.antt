-- What arrived of the words so far, and what the words left say after it.
use Rattle.std.proofs.Common.{◌∙◌, arith}
use Rattle.file_commands.proofs.DeliveryLemmas.{ends_with, goes_on, none_left}
use Rattle.file_commands.proofs.deliveries.deliveries.Goals as goal

pub loop-flag-preserved : goal.loop-flag-preserved
loop-flag-preserved g c =
    let held = c.loop-flag.invariant in
    let took = rw (held.same, c.as_str.ensures.same, c.as_str-in-Some.ensures.same) at c.in-Ok.ensures.told in
    let more = rw c.as_str-in-Some-2.ensures.same at c.in_ok-add_report.ensures in
    record {
      stands = c.in-Ok.ensures.stands held.stands;
      arrived = goes_on (g.F.Files.told c.args.files.now) c.args.gate.now.setting c.loop-flag.gate.setting c.args.at c.args.words.now c.loop-flag.rest.now c.in-Some.after.now c.in-Some.flag.now c.in-Some.name.now
          c.loop-flag.gate c.file_taken.new.gate c.loop-flag.so_far c.add_report.new.so_far c.in-Ok.report held.setting c.in-Some.ensures more held.arrived took;
      counts = let falls = c.file_taken.ensures.counts.never_falls in let before = held.counts in omega (arith, falls, before);
      same = c.file_taken.ensures.same ∙ held.same;
      setting = c.file_taken.ensures.setting ∙ held.setting;
    }

pub returns-in-Err-clause-told : goal.returns-in-Err-clause-told
returns-in-Err-clause-told g c =
    let held = c.loop-flag.invariant in
    let took = rw (held.same, c.as_str.ensures.same, c.as_str-in-Some.ensures.same) at c.in-Err.ensures.told in
    ends_with (g.F.Files.told c.args.files.now) c.args.gate.now.setting c.loop-flag.gate.setting c.args.at c.args.words.now c.loop-flag.rest.now c.in-Some.after.now c.in-Some.flag.now c.in-Some.name.now
    c.loop-flag.gate c.file_taken.new.gate c.loop-flag.so_far c.in-Err.end held.setting c.in-Some.ensures held.arrived took

pub returns-clause-told : goal.returns-clause-told
returns-clause-told g c =
    none_left (g.F.Files.told c.args.files.now) c.args.gate.now.setting c.args.at c.args.words.now c.loop-flag.rest.now c.loop-flag.gate c.loop-flag.so_far c.in_default.ensures c.loop-flag.invariant.arrived
