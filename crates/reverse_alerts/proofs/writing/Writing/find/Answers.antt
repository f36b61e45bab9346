-- How many are named, and how many are passed over.
use Rattle.std.proofs.Common.{◌∙◌, ◌-◌, length, ap, arith}
use Rattle.timetable.specs.Seen.{seen}
use Rattle.reverse_alerts.specs.Kept.{all_named}
use Rattle.reverse_alerts.specs.Progress.{with_passed}
use Rattle.reverse_alerts.proofs.NamingLemmas.{count_is, few_named}
use Rattle.reverse_alerts.proofs.writing.Writing.find.Goals as goal

pub count-named-requires : goal.count-named-requires
count-named-requires c =
    let is = rw c.as_slice.ensures.same at c.in_ok-find_named.ensures in
    omega (arith, few_named (seen c.args.table.now) c.args.alert.now.selectors c.find_named.new.found is, c.len-all.ensures.value)

pub returns-clause-named : goal.returns-clause-named
returns-clause-named c =
    let is = rw c.as_slice.ensures.same at c.in_ok-find_named.ensures in
    c.count-named.ensures ∙ count_is c.find_named.new.found (all_named (seen c.args.table.now) c.args.alert.now.selectors) is

pub returns-clause-report : goal.returns-clause-report
returns-clause-report c =
    let is = rw c.as_slice.ensures.same at c.in_ok-find_named.ensures in
    let all = all_named (seen c.args.table.now) c.args.alert.now.selectors in
    let named = c.count-named.ensures ∙ count_is c.find_named.new.found all is in
    c.pass.ensures
    ∙ ap (λ n. with_passed n c.args.self.now.report)
    (c.passed_over.ensures ∙ ap (λ n. n - c.count-named.result) c.len-all.ensures.value ∙ ap (λ n. length c.args.alert.now.selectors - n) named)
