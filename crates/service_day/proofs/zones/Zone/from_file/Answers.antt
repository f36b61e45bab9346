use Rattle.std.proofs.Common.{rules}
use Rattle.service_day.specs.Zones.{IsBadTable}
use Rattle.service_day.specs.declared.zones.Rules.TheVariants.{Table}
use Rattle.service_day.proofs.ZoneLemmas.{never_both}
use Rattle.service_day.proofs.zones.Zone.from_file.Goals as goal

pub returns-in-Ok-clause-never_refused : goal.returns-in-Ok-clause-never_refused
returns-in-Ok-clause-never_refused c =
    λ _ bad. never_both c.args.bytes.now (Table c.in-Ok.table) (c.in-Ok.ensures.value, c.in-Ok.ensures.agrees) bad

pub returns-in-Err-clause-never_taken : goal.returns-in-Err-clause-never_taken
returns-in-Err-clause-never_taken c =
    let bad : IsBadTable c.args.bytes.now = search rules in λ _ zone taken. never_both c.args.bytes.now zone taken bad
