-- the text so far and the items that are left are the whole
use Rattle.std.proofs.Common.{◌≡◌, ◌++◌, drop}
use Rattle.std.specs.Prelude.{codes}
use Rattle.std.specs.List.{flat_map}
use Rattle.gateway_core.specs.Taking.{aside_json}
use Rattle.gateway_core.proofs.report_text.add_others.Given as goal

abbrev pub invariant-loop-number : goal.invariant-loop-number
invariant-loop-number l =
    l.text ++ flat_map (λ one. codes "," ++ aside_json one) (drop l.number-index l.others)
    ≡ l.fn.text ++ flat_map (λ one. codes "," ++ aside_json one) l.others
