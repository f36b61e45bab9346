use Rattle.std.proofs.Common.{List, ℕ, Result, ◌++◌, map, take}
use Rattle.std.specs.List.{flat_map}
use Rattle.gw_base.specs.declared.member.Member.{Member}
use Rattle.journey_model.specs.declared.fault.Fault.{Fault}
use Rattle.journey_model.specs.declared.situation.Situation.{Situation}
use Rattle.siri_json.specs.Frame.{repeated_under}
use Rattle.siri_situations.specs.Shown.{seen}
use Rattle.siri_situations.specs.Situations.{verdict}
use Rattle.siri_situations.proofs.delivery.take_groups.Given as goal

abbrev pub invariant-loop-group : goal.invariant-loop-group
invariant-loop-group g l =
    (first : g.row.T.Denot) (earlier : List (Result (Situation × ℕ) Fault)) → g.T.TakesSituations.has_taken l.context first l.fn.taker earlier
    → g.T.TakesSituations.has_taken l.context first l.taker
    (earlier ++ map (verdict l.context) (flat_map (repeated_under Member.PtSituationElement) (map seen (take l.group-index l.groups))))
