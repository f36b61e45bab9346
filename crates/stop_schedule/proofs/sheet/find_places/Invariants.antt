use Rattle.std.proofs.Common.{◌≡◌, ◌++◌, drop}
use Rattle.gw_base.specs.Chains.{ok_map}
use Rattle.stop_schedule.specs.Layout.{columns}
use Rattle.stop_schedule.specs.Sheet.{places_of}
use Rattle.stop_schedule.proofs.sheet.find_places.Given as goal

-- the places so far, and those of the columns that follow, are all
abbrev pub invariant-loop-column : goal.invariant-loop-column
invariant-loop-column l =
    places_of l.file l.rows.row (columns l.file)
    ≡ ok_map (λ later. l.places.items ++ later) (places_of l.file l.rows.row (drop l.column-index l.column-items))
