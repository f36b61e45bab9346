-- Each stop adds its line.
use Rattle.show_command.proofs.StopLemmas.{line_more, lines_done}
use Rattle.show_command.proofs.stop_lines.add_stops.Goals as goal

pub loop-position-preserved : goal.loop-position-preserved
loop-position-preserved c =
    line_more c.args.table.now.stops c.args.name.now c.loop-position.lines c.add_stop.new.lines _ c.stop_id-stop_id.result.now c.args.stops.now c.args.readings.now c.loop-position.position _ _
    c.loop-position.invariant c.loop-position-test.true c.requires.each c.stop_id-stop_id.ensures.value c.in_ok-add_stop.ensures

pub returns : goal.returns
returns c =
    lines_done c.args.table.now.stops c.args.name.now c.loop-position.lines _ c.args.stops.now c.args.readings.now c.loop-position.position c.loop-position.invariant c.loop-position-test.false
