-- What the types of the reading show.
use Rattle.std.specs.Prelude.{List, map, Option, option_map}
use Rattle.siri_calls.specs.Journeys.{Call, Header}
use Rattle.siri_calls.specs.declared.calls.Call as the_call
use Rattle.siri_calls.specs.declared.header.Header as the_header

-- a call as it is read
abbrev pub call_of : the_call.Call → Call
call_of one = record {
  stop = one.stop.now;
  order = one.order;
  skip = one.skip;
  arrival = one.arrival;
  departure = one.departure;
}

-- all of them; none stands for an extra call
abbrev pub calls_of : List (Option the_call.Call) → List (Option Call)
calls_of all = map (option_map call_of) all

-- what an item says before its calls
abbrev pub header_of : the_header.Header → Header
header_of head = record {
  at = (head.at.secs, head.at.nanos);
  day = head.day;
  trip_id = head.trip_id.now;
  cancelled = head.cancelled;
  extra = head.extra;
}
