-- What the tables of the code say.
use Rattle.std.specs.Prelude.{◌&&◌, ◌++◌, Bool, List, length, map, nat_lt}
use Rattle.std.specs.List.{list_all}
use Rattle.command_words.specs.Forms.{is_connection_count, is_day, is_day_count, is_filled, is_kept_count, is_minute_count, is_moment, is_seed, is_stop_count, is_trip_count, is_visit_count}
use Rattle.command_words.specs.Tables as table
use Rattle.command_words.specs.Tables.{Form}
use Rattle.command_words.specs.declared.words.forms.Form as declared
use Rattle.command_words.specs.declared.words.forms.Form.TheVariants as form
use Rattle.command_words.specs.declared.words.table.Pair.{Pair}
use Rattle.command_words.specs.declared.words.table.Command.{Command}

-- a form, a pair and a command of the code's table, as the definitions have them
abbrev pub form_of : declared.Form → Form
form_of form.Filled = is_filled
form_of form.Day = is_day
form_of form.DayCount = is_day_count
form_of form.KeptCount = is_kept_count
form_of form.ConnectionCount = is_connection_count
form_of form.Moment = is_moment
form_of form.Seed = is_seed
form_of form.TripCount = is_trip_count
form_of form.StopCount = is_stop_count
form_of form.MinuteCount = is_minute_count
form_of form.VisitCount = is_visit_count

abbrev pub pair_of : Pair → table.Pair
pair_of pair = record { flags = map (λ flag. flag.now) pair.flags.now; form = form_of pair.form }

abbrev pub row_of : Command → table.Command
row_of command =
    record {
      name = command.name.now;
      pairs = map pair_of command.pairs.now;
      optional = map pair_of command.optional.now;
      repeated = pair_of command.repeated;
    }

-- the pair has a flag
abbrev pub has_flag : Pair → Bool
has_flag pair = nat_lt 0 (length pair.flags.now)

-- there is a command, and each pair has a flag: what a table owes, since each form can be met
abbrev pub have_flags : List Command → Bool
have_flags commands =
    nat_lt 0 (length commands)
    && list_all (λ command. list_all has_flag (command.pairs.now ++ command.optional.now)) commands
