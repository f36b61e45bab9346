-- What the words of an accepted list say.
use Rattle.std.proofs.Common.{◌≡◌, ◌≢◌, ◌+◌, refl, ap, sym, ◌∙◌, ℕ, ◌<◌, ◌≤◌, ◌&&◌, ℤ, List, [], ◌∷◌, Option, Some, None, length, drop, get_or, slice_get, subst, arith, Bool, true, false, cond}
use Rattle.std.specs.Prelude.{IsSomeAnd, codes, int_le, is_some, nat_eq, nat_le, option_and_then, pos, ◌+ℤ◌, ◌-ℤ◌}
use Rattle.std.specs.Cmp.Lexicographic.{pointwise, same_text}
use Rattle.std.proofs.lemmas.Bool.{true≢false}
use Rattle.std.proofs.lemmas.Bool.Decides.{nat_tests}
use Rattle.std.proofs.lemmas.Cmp.{nat_list_eq_equiv}
use Rattle.std.proofs.lemmas.Int.{ints}
use Rattle.std.proofs.lemmas.Option.{none-some, option_and_then_some, same_Some, slice_get_read, slice_get_within}
use Rattle.command_words.specs.Forms.{beginning, connection_count, day_count, decimal_number, ends_in_time, fewest_stops, first_day, keeps_fewer, kept_count, last_day, minute_count, most_days, most_seed, most_stops, most_trips, number_in, seed_number, stop_count, trip_count, visit_count}
use Rattle.command_words.specs.Tables.{Command, Pair, with_name, ArePairs, IsAccepted}
use Rattle.command_words.specs.Windowed.{CanRun, HasWindow, reads_files}
use Rattle.command_words.specs.Words.{Board, IsJobWith, Job, Says, Make, SaysBoard, SaysMake, SaysScope, SaysServe, SaysShow, SaysToGtfsrt, SaysToSiri, SaysToSiriSx, Scope, Serve, Show, Task, ToGtfsrt, ToSiri, at_pair, board, board_task, commands, connections_pair, feed_pair, gtfsrt_task, keep_pair, listen_pair, make, make_task, max_pair, minutes_pair, no_pair, over_a_folder, serve, serve_job, show, show_task, stop_pair, siri_task, sx_task, task_job, to_gtfsrt, to_siri, to_siri_sx, zone_by}
use Rattle.command_words.proofs.FormLemmas.{beginning_range, cond_then}
use Rattle.command_words.proofs.TableLemmas.{HasPair, pair_of, double}
use Rattle.service_day.specs.Utc.{utc_of}

-- ---- what the words of an accepted list say

some_of : {A : Type 0} (o : Option A) → is_some o ≡ true → (x : A) × (o ≡ Some x)
some_of None h = absurd cc
some_of (Some x) h = (x, refl)

counted : (first : Option ℤ) (days : Option ℕ) → ends_in_time first days ≡ true → (n : ℕ) × (days ≡ Some n)
counted first None h = absurd cc
counted first (Some n) h = (n, refl)

kept : (days kept_days : Option ℕ) → keeps_fewer days kept_days ≡ true → (n : ℕ) × (kept_days ≡ Some n)
kept days None h = absurd cc
kept None (Some n) h = (n, refl)
kept (Some m) (Some n) h = (n, refl)

-- a command that works over a folder
abbrev over_by : List ℕ → List Pair → List Pair → Pair → Command
over_by title further optional repeated = record { name = title; pairs = over_a_folder further; optional = optional; repeated = repeated }

pair_in : (title : List ℕ) (further optional : List Pair) (repeated : Pair) (name : List ℕ) (words : List (List ℕ)) → ArePairs (over_by title further optional repeated) 0 name words
    → (k : ℕ) → k < 4 + length further → HasPair (over_by title further optional repeated) k (name ∷ words) (double k)
pair_in title further optional repeated name words pairs k below = pair_of (over_by title further optional repeated) k k 0 name words (omega arith) (omega (arith, below)) pairs

-- what it works over
scoped : (title : List ℕ) (further optional : List Pair) (repeated : Pair) (name : List ℕ) (words : List (List ℕ)) → ArePairs (over_by title further optional repeated) 0 name words
    → (scope : Scope) × SaysScope (name ∷ words) scope
scoped title further optional repeated name words pairs =
    let pair = pair_in title further optional repeated name words pairs in
    let gtfs = pair 0 (omega arith) in
    let zone = pair 1 (omega arith) in
    let from = pair 2 (omega arith) in
    let days = pair 3 (omega arith) in
    let first = some_of (beginning from.2) from.7 in
    let count = counted (beginning days.0) (day_count days.2) days.7 in (
      record { gtfs = gtfs.2; zone = zone_by zone.1 zone.2; from = first.0; days = count.0 },
      record {
        gtfs = gtfs.5;
        zone = (zone.1, zone.2, zone.4, zone.5, refl);
        from = ap (option_and_then beginning) from.5 ∙ first.1;
        days = ap (option_and_then day_count) days.5 ∙ count.1;
      },
    )

serve_read : (optional : List Pair) (name : List ℕ) (words : List (List ℕ)) → name ≡ codes "serve" → ArePairs (serve optional) 0 name words
    → (command : Serve) × SaysServe (name ∷ words) command
unfolding serve
serve_read optional name words named pairs =
    let scope = scoped (codes "serve") (keep_pair ∷ listen_pair ∷ connections_pair ∷ []) optional no_pair name words pairs in
    let pair = pair_in (codes "serve") (keep_pair ∷ listen_pair ∷ connections_pair ∷ []) optional no_pair name words pairs in
    let keep = pair 4 (omega arith) in
    let listen = pair 5 (omega arith) in
    let connections = pair 6 (omega arith) in
    let days = kept (day_count keep.0) (kept_count keep.2) keep.7 in
    let count = some_of (connection_count connections.2) connections.7 in (
      record { scope = scope.0; keep = days.0; listen = listen.2; connections = count.0; journal = slice_get (name ∷ words) 16 },
      record {
        name = ap Some named;
        scope = scope.1;
        keep = ap (option_and_then kept_count) keep.5 ∙ days.1;
        listen = listen.5;
        connections = ap (option_and_then connection_count) connections.5 ∙ count.1;
        journal = refl;
      },
    )

gtfsrt_read : (name : List ℕ) (words : List (List ℕ)) → name ≡ codes "to-gtfsrt" → ArePairs to_gtfsrt 0 name words
    → (command : ToGtfsrt) × SaysToGtfsrt (name ∷ words) command
unfolding to_gtfsrt
gtfsrt_read name words named pairs =
    let scope = scoped (codes "to-gtfsrt") (at_pair ∷ []) [] to_gtfsrt.repeated name words pairs in
    let at = pair_in (codes "to-gtfsrt") (at_pair ∷ []) [] to_gtfsrt.repeated name words pairs 4 (omega arith) in
    let second = some_of (utc_of at.2) at.7 in (
      record { scope = scope.0; at = second.0; more = drop 11 (name ∷ words) },
      record { name = ap Some named; scope = scope.1; at = ap (option_and_then utc_of) at.5 ∙ second.1; more = refl },
    )

siri_read : (name : List ℕ) (words : List (List ℕ)) → name ≡ codes "to-siri" → ArePairs to_siri 0 name words
    → (command : ToSiri) × SaysToSiri (name ∷ words) command
unfolding to_siri
siri_read name words named pairs =
    let scope = scoped (codes "to-siri") (at_pair ∷ feed_pair ∷ []) [] no_pair name words pairs in
    let pair = pair_in (codes "to-siri") (at_pair ∷ feed_pair ∷ []) [] no_pair name words pairs in
    let at = pair 4 (omega arith) in
    let feed = pair 5 (omega arith) in
    let second = some_of (utc_of at.2) at.7 in (
      record { scope = scope.0; at = second.0; feed = feed.2 },
      record { name = ap Some named; scope = scope.1; at = ap (option_and_then utc_of) at.5 ∙ second.1; feed = feed.5 },
    )

sx_read : (name : List ℕ) (words : List (List ℕ)) → name ≡ codes "to-siri-sx" → ArePairs to_siri_sx 0 name words
    → (command : ToSiri) × SaysToSiriSx (name ∷ words) command
unfolding to_siri_sx
sx_read name words named pairs =
    let scope = scoped (codes "to-siri-sx") (at_pair ∷ feed_pair ∷ []) [] no_pair name words pairs in
    let pair = pair_in (codes "to-siri-sx") (at_pair ∷ feed_pair ∷ []) [] no_pair name words pairs in
    let at = pair 4 (omega arith) in
    let feed = pair 5 (omega arith) in
    let second = some_of (utc_of at.2) at.7 in (
      record { scope = scope.0; at = second.0; feed = feed.2 },
      record { name = ap Some named; scope = scope.1; at = ap (option_and_then utc_of) at.5 ∙ second.1; feed = feed.5 },
    )

show_read : (name : List ℕ) (words : List (List ℕ)) → name ≡ codes "show" → ArePairs show 0 name words
    → (command : Show) × SaysShow (name ∷ words) command
unfolding show
show_read name words named pairs =
    let scope = scoped (codes "show") (feed_pair ∷ []) [] no_pair name words pairs in
    let feed = pair_in (codes "show") (feed_pair ∷ []) [] no_pair name words pairs 4 (omega arith) in (
      record { scope = scope.0; feed = feed.2 },
      record { name = ap Some named; scope = scope.1; feed = feed.5 },
    )

board_read : (name : List ℕ) (words : List (List ℕ)) → name ≡ codes "board" → ArePairs board 0 name words
    → (command : Board) × SaysBoard (name ∷ words) command
unfolding board
board_read name words named pairs =
    let scope = scoped (codes "board") (at_pair ∷ stop_pair ∷ minutes_pair ∷ max_pair ∷ []) [] board.repeated name words pairs in
    let pair = pair_in (codes "board") (at_pair ∷ stop_pair ∷ minutes_pair ∷ max_pair ∷ []) [] board.repeated name words pairs in
    let at = pair 4 (omega arith) in
    let stop = pair 5 (omega arith) in
    let minutes = pair 6 (omega arith) in
    let most = pair 7 (omega arith) in
    let second = some_of (utc_of at.2) at.7 in
    let count = some_of (minute_count minutes.2) minutes.7 in
    let visits = some_of (visit_count most.2) most.7 in (
      record { scope = scope.0; at = second.0; stop = stop.2; minutes = count.0; most = visits.0; more = drop 17 (name ∷ words) },
      record {
        name = ap Some named;
        scope = scope.1;
        at = ap (option_and_then utc_of) at.5 ∙ second.1;
        stop = stop.5;
        minutes = ap (option_and_then minute_count) minutes.5 ∙ count.1;
        most = ap (option_and_then visit_count) most.5 ∙ visits.1;
        more = refl;
      },
    )

make_read : (name : List ℕ) (words : List (List ℕ)) → name ≡ codes "make" → ArePairs make 0 name words
    → (command : Make) × SaysMake (name ∷ words) command
unfolding make
make_read name words named pairs =
    let seed = pair_of make 0 0 0 name words (omega arith) (omega arith) pairs in
    let trips = pair_of make 1 1 0 name words (omega arith) (omega arith) pairs in
    let stops = pair_of make 2 2 0 name words (omega arith) (omega arith) pairs in
    let first = some_of (seed_number seed.2) seed.7 in
    let second = some_of (trip_count trips.2) trips.7 in
    let third = some_of (stop_count stops.2) stops.7 in (
      record { seed = first.0; trips = second.0; stops = third.0 },
      record {
        name = ap Some named;
        seed = ap (option_and_then seed_number) seed.5 ∙ first.1;
        trips = ap (option_and_then trip_count) trips.5 ∙ second.1;
        stops = ap (option_and_then stop_count) stops.5 ∙ third.1;
      },
    )

-- an accepted list can be read
pub read : (optional : List Pair) (words : List (List ℕ)) → IsAccepted (commands optional) words → (job : Job) × Says words job
unfolding commands serve to_gtfsrt to_siri to_siri_sx show board make
read optional [] is = absurd is
read optional (name ∷ words) is =
    by (pointwise nat_eq (codes "serve") name) (pointwise nat_eq (codes "to-gtfsrt") name) (pointwise nat_eq (codes "to-siri") name)
    (pointwise nat_eq (codes "to-siri-sx") name) (pointwise nat_eq (codes "show") name) (pointwise nat_eq (codes "board") name) (pointwise nat_eq (codes "make") name)
    refl refl refl refl refl refl refl is
  where
    by : (s a b x c d m : Bool) → pointwise nat_eq (codes "serve") name ≡ s → pointwise nat_eq (codes "to-gtfsrt") name ≡ a
        → pointwise nat_eq (codes "to-siri") name ≡ b → pointwise nat_eq (codes "to-siri-sx") name ≡ x
        → pointwise nat_eq (codes "show") name ≡ c → pointwise nat_eq (codes "board") name ≡ d → pointwise nat_eq (codes "make") name ≡ m
        → IsSomeAnd (cond s (Some (serve optional)) (cond a (Some to_gtfsrt) (cond b (Some to_siri) (cond x (Some to_siri_sx)
        (cond c (Some show) (cond d (Some board) (cond m (Some make) None))))))) (λ command. ArePairs command 0 name words)
        → (job : Job) × Says (name ∷ words) job
    by true a b x c d m es ea eb ex ec ed em pairs =
        let found = serve_read optional name words (sym (same_text _ _ (sym es))) pairs in
        (serve_job found.0, found.1)
    by false true b x c d m es ea eb ex ec ed em pairs =
        let found = gtfsrt_read name words (sym (same_text _ _ (sym ea))) pairs in
        (task_job (gtfsrt_task found.0), found.1)
    by false false true x c d m es ea eb ex ec ed em pairs =
        let found = siri_read name words (sym (same_text _ _ (sym eb))) pairs in
        (task_job (siri_task found.0), found.1)
    by false false false true c d m es ea eb ex ec ed em pairs =
        let found = sx_read name words (sym (same_text _ _ (sym ex))) pairs in
        (task_job (sx_task found.0), found.1)
    by false false false false true d m es ea eb ex ec ed em pairs =
        let found = show_read name words (sym (same_text _ _ (sym ec))) pairs in
        (task_job (show_task found.0), found.1)
    by false false false false false true m es ea eb ex ec ed em pairs =
        let found = board_read name words (sym (same_text _ _ (sym ed))) pairs in
        (task_job (board_task found.0), found.1)
    by false false false false false false true es ea eb ex ec ed em pairs =
        let found = make_read name words (sym (same_text _ _ (sym em))) pairs in
        (task_job (make_task found.0), found.1)
    by false false false false false false false es ea eb ex ec ed em pairs = absurd pairs

-- ---- which command a list is by its name

name_differs : {a b : List ℕ} (name : Option (List ℕ)) → name ≡ Some a → name ≡ Some b → pointwise nat_eq a b ≡ false → ⊥
name_differs {a} {b} name here there differ =
    let same : a ≡ b = same_Some a b (sym here ∙ there) in
    true≢false (sym (nat_list_eq_equiv.refl a) ∙ ap (pointwise nat_eq a) same ∙ differ)

-- words of `serve` are those of no other command
pub not_both : (words : List (List ℕ)) (command : Serve) (task : Task) → Says words (serve_job command) → Says words (task_job task) → ⊥
not_both words command (gtfsrt_task other) is and = name_differs (slice_get words 0) is.name and.name refl
not_both words command (siri_task other) is and = name_differs (slice_get words 0) is.name and.name refl
not_both words command (sx_task other) is and = name_differs (slice_get words 0) is.name and.name refl
not_both words command (show_task other) is and = name_differs (slice_get words 0) is.name and.name refl
not_both words command (board_task other) is and = name_differs (slice_get words 0) is.name and.name refl
not_both words command (make_task other) is and = name_differs (slice_get words 0) is.name and.name refl

-- and words of `make` are those of a command that reads no files
pub reads_none : (words : List (List ℕ)) (task : Task) (command : Make) → Says words (task_job task) → Says words (task_job (make_task command)) → reads_files task ≡ false
reads_none words (gtfsrt_task other) command is and = absurd (name_differs (slice_get words 0) is.name and.name refl)
reads_none words (siri_task other) command is and = absurd (name_differs (slice_get words 0) is.name and.name refl)
reads_none words (sx_task other) command is and = absurd (name_differs (slice_get words 0) is.name and.name refl)
reads_none words (show_task other) command is and = absurd (name_differs (slice_get words 0) is.name and.name refl)
reads_none words (board_task other) command is and = absurd (name_differs (slice_get words 0) is.name and.name refl)
reads_none words (make_task other) command is and = refl

-- a first word that is there and is `board`
named_board : (words : List (List ℕ)) (first name : List ℕ) → first ≡ get_or words 0 first → first ≡ codes "board" → slice_get words 0 ≡ Some name
    → slice_get words 0 ≡ Some (codes "board")
named_board words first name at is has = slice_get_read words _ 0 _ refl (slice_get_within words 0 _ has) at ∙ ap Some is

-- words that can be read, of which the first is `board`, say what that command does
pub board_said : (words : List (List ℕ)) (first : List ℕ) → first ≡ get_or words 0 first → first ≡ codes "board" → (job : Job) × Says words job
    → (command : Board) × SaysBoard words command
board_said words first at is (serve_job command, says) = absurd (name_differs (slice_get words 0) says.name (named_board words first _ at is says.name) refl)
board_said words first at is (task_job (gtfsrt_task command), says) = absurd (name_differs (slice_get words 0) says.name (named_board words first _ at is says.name) refl)
board_said words first at is (task_job (siri_task command), says) = absurd (name_differs (slice_get words 0) says.name (named_board words first _ at is says.name) refl)
board_said words first at is (task_job (sx_task command), says) = absurd (name_differs (slice_get words 0) says.name (named_board words first _ at is says.name) refl)
board_said words first at is (task_job (show_task command), says) = absurd (name_differs (slice_get words 0) says.name (named_board words first _ at is says.name) refl)
board_said words first at is (task_job (board_task command), says) = (command, says)
board_said words first at is (task_job (make_task command), says) = absurd (name_differs (slice_get words 0) says.name (named_board words first _ at is says.name) refl)

-- what is read at a place where a value is known to be is the value
pub read_at : {A : Type 0} (f : List ℕ → Option A) (words : List (List ℕ)) (k : ℕ) (known value : A) (word : List ℕ)
    → option_and_then f (slice_get words k) ≡ Some known → word ≡ get_or words k word → f word ≡ Some value
    → option_and_then f (slice_get words k) ≡ Some value
read_at f words k known value word is there found = ap (option_and_then f) (at_place (slice_get words k) refl is) ∙ found
  where
    at_place : (o : Option (List ℕ)) → slice_get words k ≡ o → option_and_then f o ≡ Some known → slice_get words k ≡ Some word
    at_place None e h = absurd (none-some known h)
    at_place (Some w) e h = slice_get_read words (length words) k word refl (slice_get_within words k w e) there

-- ---- the window of an accepted list

-- its first day and its last one are in time
windowed : (title : List ℕ) (further optional : List Pair) (repeated : Pair) (name : List ℕ) (words : List (List ℕ)) (scope : Scope) → ArePairs (over_by title further optional repeated) 0 name words
    → SaysScope (name ∷ words) scope
    → (int_le first_day scope.from ≡ true) × (int_le (scope.from +ℤ pos scope.days -ℤ pos 1) last_day ≡ true)
windowed title further optional repeated name words scope pairs is =
    let days = pair_in title further optional repeated name words pairs 3 (omega arith) in
    let first : beginning days.0 ≡ Some scope.from = sym (ap (option_and_then beginning) days.3) ∙ is.from in
    let count : day_count days.2 ≡ Some scope.days = sym (ap (option_and_then day_count) days.5) ∙ is.days in
    ((beginning_range days.0 scope.from first).0, rw (first, count) at days.7)

-- the pairs of an accepted list of that name
named_pairs : (optional : List Pair) (known : List ℕ) (command : Command) (name : List ℕ) (words : List (List ℕ)) → with_name (commands optional) known ≡ Some command
    → IsAccepted (commands optional) (name ∷ words) → Some name ≡ Some known → ArePairs command 0 name words
named_pairs optional known command name words found is e =
    subst (λ (o : Option Command). IsSomeAnd o (λ command. ArePairs command 0 name words)) found
    (subst (λ n. IsSomeAnd (with_name (commands optional) n) (λ command. ArePairs command 0 name words)) (same_Some _ _ e) is)

in_range : (least most : ℕ) (word : Option (List ℕ)) (value : ℕ) → option_and_then (number_in least most) word ≡ Some value → (least ≤ value) × (value ≤ most)
in_range least most word value is =
    option_and_then_some (number_in least most) word value is (λ text found counted.
    option_and_then_some _ (decimal_number text) value counted (λ n number few.
    let both : ((nat_le least n && nat_le n most) ≡ true) × (Some n ≡ Some value) = cond_then _ _ value few in
    let range = both.0 in
    subst (λ d. (least ≤ d) × (d ≤ most)) (same_Some n value both.1) (grind (arith, nat_tests, range), grind (arith, nat_tests, range))))

-- and it can be made
has_window : (title : List ℕ) (further optional : List Pair) (repeated : Pair) (name : List ℕ) (words : List (List ℕ)) (scope : Scope) → ArePairs (over_by title further optional repeated) 0 name words
    → SaysScope (name ∷ words) scope → HasWindow scope.from scope.days
has_window title further optional repeated name words scope pairs is =
    let both = windowed title further optional repeated name words scope pairs is in
    let first = both.0 in
    let last = both.1 in
    let count : (1 ≤ scope.days) × (scope.days ≤ 32) = in_range 1 most_days (slice_get (name ∷ words) 8) scope.days is.days in
    let some = count.0 in
    record {
      some_days = count.0;
      few_days = count.1;
      first_in = (grind (arith, ints), grind (arith, ints));
      last_in = (grind (arith, ints), grind (arith, ints));
    }

-- a server has one
pub serves : (optional : List Pair) (words : List (List ℕ)) (command : Serve) → IsJobWith optional words (serve_job command) → HasWindow command.scope.from command.scope.days
unfolding commands serve to_gtfsrt to_siri to_siri_sx show board make
serves optional [] command is = absurd is.accepted
serves optional (name ∷ words) command is =
    has_window (codes "serve") (keep_pair ∷ listen_pair ∷ connections_pair ∷ []) optional no_pair name words command.scope
    (named_pairs optional (codes "serve") (serve optional) name words refl is.accepted is.says.name) is.says.scope

-- and the other commands can be carried out
pub can_run : (optional : List Pair) (words : List (List ℕ)) (task : Task) → IsJobWith optional words (task_job task) → CanRun task
unfolding commands serve to_gtfsrt to_siri to_siri_sx show board make
can_run optional [] task is = absurd is.accepted
can_run optional (name ∷ words) (gtfsrt_task command) is =
    has_window (codes "to-gtfsrt") (at_pair ∷ []) [] to_gtfsrt.repeated name words command.scope
    (named_pairs optional (codes "to-gtfsrt") to_gtfsrt name words refl is.accepted is.says.name) is.says.scope
can_run optional (name ∷ words) (siri_task command) is =
    has_window (codes "to-siri") (at_pair ∷ feed_pair ∷ []) [] no_pair name words command.scope
    (named_pairs optional (codes "to-siri") to_siri name words refl is.accepted is.says.name) is.says.scope
can_run optional (name ∷ words) (sx_task command) is =
    has_window (codes "to-siri-sx") (at_pair ∷ feed_pair ∷ []) [] no_pair name words command.scope
    (named_pairs optional (codes "to-siri-sx") to_siri_sx name words refl is.accepted is.says.name) is.says.scope
can_run optional (name ∷ words) (show_task command) is =
    has_window (codes "show") (feed_pair ∷ []) [] no_pair name words command.scope
    (named_pairs optional (codes "show") show name words refl is.accepted is.says.name) is.says.scope
can_run optional (name ∷ words) (board_task command) is =
    has_window (codes "board") (at_pair ∷ stop_pair ∷ minutes_pair ∷ max_pair ∷ []) [] board.repeated name words command.scope
    (named_pairs optional (codes "board") board name words refl is.accepted is.says.name) is.says.scope
can_run optional (name ∷ words) (make_task command) is = record {
  seed_in = (in_range 0 most_seed (slice_get (name ∷ words) 2) command.seed is.says.seed).1;
  some_trip = trips.0;
  trips_in = trips.1;
  two_stops = stops.0;
  stops_in = stops.1;
}
  where
    trips : (1 ≤ command.trips) × (command.trips ≤ 20000)
    trips = in_range 1 most_trips (slice_get (name ∷ words) 4) command.trips is.says.trips

    stops : (2 ≤ command.stops) × (command.stops ≤ 100)
    stops = in_range fewest_stops most_stops (slice_get (name ∷ words) 6) command.stops is.says.stops
