-- What a request head asks for (RFC 9110, sections 5.1, 5.6.1, 8.6, 9 and 15.5; RFC 9112, sections 3 and 6).
use Rattle.std.specs.Prelude.{◌≡◌, ℕ, ◌+◌, ◌<◌, ◌≤◌, Bool, ◌&&◌, ◌==◌, nat_le, not, if◌then◌else◌, List, [], ◌∷◌, length, map, filter, Result, Ok, Err, codes}
use Rattle.std.specs.List.{list_all, list_any, before_first}
use Rattle.std.specs.Str.{bytes_eq, str_eq_ignore_ascii_case}
use Rattle.std.specs.Str.Parse.{digits_value}
use Rattle.std.specs.Char.{is_ascii_digit}
use Rattle.gw_base.specs.Limits.{body_limit}
use Rattle.httparse.specs.Grammar.{RequestHead, ReadsRequest}
use Rattle.httparse.specs.Spans.{name_and_value}
use Rattle.gw_base.specs.declared.kind.Kind.TheVariants as kind
use Rattle.http_talk.specs.declared.target.Action.{Action}
use Rattle.http_talk.specs.declared.target.Action.TheVariants.{Get, Post}
use Rattle.http_talk.specs.declared.target.Resource.TheVariants as resource
use Rattle.http_talk.specs.declared.target.Target.{Target}
use Rattle.http_talk.specs.declared.target.Target.TheVariants.{EtPost, EtGet, SxPost, RtPost, RtGet}
use Rattle.http_talk.specs.declared.target.Head.{Head}
use Rattle.http_talk.specs.declared.refusal.Allow.TheVariants as allow
use Rattle.http_talk.specs.declared.refusal.Refusal.{Refusal}
use Rattle.http_talk.specs.declared.refusal.Refusal.TheVariants as refusal
use Rattle.http_talk.specs.Ends.{line_count}

-- the target up to its first `?`
abbrev pub path_of : List ℕ → List ℕ
path_of target = before_first (λ byte. byte == 63) target

-- what a method asks for at a path that has GET and POST
abbrev pub get_or_post : List ℕ → Target → Target → Result Target Refusal
get_or_post method get post =
    if bytes_eq method (codes "GET") then Ok get
    else (if bytes_eq method (codes "POST") then Ok post else Err (refusal.Method allow.GetPost))

-- and at one that has POST alone
abbrev pub post_alone : List ℕ → Target → Result Target Refusal
post_alone method post = if bytes_eq method (codes "POST") then Ok post else Err (refusal.Method allow.Post)

-- what a method asks for at a path; the path comes first
abbrev pub target_of : List ℕ → List ℕ → Result Target Refusal
target_of method path =
    if bytes_eq path (codes "/gtfs-rt") then get_or_post method RtGet RtPost
    else (if bytes_eq path (codes "/siri/et") then get_or_post method EtGet EtPost
    else (if bytes_eq path (codes "/siri/sx") then post_alone method SxPost
    else Err refusal.NotFound))

-- the header line has the name, in any case
abbrev pub is_named : List ℕ → List ℕ × List ℕ → Bool
is_named name field = str_eq_ignore_ascii_case field.0 name

-- the values of the header lines with the name, without the blanks round them
abbrev pub values_of : List ℕ → List (List ℕ × List ℕ) → List (List ℕ)
values_of name fields = map (λ field. field.1) (filter (is_named name) fields)

-- one decimal digit or more
abbrev pub is_number : List ℕ → Bool
is_number text = not (length text == 0) && list_all is_ascii_digit text

-- a body's length, which is at most 16,777,216 bytes
abbrev pub limited : ℕ → Result ℕ Refusal
limited size = if nat_le size body_limit then Ok size else Err refusal.TooLarge

-- the length that the values give: each is the same text of digits
abbrev pub length_said : List (List ℕ) → Result ℕ Refusal
length_said [] = Err refusal.NeedLength
length_said (value ∷ others) =
    if is_number value && list_all (bytes_eq value) others then limited (digits_value 10 value) else Err refusal.Length

-- the body's length; a transfer coding isn't read
abbrev pub length_of : List (List ℕ × List ℕ) → Result ℕ Refusal
length_of fields =
    if list_any (is_named (codes "transfer-encoding")) fields then Err refusal.NeedLength
    else length_said (values_of (codes "content-length") fields)

-- what a request does at a target: it gets what is served there, or posts a body of a kind
abbrev pub action_of : Target → Action
action_of EtPost = Post kind.Estimated
action_of EtGet = Get resource.Timetable
action_of SxPost = Post kind.Situations
action_of RtPost = Post kind.Feed
action_of RtGet = Get resource.Feed

-- what is asked, once the length is known
abbrev pub with_length : Target → Result ℕ Refusal → Result Head Refusal
with_length target (Ok size) = Ok (record { target = target; length = size })
with_length target (Err why) = Err why

-- what is asked by an action at a target; of a GET no body is read
abbrev pub with_action : Action → Target → List (List ℕ × List ℕ) → Result Head Refusal
with_action (Get resource) target fields = Ok (record { target = target; length = 0 })
with_action (Post kind) target fields = with_length target (length_of fields)

-- what is asked, once the target is known
abbrev pub with_target : Target → List (List ℕ × List ℕ) → Result Head Refusal
with_target target fields = with_action (action_of target) target fields

abbrev pub with_fields : Result Target Refusal → List (List ℕ × List ℕ) → Result Head Refusal
with_fields (Ok target) fields = with_target target fields
with_fields (Err why) fields = Err why

-- what a head of this method, this target and these header lines asks for
abbrev pub asked : List ℕ → List ℕ → List (List ℕ × List ℕ) → Result Head Refusal
asked method target fields = with_fields (target_of method (path_of target)) fields

abbrev pub asked_by : RequestHead → Result Head Refusal
asked_by head = asked head.method head.target (map name_and_value head.fields)

-- the bytes are no request head of the grammar
abbrev pub IsNoHead : List ℕ → Type 0
IsNoHead bytes = (head : RequestHead) → ¬ (ReadsRequest bytes head [])

-- what a head's bytes ask for; that at most 64 lines stand between the request line and the empty line is tested first
pub data IsAnswer (bytes : List ℕ) (answer : Result Head Refusal) : Type 0 where
  many_lines : 64 + 2 < line_count bytes → answer ≡ Err refusal.TooManyFields → IsAnswer bytes answer
  no_head : line_count bytes ≤ 64 + 2 → IsNoHead bytes → answer ≡ Err refusal.Head → IsAnswer bytes answer
  asks : line_count bytes ≤ 64 + 2 → (head : RequestHead) → ReadsRequest bytes head [] → answer ≡ asked_by head
      → IsAnswer bytes answer
