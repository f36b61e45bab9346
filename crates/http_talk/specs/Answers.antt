-- The head of an answer (RFC 9112, section 4; RFC 9110, sections 8.3, 8.6, 10.2.1 and 15).
use Rattle.std.specs.Prelude.{ℕ, List, [], ◌∷◌, ◌++◌, codes, decimal}
use Rattle.http_talk.specs.declared.answer.Answer.{Answer}
use Rattle.http_talk.specs.declared.answer.Answer.TheVariants.{Feed, Json, Refused}
use Rattle.http_talk.specs.Statuses.{Status, status_of}
use Rattle.http_talk.specs.declared.refusal.Allow.TheVariants.{GetPost, Post}
use Rattle.http_talk.specs.declared.refusal.Refusal.{Refusal}
use Rattle.http_talk.specs.declared.refusal.Refusal.TheVariants.{Head, Cut, Length, NotFound, Method, NeedLength, TooLarge, TooManyFields, Clock, Journal, JournalFull, Memory, Body}

-- a line, which ends in CR LF
abbrev pub line : List ℕ → List ℕ
line text = text ++ 13 ∷ 10 ∷ []

-- the status
abbrev pub status : Answer → Status
status Feed = record { code = 200; reason = codes "OK" }
status Json = record { code = 200; reason = codes "OK" }
status (Refused refusal) = status_of refusal

-- the type of the body
abbrev pub content_type : Answer → List ℕ
content_type Feed = codes "application/x-protobuf"
content_type Json = codes "application/json"
content_type (Refused refusal) = codes "text/plain; charset=utf-8"

-- the methods that a target has, of a refusal for its method alone
abbrev pub allow_of : Refusal → List ℕ
allow_of (Method GetPost) = line (codes "Allow: GET, POST")
allow_of (Method Post) = line (codes "Allow: POST")
allow_of Head = []
allow_of Cut = []
allow_of Length = []
allow_of NotFound = []
allow_of NeedLength = []
allow_of TooLarge = []
allow_of TooManyFields = []
allow_of Clock = []
allow_of Journal = []
allow_of JournalFull = []
allow_of Memory = []
allow_of (Body fault) = []

abbrev pub allow_line : Answer → List ℕ
allow_line Feed = []
allow_line Json = []
allow_line (Refused refusal) = allow_of refusal

-- a head of these parts: each line of a name, a colon and a space, and the value
abbrev pub head_text : Status → List ℕ → ℕ → List ℕ → List ℕ
head_text status content_type size allow =
    line (codes "HTTP/1.1 " ++ decimal status.code ++ codes " " ++ status.reason)
    ++ line (codes "Content-Type: " ++ content_type)
    ++ line (codes "Content-Length: " ++ decimal size)
    ++ allow
    ++ line (codes "Connection: close")
    ++ line []

-- the head of an answer whose body has so many bytes
abbrev pub answer_head : Answer → ℕ → List ℕ
answer_head answer size = head_text (status answer) (content_type answer) size (allow_line answer)
