-- The texts of refusals: the status, the refusal's name, and its arguments, each after a space, numbers in decimal.
use Rattle.std.specs.Prelude.{ℕ, List, ◌++◌, codes, decimal}
use Rattle.gw_base.specs.Member.{member_name}
use Rattle.gw_base.specs.Required.{required_name}
use Rattle.gw_base.specs.declared.wire_kind.WireKind.{WireKind}
use Rattle.gw_base.specs.declared.wire_kind.WireKind.TheVariants.{Truncated, LongVarint, BadTag, BadGroup, DeepGroup}
use Rattle.http_talk.specs.Statuses.{status_of}
use Rattle.http_talk.specs.declared.refusal.BodyFault.{BodyFault}
use Rattle.http_talk.specs.declared.refusal.BodyFault.TheVariants.{NotJson, NotDelivery, Wire, MissingField, NotText, EntityTooLong, Differential, TooManyCalls}
use Rattle.http_talk.specs.declared.refusal.Refusal.{Refusal}
use Rattle.http_talk.specs.declared.refusal.Refusal.TheVariants.{Head, Cut, Length, NotFound, Method, NeedLength, TooLarge, TooManyFields, Clock, Journal, JournalFull, Memory, Body}

-- the name of a kind of break in protobuf's encoding
abbrev pub kind_name : WireKind → List ℕ
kind_name Truncated = codes "Truncated"
kind_name LongVarint = codes "LongVarint"
kind_name BadTag = codes "BadTag"
kind_name BadGroup = codes "BadGroup"
kind_name DeepGroup = codes "DeepGroup"

-- the text of a body's fault
abbrev pub fault_text : BodyFault → List ℕ
fault_text NotJson = codes "NotJson"
fault_text (NotDelivery member) = codes "NotDelivery " ++ member_name member
fault_text (Wire at kind) = codes "Wire " ++ decimal at ++ codes " " ++ kind_name kind
fault_text (MissingField at field) = codes "MissingField " ++ decimal at ++ codes " " ++ required_name field
fault_text (NotText at) = codes "NotText " ++ decimal at
fault_text (EntityTooLong at) = codes "EntityTooLong " ++ decimal at
fault_text Differential = codes "Differential"
fault_text (TooManyCalls count) = codes "TooManyCalls " ++ decimal count

-- the words of a refusal: its name, or the fault of the body
abbrev pub refusal_words : Refusal → List ℕ
refusal_words Head = codes "Head"
refusal_words Cut = codes "Cut"
refusal_words Length = codes "Length"
refusal_words NotFound = codes "NotFound"
refusal_words (Method allow) = codes "Method"
refusal_words NeedLength = codes "NeedLength"
refusal_words TooLarge = codes "TooLarge"
refusal_words TooManyFields = codes "TooManyFields"
refusal_words Clock = codes "Clock"
refusal_words Journal = codes "Journal"
refusal_words JournalFull = codes "JournalFull"
refusal_words Memory = codes "Memory"
refusal_words (Body fault) = fault_text fault

-- the body of a refusal's answer: `H`, the status and the words, and LF
abbrev pub refusal_text : Refusal → List ℕ
refusal_text refusal =
    codes "H" ++ decimal (status_of refusal).code ++ codes " " ++ refusal_words refusal ++ codes "\n"
