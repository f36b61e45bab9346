-- The forms of members in JSON after SIRI Lite. Null, an empty text and an empty array count as missing.
use Rattle.std.specs.Prelude.{◌&&◌, ℕ, ℤ, Bool, true, false, nat_le, nat_lt, ◌^◌, List, [], ◌∷◌, length, codes, Option, Some, None, if◌then◌else◌}
use Rattle.std.specs.Char.{is_ascii_digit}
use Rattle.std.specs.List.{list_all}
use Rattle.std.specs.Str.{bytes_eq}
use Rattle.service_day.specs.DayTexts.{day_of}
use Rattle.service_day.specs.Moments as moments
use Rattle.service_day.specs.declared.days.DayForm.TheVariants.{Either}
use Rattle.service_day.specs.declared.zones.Rules.{Rules}
use Rattle.timetable.specs.Digits.{digits_value}
use Rattle.serde_json.specs.Data.{Data, null, boolean, number, string, array, object, Num, unsigned, negative, float, Items, no_items, item}
use Rattle.serde_json.specs.Find.{get_member}
use Rattle.siri_json.specs.declared.forms.Form.{Form}
use Rattle.siri_json.specs.declared.forms.Form.TheVariants.{Missing, Wrong, Found}

-- the form of what is made of a value that was found
abbrev pub then_form : {A B : Type 0} → Form A → (A → Form B) → Form B
then_form Missing next = Missing
then_form Wrong next = Wrong
then_form (Found value) next = next value

-- a value that a text must name, if it does
abbrev pub found_or_wrong : {A : Type 0} → Option A → Form A
found_or_wrong None = Wrong
found_or_wrong (Some value) = Found value

-- a text that isn't empty
abbrev pub filled : List ℕ → Form (List ℕ)
filled [] = Missing
filled (byte ∷ bytes) = Found (byte ∷ bytes)

-- the text under `value` in an object
abbrev pub text_under_value : Option Data → Form (List ℕ)
text_under_value None = Missing
text_under_value (Some null) = Missing
text_under_value (Some (boolean b)) = Wrong
text_under_value (Some (number n)) = Wrong
text_under_value (Some (string text)) = filled text
text_under_value (Some (array no_items)) = Missing
text_under_value (Some (array (item first others))) = Wrong
text_under_value (Some (object parts)) = Wrong

-- a string, or an object whose `value` is a string
abbrev pub plain_text : Data → Form (List ℕ)
plain_text null = Missing
plain_text (boolean b) = Wrong
plain_text (number n) = Wrong
plain_text (string text) = filled text
plain_text (array items) = Wrong
plain_text (object parts) = text_under_value (get_member (codes "value") parts)

-- a Text: one of these, or an array whose first item is one of these
abbrev pub text : Data → Form (List ℕ)
text null = Missing
text (boolean b) = Wrong
text (number n) = Wrong
text (string s) = plain_text (string s)
text (array no_items) = Missing
text (array (item first others)) = plain_text first
text (object parts) = plain_text (object parts)

-- a Flag: a Boolean, or a Text among `true`, `1`, `false` and `0`
abbrev pub flag_named : List ℕ → Form Bool
flag_named t =
    if bytes_eq t (codes "true") then Found true else
    (if bytes_eq t (codes "1") then Found true else
    (if bytes_eq t (codes "false") then Found false else
    (if bytes_eq t (codes "0") then Found false else Wrong)))

abbrev pub text_flag : Data → Form Bool
text_flag tree = then_form (text tree) flag_named

abbrev pub flag : Data → Form Bool
flag null = Missing
flag (boolean b) = Found b
flag (number n) = Wrong
flag (string s) = text_flag (string s)
flag (array items) = text_flag (array items)
flag (object parts) = text_flag (object parts)

-- a Whole: a number in decimal digits alone, or a Text of 1 to 20 decimal digits, below 2^64
abbrev pub whole_named : List ℕ → Form ℕ
whole_named t =
    if nat_le 1 (length t) && (nat_le (length t) 20
    && (list_all is_ascii_digit t && nat_lt (digits_value 0 t) (2 ^ 64)))
    then Found (digits_value 0 t) else Wrong

abbrev pub whole_number : Num → Form ℕ
whole_number (unsigned n) = Found n
whole_number (negative z) = Wrong
whole_number (float x) = Wrong

abbrev pub text_whole : Data → Form ℕ
text_whole tree = then_form (text tree) whole_named

abbrev pub whole : Data → Form ℕ
whole null = Missing
whole (boolean b) = Wrong
whole (number n) = whole_number n
whole (string s) = text_whole (string s)
whole (array items) = text_whole (array items)
whole (object parts) = text_whole (object parts)

-- a moment's Text in a zone, as seconds since 1970 and nanoseconds; and a day's, dashed or compact
abbrev pub moment : Rules → Data → Form (ℤ × ℕ)
moment zone tree = then_form (text tree) (λ t. found_or_wrong (moments.moment_of zone t))

abbrev pub day : Data → Form ℤ
day tree = then_form (text tree) (λ t. found_or_wrong (day_of Either t))

-- an object
abbrev pub object_form : Data → Form Data
object_form null = Missing
object_form (boolean b) = Wrong
object_form (number n) = Wrong
object_form (string []) = Missing
object_form (string (byte ∷ bytes)) = Wrong
object_form (array no_items) = Missing
object_form (array (item first others)) = Wrong
object_form (object parts) = Found (object parts)

-- the items of a repeated element, which is an array or one item
abbrev pub listed : Items → List Data
listed no_items = []
listed (item tree items) = tree ∷ listed items

abbrev pub repeated : Data → List Data
repeated null = []
repeated (boolean b) = boolean b ∷ []
repeated (number n) = number n ∷ []
repeated (string []) = []
repeated (string (byte ∷ bytes)) = string (byte ∷ bytes) ∷ []
repeated (array items) = listed items
repeated (object parts) = object parts ∷ []

abbrev pub is_object : Data → Bool
is_object null = false
is_object (boolean b) = false
is_object (number n) = false
is_object (string s) = false
is_object (array items) = false
is_object (object parts) = true

-- a repeated element whose items must be objects; none where it is missing
abbrev pub objects : Data → Form (List Data)
objects tree = if list_all is_object (repeated tree) then Found (repeated tree) else Wrong
