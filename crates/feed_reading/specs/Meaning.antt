-- What bytes mean as a message: one rule for each kind of field, which holds for all messages (protobuf encoding, "Last
-- One Wins", "Optional", "Repeated Elements"; protobuf language guide, scalar values and default values).
use Rattle.std.specs.Prelude.{◌≡◌, ◌==◌, ◌%◌, ◌^◌, ℕ, ℤ, List, [], ◌∷◌, Bool, false, not, ⊤, Option, Some, None, option_map, unwrap_or, if◌then◌else◌, IsUtf8}
use Rattle.std.specs.List.{filter_map, last_or, concat, AllByRecursion, AllZip}
use Rattle.std.specs.Int.{w32, w64, cast_signed}
use Rattle.wire_fields.specs.Grammar.{Payload, Varint, Fixed64, Bytes, Group, Fixed32, WireField, AreFields}

-- the number, or the bytes, that a field holds
abbrev pub number_in : Payload → Option ℕ
number_in (Varint value) = Some value
number_in (Fixed64 value) = None
number_in (Bytes body) = None
number_in Group = None
number_in (Fixed32 value) = None

abbrev pub body_in : Payload → Option (List ℕ)
body_in (Varint value) = None
body_in (Fixed64 value) = None
body_in (Bytes body) = Some body
body_in Group = None
body_in (Fixed32 value) = None

-- what all fields of a field number hold, in order; one of another wire type is skipped
abbrev pub payloads : {X : Type 0} → (Payload → Option X) → ℕ → List WireField → List X
payloads what number fields = filter_map (λ field. if field.number == number then what field.payload else None) fields

abbrev pub numbers : ℕ → List WireField → List ℕ
numbers number fields = payloads number_in number fields

abbrev pub bodies : ℕ → List WireField → List (List ℕ)
bodies number fields = payloads body_in number fields

-- a number: that of the last field, if there is one. Of 32 bits it is the low 32 bits; a signed one is in two's
-- complement
abbrev pub IsUint64 : ℕ → List WireField → Option ℕ → Type 0
IsUint64 number fields value = value ≡ last_or None (numbers number fields)

abbrev pub IsUint32 : ℕ → List WireField → Option ℕ → Type 0
IsUint32 number fields value = value ≡ option_map (λ n. n % 2 ^ 32) (last_or None (numbers number fields))

abbrev pub IsInt64 : ℕ → List WireField → Option ℤ → Type 0
IsInt64 number fields value = value ≡ option_map (cast_signed w64) (last_or None (numbers number fields))

abbrev pub IsInt32 : ℕ → List WireField → Option ℤ → Type 0
IsInt32 number fields value =
    value ≡ option_map (λ n. cast_signed w32 (n % 2 ^ 32)) (last_or None (numbers number fields))

-- an enum has its default where it is missing, and a number that the schema doesn't define is kept
abbrev pub IsEnum : ℕ → ℤ → List WireField → ℤ → Type 0
IsEnum number default fields value =
    value ≡ unwrap_or (option_map (λ n. cast_signed w32 (n % 2 ^ 32)) (last_or None (numbers number fields))) default

-- a bool is true where the number isn't 0, and false where it is missing
abbrev pub IsBool : ℕ → List WireField → Bool → Type 0
IsBool number fields value =
    value ≡ unwrap_or (option_map (λ n. not (n == 0)) (last_or None (numbers number fields))) false

-- a text: that of the last field, if there is one; each is UTF-8
abbrev pub IsText : ℕ → List WireField → Option (List ℕ) → Type 0
IsText number fields text = AllByRecursion IsUtf8 (bodies number fields) × (text ≡ last_or None (bodies number fields))

-- bytes that mean a message: they are a list of fields, of which the message's table holds
pub record Means {M : Type 0} (Table : List WireField → M → Type 0) (bytes : List ℕ) (message : M) : Type 0 where
  pub fields : List WireField
  pub read : AreFields bytes fields
  pub table : Table fields message

-- an embedded message: what all its bodies mean, one after the other, if there is one
abbrev pub IsJoined : {M : Type 0} → (List WireField → M → Type 0) → List (List ℕ) → Option M → Type 0
IsJoined Table [] None = ⊤
IsJoined Table [] (Some message) = ⊥
IsJoined Table (body ∷ others) None = ⊥
IsJoined Table (body ∷ others) (Some message) = Means Table (concat (body ∷ others)) message

-- each body is a list of fields by itself
abbrev pub AreBodies : List (List ℕ) → Type 0
AreBodies bodies = AllByRecursion (λ body. (fields : List WireField) × AreFields body fields) bodies

abbrev pub IsMessage : {M : Type 0} → (List WireField → M → Type 0) → ℕ → List WireField → Option M → Type 0
IsMessage Table number fields message = AreBodies (bodies number fields) × IsJoined Table (bodies number fields) message

-- messages that repeat: what each body means, in order
abbrev pub AreMessages : {M : Type 0} → (List WireField → M → Type 0) → ℕ → List WireField → List M → Type 0
AreMessages Table number fields messages = AllZip (Means Table) (bodies number fields) messages
