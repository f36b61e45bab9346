-- How a number and a field are written: always the shortest spelling (protobuf encoding, "Base 128 Varints" and
-- "Message Structure").
use Rattle.std.specs.Prelude.{ℕ, zero, suc, ◌+◌, ◌*◌, ◌/◌, ◌%◌, List, [], ◌∷◌, ◌++◌, length, nat_lt, if◌then◌else◌}

-- a number in at most so many bytes: seven bits a byte, the least first, with 128 added to each byte but the last
unfoldable pub seven_bits_each : ℕ → ℕ → List ℕ
seven_bits_each zero number = []
seven_bits_each (suc most) number =
    if nat_lt number 128 then number ∷ [] else (number % 128 + 128) ∷ seven_bits_each most (number / 128)

-- the shortest spelling of a number below 2^64: ten bytes are enough
unfoldable pub varint : ℕ → List ℕ
varint number = seven_bits_each 10 number

-- a field that holds a number: its tag, which is the field number and the type 0, and the value
abbrev pub varint_field : ℕ → ℕ → List ℕ
varint_field number value = varint (number * 8) ++ varint value

-- a field that holds bytes: its tag, which is the field number and the type 2, the length, and the bytes
abbrev pub bytes_field : ℕ → List ℕ → List ℕ
bytes_field number body = varint (number * 8 + 2) ++ varint (length body) ++ body
