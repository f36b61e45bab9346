-- What the bytes of a journal's file hold. A file is the 8 bytes `GWJRNL01`, and then records. A record is a gate, one
-- byte, and behind it a byte of the kind (1 a delivery of estimated timetables, 2 one of situations, 3 a feed), the
-- moment in 8 bytes, the body's length in 4, both with the greatest byte first, and the body. Gate 0 is closed and
-- ends the list; any other is open.
use Rattle.std.specs.Prelude.{◌==◌, ◌&&◌, ◌+◌, ℕ, zero, suc, ℤ, pos, nat_le, if◌then◌else◌, List, [], ◌∷◌, length, take, drop, codes, slice_index, Option, Some, None, option_map, option_and_then, Result, Ok, Err}
use Rattle.std.specs.Int.{w32, w64, from_be_bytes}
use Rattle.std.specs.Option.{option_map_or}
use Rattle.std.specs.Str.{bytes_eq}
use Rattle.gw_base.specs.Limits.{body_limit, last_moment}
use Rattle.gw_base.specs.Chains.{ok_map}
use Rattle.gw_base.specs.declared.kind.Kind.{Kind}
use Rattle.gw_base.specs.declared.kind.Kind.TheVariants.{Estimated, Situations, Feed}
use Rattle.delivery_journal.specs.declared.header.Header.{Header}
use Rattle.delivery_journal.specs.declared.open_fault.OpenFault.{OpenFault}
use Rattle.delivery_journal.specs.declared.open_fault.OpenFault.TheVariants.{NotJournal, Damaged}

-- a body that a journal keeps, with its kind and its moment, in seconds since 1970
pub record KeptBody : Type 0 where
  pub kind : Kind
  pub moment : ℤ
  pub body : List ℕ

-- the bytes with which a journal begins
abbrev pub magic : List ℕ
magic = codes "GWJRNL01"

-- the kind that a byte names
abbrev pub kind_of : ℕ → Option Kind
kind_of byte =
    if byte == 1 then Some Estimated else if byte == 2 then Some Situations else if byte == 3 then Some Feed else None

-- behind an open gate: the moment, and the body's length
abbrev pub moment_of : List ℕ → ℕ
moment_of bytes = from_be_bytes w64 (take 8 (drop 1 bytes))

abbrev pub length_of : List ℕ → ℕ
length_of bytes = from_be_bytes w32 (take 4 (drop 9 bytes))

abbrev pub named_header : List ℕ → Kind → Header
named_header bytes kind = record { kind = kind; moment = pos (moment_of bytes); count = length_of bytes }

-- the header with which these bytes begin: none where no kind has that byte, or the moment or the length is out of
-- range
unfoldable pub header_of : List ℕ → Option Header
header_of bytes =
    if nat_le (moment_of bytes) last_moment && nat_le (length_of bytes) body_limit
    then option_map (named_header bytes) (kind_of (slice_index bytes 0)) else None

-- the body behind this header, where it ends inside the file
abbrev pub body_behind : List ℕ → Header → Option KeptBody
body_behind bytes header =
    if nat_le (13 + header.count) (length bytes)
    then Some (record { kind = header.kind; moment = header.moment; body = take header.count (drop 13 bytes) })
    else None

-- the record that stands behind an open gate, up to the file's end: none where it isn't whole
unfoldable pub record_of : List ℕ → Option KeptBody
record_of bytes = option_and_then (body_behind bytes) (header_of bytes)

-- the bodies of the open records, in their order, and the place of the closed gate behind them
pub record Found : Type 0 where
  pub bodies : List KeptBody
  pub end : ℕ

-- with a body before them; the first fault counts
abbrev pub with_first : KeptBody → Result Found OpenFault → Result Found OpenFault
with_first kept (Ok found) = Ok (record { bodies = kept ∷ found.bodies; end = found.end })
with_first kept (Err fault) = Err fault

-- What is found from a gate's place `at` on, which stands so many bytes (`skip`) behind the first of these, up to the
-- file's end. The file is damaged at the first gate that isn't in it, or that is open with no whole record behind it.
abbrev pub found_from : ℕ → ℕ → List ℕ → Result Found OpenFault
found_from skip at [] = Err (Damaged at)
found_from (suc skip) at (byte ∷ bytes) = found_from skip at bytes
found_from zero at (gate ∷ bytes) =
    if gate == 0 then Ok (record { bodies = []; end = at })
    else option_map_or
    (λ (kept : KeptBody). with_first kept (found_from (13 + length kept.body) (at + 14 + length kept.body) bytes))
    (record_of bytes) (Err (Damaged at))

-- what is found in a file
abbrev pub found : List ℕ → Result Found OpenFault
found file = if bytes_eq (take 8 file) magic then found_from 0 8 (drop 8 file) else Err NotJournal

-- what a file holds: a file of at most 9 bytes, which may be one that was being made, holds nothing
abbrev pub kept : List ℕ → Result (List KeptBody) OpenFault
kept file = if nat_le (length file) 9 then Ok [] else ok_map (λ (all : Found). all.bodies) (found file)

-- how many bytes the records of these bodies have, each with its gate
abbrev pub size_of : List KeptBody → ℕ
size_of [] = 0
size_of (first ∷ rest) = 14 + length first.body + size_of rest

-- the place of the gate behind these bodies, of which the first stands at the beginning of the list
abbrev pub place_after : List KeptBody → ℕ
place_after bodies = 8 + size_of bodies
