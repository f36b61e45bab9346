-- the bytes so far stand as they are
use Rattle.std.proofs.Common.{◌≡◌, IsTrue, take}
use Rattle.json.specs.Print.{escape}
use Rattle.siri_json.proofs.writing.are_plain.Given as goal

abbrev pub invariant-loop-byte : goal.invariant-loop-byte
invariant-loop-byte l = IsTrue l.plain → escape (take l.byte-index l.text) ≡ take l.byte-index l.text
