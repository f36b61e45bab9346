use Rattle.std.proofs.Common.{get_or, refl, arith}
use Rattle.std.proofs.lemmas.List.{take_rest}
use Rattle.wire_fields.proofs.Scans.{scan_none, scan_more, scan_last, scan_cut, scan_long}
use Rattle.wire_fields.proofs.item.read_long_varint.Goals as goal

pub loop-i-init : goal.loop-i-init
loop-i-init c = scan_none c.args.bytes.now

pub returns-then-i-bytes : goal.returns-then-i-bytes
returns-then-i-bytes c = scan_cut c.args.bytes.now c.loop-i.i c.loop-i.value c.loop-i.invariant (omega arith) (omega arith)

pub bounds-bytes-i : goal.bounds-bytes-i
bounds-bytes-i c = omega (arith, c.loop-i.invariant.within)

pub returns-then-byte-lt128 : goal.returns-then-byte-lt128
returns-then-byte-lt128 c =
    let bytes = c.args.bytes.now in
    rw take_rest (scan_last bytes c.loop-i.i c.loop-i.value (get_or bytes c.loop-i.i 0) c.from.result c.loop-i.invariant c.loop-i-test.true (omega (arith, c.loop-i.invariant.within)) refl c.if-byte-lt128.true c.from.ensures)

pub loop-i-preserved : goal.loop-i-preserved
loop-i-preserved c =
    let bytes = c.args.bytes.now in
    scan_more bytes c.loop-i.i c.loop-i.value (get_or bytes c.loop-i.i 0) c.from.result c.loop-i.invariant c.loop-i-test.true (omega (arith, c.loop-i.invariant.within)) refl c.if-byte-lt128.false c.from.ensures

pub returns : goal.returns
returns c = scan_long c.args.bytes.now c.loop-i.i c.loop-i.value c.loop-i.invariant (omega arith)
