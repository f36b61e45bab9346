use Rattle.std.proofs.Common.{◌≡◌, ◌+◌, ◌-◌, ◌++◌, ◌<◌, take, length, get_or, arith}
use Rattle.wire_fields.proofs.Chains.{scanned_cut, scanned_last, scanned_more, taken_one}
use Rattle.wire_fields.proofs.top.chain.read_chain.Goals as goal

pub returns-then-place-bytes-clause-chains : goal.returns-then-place-bytes-clause-chains
returns-then-place-bytes-clause-chains c = λ begun h.
    let i = c.loop-i.i in
    let bytes = c.args.bytes.now in
    (omega (arith, c.if-place-bytes.true, c.requires.some), scanned_cut i c.loop-i.value (begun ++ take (i - c.args.chain.count) bytes) (c.loop-i.invariant.scanned begun h) (omega arith))

pub returns-then-byte-lt128-clause-chains : goal.returns-then-byte-lt128-clause-chains
returns-then-byte-lt128-clause-chains c = λ begun h.
    let i = c.loop-i.i in
    let bytes = c.args.bytes.now in
    let place = i - c.args.chain.count in
    let lt : place < length bytes = omega (arith, c.loop-i.invariant.within) in
    rw (taken_one begun bytes place lt) (scanned_last i c.loop-i.value (get_or bytes place 0) c.from.result (begun ++ take place bytes) (c.loop-i.invariant.scanned begun h) (omega arith) c.if-byte-lt128.true c.from.ensures)

pub loop-i-preserved : goal.loop-i-preserved
loop-i-preserved c =
    let i = c.loop-i.i in
    let bytes = c.args.bytes.now in
    let place = i - c.args.chain.count in
    let lt : place < length bytes = omega (arith, c.loop-i.invariant.within) in
    let next : i + 1 - c.args.chain.count ≡ place + 1 = omega arith in
    record {
      within = omega (arith, c.loop-i.invariant.within);
      scanned = λ begun h. rw (next, taken_one begun bytes place lt) (scanned_more i c.loop-i.value (get_or bytes place 0) c.from.result (begun ++ take place bytes) (c.loop-i.invariant.scanned begun h) (omega arith) c.if-byte-lt128.false c.from.ensures);
    }
