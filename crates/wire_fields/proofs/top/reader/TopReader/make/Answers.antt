use Rattle.std.proofs.Common.{[], refl}
use Rattle.wire_fields.proofs.Broken.{nothing_walked}
use Rattle.wire_fields.proofs.top.reader.TopReader.make.Goals as goal

pub returns-clause-stands : goal.returns-clause-stands
returns-clause-stands c = (
  refl,
  record {
    front = [];
    run = [];
    tail = [];
    fields = [];
    joined = refl;
    read = refl;
    place = refl;
    walked = rw c.none.ensures.none nothing_walked;
    ends = refl;
  },
)
