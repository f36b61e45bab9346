-- The entity is made of its parts, field by field.
use Rattle.std.proofs.Common.{rules, subst, sym}
use Rattle.feed_reading.specs.Meaning.{IsText}
use Rattle.feed_reading.proofs.quick.feeds.EntityParts.add_to.Goals as goal

pub returns : goal.returns
returns c = (
  _,
  c.in_ok-push.ensures.added,
  λ fields known. record {
    id = subst (IsText 1 fields) (sym c.in_ok-required_text.ensures) known.id;
    is_deleted = rw c.as_bool.ensures (search rules);
    trip_update = c.in_ok-read_found.ensures 3 fields known.trip_update;
    alert = c.in_ok-read_found-2.ensures 5 fields known.alert;
  },
)
