-- What the bytes come to means what `ScanMeans` says.
use Rattle.std.proofs.Common.{◌∙◌, ap, sym, subst}
use Rattle.http_talk.specs.Places as places
use Rattle.http_talk.proofs.Scans.{scan_means}
use Rattle.http_talk.proofs.place.look_on.Goals as goal

pub returns : goal.returns
returns c = λ before calm at.
    subst (λ s. places.ScanMeans before 0 c.args.bytes.now s)
    (ap (λ p. places.scanned p 0 c.args.bytes.now) at ∙ sym c.moved.ensures)
    (scan_means before 0 c.args.bytes.now calm)
