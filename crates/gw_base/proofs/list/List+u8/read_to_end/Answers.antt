-- What was there is still there.
use Rattle.std.proofs.Common.{◌++◌, ◌∙◌, sym, ap, length, drop, List, ℕ}
use Rattle.std.proofs.lemmas.List.{take-append-drop}
use Rattle.gw_base.proofs.list.List+u8.read_to_end.Goals as goal

pub returns-clause-after : goal.returns-clause-after
returns-clause-after g c =
    let was = c.self.view_is in
    let now = c.read_to_end.new.buf.items in
    (drop (length c.args.self.now) now, sym (take-append-drop (length c.args.self.now) now) ∙ ap (λ (front : List ℕ). front ++ drop (length c.args.self.now) now) (rw was at c.read_to_end.ensures.appends))
