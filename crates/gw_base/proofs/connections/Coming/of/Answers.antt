-- One connection more has one input more, and is as it was opened.
use Rattle.std.proofs.Common.{◌≡◌, ◌++◌, ◌∷◌, [], ◌∙◌, ap, sym, List, ℕ}
use Rattle.std.proofs.lemmas.List.{map_push}
use Rattle.std.proofs.lemmas.List.Elements.{All-push}
use Rattle.gw_base.specs.DoorInMemory.{Open, opened}
use Rattle.gw_base.proofs.connections.Coming.of.Goals as goal

pub loop-input-preserved : goal.loop-input-preserved
loop-input-preserved c =
    let room = c.args.room in
    let before = c.loop-input.connections.items in
    let added = c.in_ok-new.field-0 in
    let fresh : added ≡ opened room c.in-Some.input = c.in_ok-new.ensures in
    let of_input : added.input ≡ c.in-Some.input = ap (λ (held : Open). held.input) fresh in
    record {
      inputs = rw c.in_ok-push_back.ensures.items (map_push (λ (held : Open). held.input) before added
          ∙ ap (λ (inputs : List (List ℕ)). inputs ++ added.input ∷ []) c.loop-input.invariant.inputs
          ∙ ap (λ (input : List ℕ). c.loop-input.yielded ++ input ∷ []) of_input);
      fresh = rw c.in_ok-push_back.ensures.items (All-push (λ (held : Open). held ≡ opened room held.input)
          before added
          c.loop-input.invariant.fresh
          (fresh ∙ ap (opened room) (sym of_input)));
    }
