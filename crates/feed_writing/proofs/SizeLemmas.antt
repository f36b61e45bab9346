-- Parts that are counted and written one after the other.
use Rattle.std.proofs.Common.{◌≡◌, ℕ, ◌+◌, ◌<◌, ◌≤◌, List, [], ◌∷◌, ◌++◌, length, length-append, take, get_or, append_assoc, ap, ◌∙◌, arith}
use Rattle.std.proofs.lemmas.List.{append-nil, take_more}
use Rattle.std.proofs.lemmas.List.Concat.{flat_map-append}
use Rattle.std.proofs.lemmas.List.Folds.{length-flat_map-take}
use Rattle.std.specs.List.{flat_map}
use Rattle.gw_base.specs.Written.{Written}
use Rattle.feed_writing.specs.Sizes.{Appends}

-- what is written in two steps
pub appends_both : {old between new : Written} {a b : List ℕ} → Appends old between a → Appends between new b
    → Appends old new (a ++ b)
appends_both {old} {between} {new} {a} {b} h k =
    record {
      joined = k.joined ∙ ap (λ (l : List ℕ). l ++ b) h.joined ∙ append_assoc old.bytes a b;
      room = omega (arith, length-append a b, h.room, k.room);
    }

-- one more of the parts that a list gives
pub one_part_more : {X : Type 0} (f : X → List ℕ) (xs : List X) (i : ℕ) (d : X) → i < length xs
    → flat_map f (take (i + 1) xs) ≡ flat_map f (take i xs) ++ f (get_or xs i d)
one_part_more f xs i d within =
    ap (flat_map f) (take_more xs i d within) ∙ flat_map-append f (take i xs) (get_or xs i d ∷ [])
    ∙ ap (λ (l : List ℕ). flat_map f (take i xs) ++ l) (append-nil (f (get_or xs i d)))

-- there is room for the next part where there was room for all
pub part_fits : {X : Type 0} (f : X → List ℕ) (xs : List X) (i : ℕ) (d : X) (old now : Written) → i < length xs
    → Appends old now (flat_map f (take i xs)) → length (flat_map f xs) ≤ old.spare
    → length (f (get_or xs i d)) ≤ now.spare
part_fits f xs i d old now within h room = omega (arith, h.room, length-flat_map-take f xs i d within)
