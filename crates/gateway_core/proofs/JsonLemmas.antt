-- Texts that are joined by commas.
use Rattle.std.proofs.Common.{◌≡◌, ◌∙◌, ◌++◌, ◌∷◌, [], ℕ, List, map, ap, sym}
use Rattle.std.proofs.lemmas.List.{append-nil, append_assoc}
use Rattle.std.specs.Prelude.{codes}
use Rattle.std.specs.List.{flat_map}
use Rattle.gateway_core.specs.Taking.{joined}

-- the first, and each other after a comma
pub joined_first : {X : Type 0} (text : X → List ℕ) (one : X) (others : List X)
    → joined (map text (one ∷ others)) ≡ text one ++ flat_map (λ other. codes "," ++ text other) others
joined_first text one [] = sym (append-nil (text one))
joined_first text one (other ∷ others) =
    ap (λ (rest : List ℕ). (text one ++ codes ",") ++ rest) (joined_first text other others)
    ∙ append_assoc (text one) (codes ",") (text other ++ flat_map (λ last. codes "," ++ text last) others)
