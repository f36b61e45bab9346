-- Pieces that are written one after the other.
use Rattle.std.proofs.Common.{◌≡◌, ◌==◌, ◌++◌, ◌∷◌, ℕ, Bool, false, List, [], length, map, codes}
use Rattle.siri_json.proofs.Pieces.{two_pieces}
use Rattle.gw_base.specs.declared.messages.Period.{Period}
use Rattle.reverse_alerts.specs.Senses.{valid_period}
use Rattle.reverse_alerts.specs.SituationTexts.{periods_text, valid_text}

-- periods, of which there are some
pub some_valid : (all : List Period) (out one two : List ℕ) (none : Bool) → none ≡ (length all == 0) → none ≡ false
    → one ≡ out ++ codes ",\"ValidityPeriod\":[" → two ≡ one ++ periods_text false (map valid_period all) → two ≡ out ++ valid_text (map valid_period all)
some_valid [] out one two none is not first second = absurd (cc)
some_valid (period ∷ others) out one two none is not first second =
    two_pieces out one two (codes ",\"ValidityPeriod\":[") (periods_text false (map valid_period (period ∷ others))) first second
