-- Texts that are written piece by piece.
use Rattle.std.proofs.Common.{◌≡◌, ◌∙◌, ℕ, List, ◌++◌, ap, sym, append_assoc}

-- one more piece in front
pub in_front : (comma one others one' others' : List ℕ) → one ≡ one' → others ≡ others' → comma ++ (one ++ others) ≡ comma ++ one' ++ others'
in_front comma one others one' others' first rest = rw (first, rest) (sym (append_assoc comma one' others'))

pub two_pieces : (out one two a b : List ℕ) → one ≡ out ++ a → two ≡ one ++ b → two ≡ out ++ (a ++ b)
two_pieces out one two a b first second = second ∙ ap (λ l. l ++ b) first ∙ append_assoc out a b

pub three_pieces : (out one two three a b c : List ℕ) → one ≡ out ++ a → two ≡ one ++ b → three ≡ two ++ c → three ≡ out ++ (a ++ b ++ c)
three_pieces out one two three a b c first second third = two_pieces out two three (a ++ b) c (two_pieces out one two a b first second) third

pub four_pieces : (out one two three four a b c d : List ℕ) → one ≡ out ++ a → two ≡ one ++ b → three ≡ two ++ c → four ≡ three ++ d
    → four ≡ out ++ (a ++ b ++ c ++ d)
four_pieces out one two three four a b c d first second third fourth =
    two_pieces out three four (a ++ b ++ c) d (three_pieces out one two three a b c first second third) fourth
