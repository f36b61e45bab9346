-- One piece more of a text that is made piece by piece.
use Rattle.std.proofs.Common.{◌≡◌, ◌∙◌, ℕ, zero, suc, ◌+◌, Bool, true, false, ◌||◌, nat_lt, List, [], ◌∷◌, ◌++◌, refl, sym, ap, arith, add-one, append_assoc}
use Rattle.std.proofs.Math.Bool.{or-true}
use Rattle.std.proofs.lemmas.Bool.Decides.{nat_tests}
use Rattle.std.proofs.lemmas.List.{append-nil}
use Rattle.sample_maker.specs.Listed.{comma_if, following, has_some, listed}
use Rattle.sample_maker.specs.Pieces.{all_below}

-- nothing is below 0
pub all_below-0 : {A : Type 0} (piece : ℕ → List A) → all_below piece 0 ≡ []
unfolding all_below
all_below-0 piece = refl

-- the pieces below the next number
pub all_below-next : {A : Type 0} (piece : ℕ → List A) (n : ℕ) → all_below piece (n + 1) ≡ all_below piece n ++ piece n
unfolding all_below
all_below-next piece n = rw add-one refl

-- two pieces, and three
pub two_pieces : (start first second one two : List ℕ) → one ≡ start ++ first → two ≡ one ++ second → two ≡ start ++ (first ++ second)
two_pieces start first second one two is_one is_two = rw (is_two, is_one) (append_assoc start first second)

pub three_pieces : (start first second third one two three : List ℕ)
    → one ≡ start ++ first → two ≡ one ++ second → three ≡ two ++ third → three ≡ start ++ (first ++ second ++ third)
three_pieces start first second third one two three is_one is_two is_three =
    two_pieces start (first ++ second) third two three (two_pieces start first second one two is_one is_two) is_three

-- texts that follow others, after commas
following_some : (text : List ℕ) (texts : List (List ℕ)) → following true (text ∷ texts) ≡ 44 ∷ listed (text ∷ texts)
unfolding following
following_some text [] = refl
following_some text (next ∷ texts) = ap (λ (l : List ℕ). 44 ∷ (text ++ l)) (following_some next texts)

following_none : (texts : List (List ℕ)) → following false texts ≡ listed texts
unfolding following
following_none [] = refl
following_none (text ∷ []) = refl
following_none (text ∷ next ∷ texts) = ap (λ (l : List ℕ). text ++ l) (following_some next texts)

pub listed-append : (texts more : List (List ℕ)) → listed (texts ++ more) ≡ listed texts ++ following (has_some texts) more
unfolding following has_some
listed-append [] more = sym (following_none more)
listed-append (text ∷ []) [] = sym (append-nil text)
listed-append (text ∷ []) (next ∷ more) = ap (λ (l : List ℕ). text ++ l) (sym (following_some next more))
listed-append (text ∷ next ∷ texts) more =
    ap (λ (l : List ℕ). text ++ (44 ∷ l)) (listed-append (next ∷ texts) more)
    ∙ sym (append_assoc text (44 ∷ listed (next ∷ texts)) (following true more))

or_turned : (a b : Bool) → a || b ≡ b || a
or_turned true b = sym (or-true b)
or_turned false true = refl
or_turned false false = refl

pub has_some-append : (texts more : List (List ℕ)) → has_some (texts ++ more) ≡ has_some more || has_some texts
unfolding has_some
has_some-append [] more = or_turned false (has_some more)
has_some-append (text ∷ texts) more = or_turned true (has_some more)

-- a number's texts more
pub texts_more : (texts : ℕ → List (List ℕ)) (n : ℕ) (later : Bool) (start before after : List ℕ)
    → before ≡ start ++ listed (all_below texts n) → later ≡ has_some (all_below texts n)
    → after ≡ before ++ following later (texts n) → after ≡ start ++ listed (all_below texts (n + 1))
texts_more texts n later start before after so_far is_later added =
    let next = rw is_later at added in
    rw (all_below-next texts n, listed-append (all_below texts n) (texts n))
    (two_pieces start (listed (all_below texts n)) (following (has_some (all_below texts n)) (texts n)) before after so_far next)

pub some_more : (texts : ℕ → List (List ℕ)) (n : ℕ) (later any : Bool)
    → later ≡ has_some (all_below texts n) → any ≡ has_some (texts n) || later → any ≡ has_some (all_below texts (n + 1))
some_more texts n later any is_later is_any =
    rw (is_any, is_later, all_below-next texts n) (sym (has_some-append (all_below texts n) (texts n)))

-- with one text for each number there is some above 0
some_above : (text : ℕ → List ℕ) (n : ℕ) → has_some (all_below (λ i. text i ∷ []) n) ≡ nat_lt 0 n
unfolding has_some all_below
some_above text zero = refl
some_above text (suc n) =
    has_some-append (all_below (λ i. text i ∷ []) n) (text n ∷ []) ∙ grind (arith, nat_tests)

-- one text more
pub text_more : (text : ℕ → List ℕ) (n : ℕ) (start before comma after : List ℕ)
    → before ≡ start ++ listed (all_below (λ i. text i ∷ []) n) → comma ≡ before ++ comma_if (nat_lt 0 n)
    → after ≡ comma ++ text n → after ≡ start ++ listed (all_below (λ i. text i ∷ []) (n + 1))
unfolding following
text_more text n start before comma after so_far left added =
    texts_more (λ i. text i ∷ []) n (nat_lt 0 n) start before after so_far (sym (some_above text n))
    (two_pieces before (comma_if (nat_lt 0 n)) (text n) comma after left added)

pub ruleset pieces = (all_below-0, all_below-next, append_assoc, append-nil)

-- at first there is none
pub no_texts : (texts : ℕ → List (List ℕ)) (start : List ℕ) → start ≡ start ++ listed (all_below texts 0)
unfolding all_below
no_texts texts start = sym (append-nil start)

pub none_below : (texts : ℕ → List (List ℕ)) → false ≡ has_some (all_below texts 0)
unfolding all_below has_some
none_below texts = refl
