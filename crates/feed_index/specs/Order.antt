-- A list of elements with keys, in the order of their keys.
use Rattle.std.specs.Prelude.{List, ◌∷◌, ◌++◌, filter, fold}
use Rattle.std.specs.List.Sorted.{IsStrictlySortedBy}
use Rattle.std.specs.Ordering.{is_lt, is_gt}
use Rattle.std.specs.declared.cmp.Ordering.{Ordering}

module _ {K X : Type 0} (key_of : X → K) (cmp : K → K → Ordering) where
  -- the keys are distinct and rising
  abbrev pub AreRising : List X → Type 0
  AreRising xs = IsStrictlySortedBy (λ a b. cmp (key_of a) (key_of b)) xs

  -- the elements of lesser keys, and those of greater ones
  abbrev pub below : K → List X → List X
  below key xs = filter (λ x. is_lt (cmp (key_of x) key)) xs

  abbrev pub above : K → List X → List X
  above key xs = filter (λ x. is_gt (cmp (key_of x) key)) xs

  -- with this element at its key, and all others left
  abbrev pub with_one : List X → X → List X
  with_one xs one = below (key_of one) xs ++ one ∷ above (key_of one) xs

  -- with these elements, one after the other
  abbrev pub with_all : List X → List X → List X
  with_all xs more = fold with_one xs more
