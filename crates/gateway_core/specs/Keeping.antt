-- Of each key the latest, in the order of the keys, and lists of elements with keys.
use Rattle.std.specs.Prelude.{◌≡◌, Bool, true, List, find, map, Option}
use Rattle.std.specs.List.{AllByRecursion}
use Rattle.std.specs.Ordering.{is_eq}
use Rattle.std.specs.declared.cmp.Ordering.{Ordering}
use Rattle.latest_store.specs.Latest.{HasLatestOf}
use Rattle.gateway_core.specs.Feeds.{are_ordered_by}

-- a list has of each key the latest of all, or none where there is none, in the order of the keys
pub record AreLatest {A Q : Type 0} (is_its : Q → A → Bool) (is_later comes_before : A → A → Bool)
    (all ordered : List A) : Type 0 where
  pub in_order : are_ordered_by comes_before ordered ≡ true
  pub latest : (key : Q) → HasLatestOf (is_its key) is_later all (find (is_its key) ordered)

-- entries are those of the latest of each key, each of which is good
pub record Keeps {A Q E : Type 0} (is_its : Q → A → Bool) (is_later comes_before : A → A → Bool) (entry : A → E)
    (good : A → Type 0) (all : List A) (entries : List E) : Type 0 where
  pub ordered : List A
  pub are_latest : AreLatest is_its is_later comes_before all ordered
  pub entries_are : entries ≡ map entry ordered
  pub all_good : AllByRecursion good ordered

module _ {K X : Type 0} (key_of : X → K) (cmp : K → K → Ordering) where
  -- the element of a key, if there is one
  abbrev pub at_key : List X → K → Option X
  at_key xs key = find (λ one. is_eq (cmp (key_of one) key)) xs
