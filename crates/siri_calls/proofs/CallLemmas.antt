-- The calls of trees, one after the other.
use Rattle.std.proofs.Common.{◌≡◌, ◌∙◌, refl, ap, List, [], ◌∷◌, ◌++◌, Option, Result, Ok, Err}
use Rattle.std.proofs.lemmas.List.{append_assoc}
use Rattle.gw_base.specs.Chains.{ok_map, ◌>>=◌}
use Rattle.journey_model.specs.declared.fault.Fault.{Fault}
use Rattle.serde_json.specs.Data.{Data}
use Rattle.service_day.specs.declared.zones.Rules.{Rules}
use Rattle.siri_calls.specs.Calls.{call, calls}
use Rattle.siri_calls.specs.Journeys.{Call}
use Rattle.siri_json.specs.Shown.{IsFaultOf}
use Rattle.siri_json.specs.declared.read_fault.ReadFault.{ReadFault}
use Rattle.siri_json.specs.declared.read_fault.ReadFault.TheVariants.{Aside, Memory}

-- the calls that were found, and those of the trees left, are all
abbrev pub SoFar : Rules → Result (List (Option Call)) Fault → List (Option Call) → List Data → Type 0
SoFar zone all found left = ok_map (λ rest. found ++ rest) (calls zone left) ≡ all

more : (found : List (Option Call)) (one : Option Call) (left : Result (List (Option Call)) Fault)
    → ok_map (λ rest. (found ++ one ∷ []) ++ rest) left ≡ ok_map (λ rest. found ++ rest) (left >>= (λ others. Ok (one ∷ others)))
more found one (Ok rest) = ap Ok (append_assoc found (one ∷ []) rest)
more found one (Err fault) = refl

-- one call more
pub one_more : (zone : Rules) (all : Result (List (Option Call)) Fault) (found : List (Option Call)) (tree : Data) (left : List Data) (one : Option Call)
    → Ok one ≡ call zone tree → SoFar zone all found (tree ∷ left) → SoFar zone all (found ++ one ∷ []) left
one_more zone all found tree left one is so_far = more found one (calls zone left) ∙ (rw (← is) at so_far)

-- the calls of two lists of trees
pub calls-append : (zone : Rules) (a b : List Data) → calls zone (a ++ b) ≡ (calls zone a >>= (λ before. ok_map (λ rest. before ++ rest) (calls zone b)))
calls-append zone [] b = empty (calls zone b)
  where
    empty : (r : Result (List (Option Call)) Fault) → r ≡ ok_map (λ rest. [] ++ rest) r
    empty (Ok rest) = refl
    empty (Err fault) = refl
calls-append zone (tree ∷ a) b = by (call zone tree) (calls zone a) (calls-append zone a b)
  where
    by : (first : Result (Option Call) Fault) (others : Result (List (Option Call)) Fault)
        → calls zone (a ++ b) ≡ (others >>= (λ before. ok_map (λ rest. before ++ rest) (calls zone b)))
        → (first >>= (λ one. calls zone (a ++ b) >>= (λ rest. Ok (one ∷ rest))))
        ≡ ((first >>= (λ one. others >>= (λ rest. Ok (one ∷ rest)))) >>= (λ before. ok_map (λ rest. before ++ rest) (calls zone b)))
    by (Err fault) others e = refl
    by (Ok one) (Err fault) e = rw e refl
    by (Ok one) (Ok before) e = rw e (front one before (calls zone b))
      where
        front : (one : Option Call) (before : List (Option Call)) (after : Result (List (Option Call)) Fault)
            → (ok_map (λ rest. before ++ rest) after >>= (λ rest. Ok (one ∷ rest))) ≡ ok_map (λ rest. (one ∷ before) ++ rest) after
        front one before (Ok rest) = refl
        front one before (Err fault) = refl

found_first : (all : Result (List (Option Call)) Fault) (first : List (Option Call)) → ok_map (λ rest. [] ++ rest) all ≡ Ok first → all ≡ Ok first
found_first (Ok rest) first e = e
found_first (Err fault) first e = cc

-- both lists of trees were read, the first was not, and the second was not
pub both_found : (zone : Rules) (a b : List Data) (start first last : List (Option Call)) → start ≡ []
    → ok_map (λ rest. start ++ rest) (calls zone a) ≡ Ok first → ok_map (λ rest. first ++ rest) (calls zone b) ≡ Ok last
    → calls zone (a ++ b) ≡ Ok last
both_found zone a b start first last empty e f =
    let before : calls zone a ≡ Ok first = found_first (calls zone a) first (rw empty at e) in
    calls-append zone a b ∙ (rw before f)

pub first_refused : (zone : Rules) (a b : List Data) (fault : ReadFault) → IsFaultOf (calls zone a) fault → IsFaultOf (calls zone (a ++ b)) fault
first_refused zone a b (Aside fault) e = calls-append zone a b ∙ (rw e refl)
first_refused zone a b Memory e = tt

pub second_refused : (zone : Rules) (a b : List Data) (start first : List (Option Call)) (fault : ReadFault) → start ≡ []
    → ok_map (λ rest. start ++ rest) (calls zone a) ≡ Ok first → IsFaultOf (calls zone b) fault → IsFaultOf (calls zone (a ++ b)) fault
second_refused zone a b start first (Aside fault) empty e f =
    let before : calls zone a ≡ Ok first = found_first (calls zone a) first (rw empty at e) in
    calls-append zone a b ∙ (rw (before, f) refl)
second_refused zone a b start first Memory empty e f = tt
