-- What is read of trees, one after the other.
use Rattle.std.proofs.Common.{◌≡◌, ◌∙◌, refl, ap, sym, List, ◌∷◌, ◌++◌, append_assoc, Result, Ok, Err}
use Rattle.gw_base.specs.Chains.{ok_map, ◌>>=◌}
use Rattle.journey_model.specs.declared.fault.Fault.{Fault}
use Rattle.serde_json.specs.Data.{Data}
use Rattle.siri_json.specs.Shown.{IsFaultOf}
use Rattle.siri_json.specs.declared.read_fault.ReadFault.{ReadFault}
use Rattle.siri_json.specs.declared.read_fault.ReadFault.TheVariants.{Aside, Memory}
use Rattle.siri_situations.specs.Steps.{gather}

-- what was found, and what the trees left give, are all
abbrev pub SoFar : {A E : Type 0} → (Data → Result (List A) E) → Result (List A) E → List A → List Data → Type 0
SoFar read all found left = ok_map (λ rest. found ++ rest) (gather read left) ≡ all

more : {A E : Type 0} (found first : List A) (left : Result (List A) E)
    → ok_map (λ rest. (found ++ first) ++ rest) left ≡ ok_map (λ rest. found ++ rest) (left >>= (λ others. Ok (first ++ others)))
more found first (Ok rest) = ap Ok (append_assoc found first rest)
more found first (Err fault) = refl

-- one tree more
pub one_more : {A E : Type 0} (read : Data → Result (List A) E) (all : Result (List A) E) (found : List A) (tree : Data) (left : List Data) (first : List A)
    → Ok first ≡ read tree → SoFar read all found (tree ∷ left) → SoFar read all (found ++ first) left
one_more read all found tree left first is so_far = more found first (gather read left) ∙ (rw (← is) at so_far)

same_fault : {A E : Type 0} (found : List A) (all : Result (List A) E) (fault : E) → Err fault ≡ ok_map (λ rest. found ++ rest) all → all ≡ Err fault
same_fault found (Ok rest) fault e = cc
same_fault found (Err other) fault e = cc

-- a tree that is refused
pub one_refused : {A E : Type 0} (read : Data → Result (List A) E) (all : Result (List A) E) (old found : List A) (tree : Data) (left : List Data) (fault : E)
    → Err fault ≡ read tree → SoFar read (ok_map (λ rest. old ++ rest) all) found (tree ∷ left) → all ≡ Err fault
one_refused read all old found tree left fault is so_far = same_fault old all fault (rw (← is) at so_far)

pub refused : {A : Type 0} (read : Data → Result (List A) Fault) (all : Result (List A) Fault) (old found : List A) (tree : Data) (left : List Data) (fault : ReadFault)
    → IsFaultOf (read tree) fault → SoFar read (ok_map (λ rest. old ++ rest) all) found (tree ∷ left) → IsFaultOf all fault
refused read all old found tree left (Aside fault) is so_far = one_refused read all old found tree left fault (sym is) so_far
refused read all old found tree left Memory is so_far = tt

-- what one tree gives was put after what was found
pub one_added : {A E : Type 0} (read : Data → Result (List A) E) (all : Result (List A) E) (found new : List A) (tree : Data) (left : List Data)
    → ok_map (λ rest. found ++ rest) (read tree) ≡ Ok new → SoFar read all found (tree ∷ left) → SoFar read all new left
one_added read all found new tree left added so_far = by (read tree) refl added
  where
    by : (answer : Result (List _) _) → read tree ≡ answer → ok_map (λ rest. found ++ rest) answer ≡ Ok new → SoFar read all new left
    by (Ok first) is e = let same : found ++ first ≡ new = cc in rw (← same) (one_more read all found tree left first (sym is) so_far)
    by (Err fault) is e = cc
