-- The way down from an object to what stands in it, step by step (SIRI 2.0, PtSituationElement; in JSON after SIRI
-- Lite).
use Rattle.std.specs.Prelude.{List, [], ◌∷◌, ◌++◌, option_to_list, unwrap_or, Result, Ok}
use Rattle.gw_base.specs.Chains.{◌>>=◌}
use Rattle.journey_model.specs.declared.fault.Fault.{Fault}
use Rattle.serde_json.specs.Data.{Data}
use Rattle.siri_json.specs.Fields.{optional_member}
use Rattle.siri_json.specs.Forms.{object_form, objects}
use Rattle.siri_situations.specs.declared.steps.Step.{Step}
use Rattle.siri_situations.specs.declared.steps.Step.TheVariants.{Object, Repeated}

-- the trees to which a step leads from one: an object, or repeated objects; none where they are missing
abbrev pub trees_at : Step → Data → Result (List Data) Fault
trees_at (Object member) tree = do
  found ← optional_member object_form member tree
  Ok (option_to_list found)
trees_at (Repeated member) tree = do
  found ← optional_member objects member tree
  Ok (unwrap_or found [])

-- what is read of trees, one after the other: the first fault counts
abbrev pub gather : {A E : Type 0} → (Data → Result (List A) E) → List Data → Result (List A) E
gather read [] = Ok []
gather read (tree ∷ trees) = do
  first ← read tree
  others ← gather read trees
  Ok (first ++ others)

-- the trees at the end of a way: a step leads on from all trees before the next step comes
abbrev pub walk : List Step → List Data → Result (List Data) Fault
walk [] trees = Ok trees
walk (step ∷ steps) trees = do
  found ← gather (trees_at step) trees
  walk steps found
