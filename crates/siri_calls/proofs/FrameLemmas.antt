-- The frames below deliveries, one delivery after the other.
use Rattle.std.proofs.Common.{◌≡◌, ◌∙◌, refl, sym, ap, Bool, true, false, ◌&&◌, List, ◌∷◌, ◌++◌, map, Result, Ok, Err, if◌then◌else◌}
use Rattle.std.specs.List.{list_all, flat_map}
use Rattle.std.proofs.lemmas.List.{append_assoc}
use Rattle.std.proofs.lemmas.List.Folds.{list_all-append}
use Rattle.gw_base.specs.Chains.{ok_map, ◌>>=◌}
use Rattle.gw_base.specs.declared.member.Member.{Member}
use Rattle.json_tree.specs.Trees.{Tree, view}
use Rattle.siri_json.specs.Forms.{is_object}
use Rattle.siri_calls.specs.Frame.{Place, has_object, all_objects, frames_below, frame_place, frames_of}
use Rattle.siri_json.specs.Frame.{repeated_under}
use Rattle.siri_json.specs.Shown.{IsFrameFault}
use Rattle.siri_json.specs.declared.delivery.DeliveryFault.{DeliveryFault}
use Rattle.siri_json.specs.declared.delivery.DeliveryFault.TheVariants as delivery
use Rattle.siri_json.proofs.TreeLemmas.{list_all-map}

-- the trees of frames are objects, and then so are the frames
framed : (place : Place) (trees : List Tree) → list_all has_object (map (frame_place place) (map view trees)) ≡ list_all (λ tree. is_object (view tree)) trees
framed place trees = sym (list_all-map has_object (frame_place place) (map view trees)) ∙ sym (list_all-map is_object view trees)

pub frames_there : (place : Place) (trees : List Tree) (old new : List Place) → map view trees ≡ repeated_under Member.EstimatedJourneyVersionFrame place.tree
    → list_all (λ tree. is_object (view tree)) trees ≡ true → new ≡ old ++ map (frame_place place) (map view trees)
    → ok_map (λ frames. old ++ frames) (all_objects (frames_below place)) ≡ Ok new
frames_there place trees old new same objects found = rw (← same, framed place trees, objects) (ap Ok (sym found))

pub frames_wrong : (place : Place) (trees : List Tree) → map view trees ≡ repeated_under Member.EstimatedJourneyVersionFrame place.tree
    → list_all (λ tree. is_object (view tree)) trees ≡ false → all_objects (frames_below place) ≡ Err Member.EstimatedJourneyVersionFrame
frames_wrong place trees same none = rw (← same, framed place trees, none) refl

-- the frames that were found, and those of the deliveries left, are all
abbrev pub SoFar : Result (List Place) Member → List Place → List Place → Type 0
SoFar all found left = ok_map (λ rest. found ++ rest) (frames_of left) ≡ all

all_objects-append : (a b : List Place) → all_objects (a ++ b) ≡ (all_objects a >>= (λ before. ok_map (λ rest. before ++ rest) (all_objects b)))
all_objects-append a b = rw (list_all-append has_object a b) (by (list_all has_object a) (list_all has_object b))
  where
    by : (first second : Bool) → (if first && second then Ok (a ++ b) else Err Member.EstimatedJourneyVersionFrame)
        ≡ ((if first then Ok a else Err Member.EstimatedJourneyVersionFrame)
        >>= (λ before. ok_map (λ rest. before ++ rest) (if second then Ok b else Err Member.EstimatedJourneyVersionFrame)))
    by true true = refl
    by true false = refl
    by false second = refl

more : (found : List Place) (first left : Result (List Place) Member) (new : List Place) → ok_map (λ frames. found ++ frames) first ≡ Ok new
    → ok_map (λ rest. new ++ rest) left ≡ ok_map (λ rest. found ++ rest) (first >>= (λ before. ok_map (λ rest. before ++ rest) left))
more found (Err fault) left new e = cc
more found (Ok before) (Err fault) new e = refl
more found (Ok before) (Ok rest) new e =
    let same : found ++ before ≡ new = cc in rw (← same) (ap Ok (append_assoc found before rest))

-- the frames of one delivery more
pub one_more : (all : Result (List Place) Member) (found new : List Place) (place : Place) (left : List Place)
    → ok_map (λ frames. found ++ frames) (all_objects (frames_below place)) ≡ Ok new → SoFar all found (place ∷ left) → SoFar all new left
one_more all found new place left e so_far =
    more found (all_objects (frames_below place)) (frames_of left) new e
    ∙ (rw (all_objects-append (frames_below place) (flat_map frames_below left)) at so_far)

-- a delivery with a frame that is no object
pub one_refused : (all : Result (List Place) Member) (found : List Place) (place : Place) (left : List Place) (fault : DeliveryFault)
    → IsFrameFault (all_objects (frames_below place)) fault → SoFar all found (place ∷ left) → IsFrameFault all fault
one_refused all found place left delivery.NotJson e so_far = e
one_refused all found place left (delivery.NotDelivery member) e so_far =
    sym so_far ∙ (rw (all_objects-append (frames_below place) (flat_map frames_below left), e) refl)
one_refused all found place left delivery.Memory e so_far = tt
