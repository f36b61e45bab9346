-- What the bodies of a header say, one after the other.
use Rattle.std.proofs.Common.{◌≡◌, ◌≢◌, ℕ, List, [], ◌∷◌, ◌++◌, refl, sym, ap, subst, ◌∙◌}
use Rattle.std.proofs.lemmas.List.Elements.{filter_map-append}
use Rattle.std.specs.Prelude.{Option, Some, None, IsUtf8}
use Rattle.std.specs.Option.{option_or}
use Rattle.std.specs.List.{last_or, concat, AllByRecursion}
use Rattle.gw_base.proofs.Elements.{all_append}
use Rattle.wire_fields.specs.Grammar.{Payload, Bytes, WireField, IsSpelling}
use Rattle.wire_fields.proofs.Lists.{Concatenates-append}
use Rattle.feed_reading.specs.declared.feed_reader.state.HeadSoFar.{HeadSoFar}
use Rattle.feed_reading.specs.FeedPieces.{OfHeadSoFar}
use Rattle.feed_reading.specs.FeedSteps.{head_after}
use Rattle.feed_reading.specs.Meaning.{number_in, body_in, payloads, bodies, Means, AreBodies, IsJoined, IsMessage}
use Rattle.feed_reading.proofs.OneMore.{held_new, found_more, means_one, means_joined}

held-append : {X : Type 0} (what : Payload → Option X) (number : ℕ) (fields more : List WireField)
    → payloads what number (fields ++ more) ≡ payloads what number fields ++ payloads what number more
held-append what number fields more = filter_map-append _ fields more

last-append : {X : Type 0} (o : Option X) (xs ys : List X) → last_or o (xs ++ ys) ≡ last_or (last_or o xs) ys
last-append o [] ys = refl
last-append o (x ∷ xs) ys = last-append (Some x) xs ys

last_there : {X : Type 0} (x : X) (ys : List X) (o : Option X)
    → last_or (Some x) ys ≡ option_or (last_or (Some x) ys) o
last_there x [] o = refl
last_there x (y ∷ ys) o = last_there y ys o

last_else : {X : Type 0} (o : Option X) (ys : List X) → last_or o ys ≡ option_or (last_or None ys) o
last_else o [] = refl
last_else o (y ∷ ys) = last_there y ys o

-- the last one of two lists of fields
last_of_both : {X : Type 0} (what : Payload → Option X) (number : ℕ) (fields more : List WireField) (a b : Option X)
    → a ≡ last_or None (payloads what number fields) → b ≡ last_or None (payloads what number more)
    → option_or b a ≡ last_or None (payloads what number (fields ++ more))
last_of_both {X} what number fields more a b h k =
    ap (λ (x : Option X). option_or x a) k
    ∙ ap (λ (x : Option X). option_or (last_or None (payloads what number more)) x) h
    ∙ sym (last_else (last_or None (payloads what number fields)) (payloads what number more))
    ∙ sym (last-append None (payloads what number fields) (payloads what number more))
    ∙ ap (λ (l : List X). last_or None l) (sym (held-append what number fields more))

both_said : (a b : List ℕ) (before said : HeadSoFar) → Means OfHeadSoFar a before → Means OfHeadSoFar b said
    → Means OfHeadSoFar (a ++ b) (head_after (Some before) said)
both_said a b before said h k = record {
  fields = h.fields ++ k.fields;
  read = Concatenates-append (IsSpelling 64) h.fields k.fields a b h.read k.read;
  table = record {
    gtfs_realtime_version = (
      subst (λ (l : List (List ℕ)). AllByRecursion IsUtf8 l) (sym (held-append body_in 1 h.fields k.fields))
          (all_append IsUtf8 (bodies 1 h.fields) (bodies 1 k.fields) h.table.gtfs_realtime_version.0
          k.table.gtfs_realtime_version.0),
      last_of_both body_in 1 h.fields k.fields before.version said.version h.table.gtfs_realtime_version.1
          k.table.gtfs_realtime_version.1,
    );
    incrementality =
        last_of_both number_in 2 h.fields k.fields before.incrementality said.incrementality h.table.incrementality
        k.table.incrementality;
    timestamp = last_of_both number_in 3 h.fields k.fields before.timestamp said.timestamp h.table.timestamp
        k.table.timestamp;
  };
}

joined_more : (all : List (List ℕ)) (body : List ℕ) (head : Option HeadSoFar) (said : HeadSoFar) → AreBodies all
    → IsJoined OfHeadSoFar all head → Means OfHeadSoFar body said
    → AreBodies (all ++ body ∷ []) × IsJoined OfHeadSoFar (all ++ body ∷ []) (Some (head_after head said))
joined_more [] body None said lists known means = means_one OfHeadSoFar (body ∷ []) body said means refl
joined_more [] body (Some before) said lists known means = absurd known
joined_more (first ∷ others) body None said lists known means = absurd known
joined_more (first ∷ others) body (Some before) said lists known means =
    let all = first ∷ others in
    let some : all ≢ [] = λ e. absurd cc in
    means_joined OfHeadSoFar (all ++ body ∷ []) (concat all ++ body) (head_after (Some before) said)
    (both_said (concat all) body before said known means)
    (found_more all body (concat all) (concat all ++ body) means.fields means.read refl (some, lists, refl))

pub head_more : (fields : List WireField) (body : List ℕ) (head : Option HeadSoFar) (said : HeadSoFar)
    → IsMessage OfHeadSoFar 1 fields head → Means OfHeadSoFar body said
    → IsMessage OfHeadSoFar 1 (fields ++ (record { number = 1; payload = Bytes body }) ∷ []) (Some (head_after head said))
head_more fields body head said known means =
    subst (λ (bs : List (List ℕ)). AreBodies bs × IsJoined OfHeadSoFar bs (Some (head_after head said)))
    (sym (held_new body_in 1 fields (record { number = 1; payload = Bytes body }) body refl))
    (joined_more (bodies 1 fields) body head said known.0 known.1 means)
