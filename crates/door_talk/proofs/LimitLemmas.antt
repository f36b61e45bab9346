-- How much is read for a request.
use Rattle.std.proofs.Common.{◌≡◌, ◌≤◌, ◌<◌, ◌+◌, ◌-◌, ◌++◌, [], ◌∷◌, ℕ, Bool, true, false, inl, inr, List, Result, Ok, Err, length, drop, take, ap, sym, refl, subst, arith, length-append}
use Rattle.std.specs.Prelude.{◌&&◌, IfOk, if◌then◌else◌, nat_le, codes}
use Rattle.std.specs.List.{list_all, list_any}
use Rattle.std.specs.Str.{bytes_eq}
use Rattle.std.specs.Str.Parse.{digits_value}
use Rattle.std.proofs.lemmas.List.{length-drop}
use Rattle.gw_base.specs.Limits.{body_limit}
use Rattle.http_talk.specs.Asked.{IsAnswer, action_of, asks, is_named, is_number, length_of, length_said, limited, many_lines, no_head, path_of, target_of, values_of, with_action, with_fields, with_length, with_target}
use Rattle.gw_base.specs.declared.kind.Kind.{Kind}
use Rattle.http_talk.specs.declared.target.Action.{Action}
use Rattle.http_talk.specs.declared.target.Action.TheVariants as action
use Rattle.http_talk.specs.Request.{IsHead}
use Rattle.http_talk.specs.declared.refusal.Refusal.{Refusal}
use Rattle.http_talk.specs.declared.refusal.Refusal.TheVariants as refusal
use Rattle.http_talk.specs.declared.target.Head.{Head}
use Rattle.http_talk.specs.declared.target.Target.{Target}
use Rattle.door_talk.specs.Requests.{IsWithin}

-- ---- the length of a body, as a head says it

abbrev Small : ℕ → Type 0
Small size = size ≤ body_limit

limited_small : (size : ℕ) → IfOk (limited size) Small
limited_small size = by (nat_le size body_limit) refl
  where
    le : nat_le size body_limit ≡ true → size ≤ body_limit
    le e = grind arith

    by : (c : Bool) → nat_le size body_limit ≡ c → IfOk (if c then Ok size else Err refusal.TooLarge) Small
    by true e = le e
    by false e = tt

said_small : (values : List (List ℕ)) → IfOk (length_said values) Small
said_small [] = tt
said_small (value ∷ others) = by (is_number value && list_all (bytes_eq value) others)
  where
    by : (c : Bool) → IfOk (if c then limited (digits_value 10 value) else Err refusal.Length) Small
    by true = limited_small (digits_value 10 value)
    by false = tt

length_small : (fields : List (List ℕ × List ℕ)) → IfOk (length_of fields) Small
length_small fields = by (list_any (is_named (codes "transfer-encoding")) fields)
  where
    by : (c : Bool) → IfOk (if c then Err refusal.NeedLength else length_said (values_of (codes "content-length") fields)) Small
    by true = tt
    by false = said_small (values_of (codes "content-length") fields)

abbrev HasSmall : Head → Type 0
HasSmall head = head.length ≤ body_limit

of_length : (target : Target) (size : Result ℕ Refusal) → IfOk size Small → IfOk (with_length target size) HasSmall
of_length target (Ok size) small = small
of_length target (Err why) small = tt

of_action : (action : Action) (target : Target) (fields : List (List ℕ × List ℕ)) → IfOk (with_action action target fields) HasSmall
of_action (action.Get resource) target fields = omega arith
of_action (action.Post kind) target fields = of_length target (length_of fields) (length_small fields)

of_target : (target : Target) (fields : List (List ℕ × List ℕ)) → IfOk (with_target target fields) HasSmall
of_target target fields = of_action (action_of target) target fields

of_fields : (target : Result Target Refusal) (fields : List (List ℕ × List ℕ)) → IfOk (with_fields target fields) HasSmall
of_fields (Ok target) fields = of_target target fields
of_fields (Err why) fields = tt

of_answer : (bytes : List ℕ) (answer : Result Head Refusal) → IsAnswer bytes answer → IfOk answer HasSmall
of_answer bytes answer (many_lines many is) = subst (λ (r : Result Head Refusal). IfOk r HasSmall) (sym is) tt
of_answer bytes answer (no_head few none is) = subst (λ (r : Result Head Refusal). IfOk r HasSmall) (sym is) tt
of_answer bytes answer (asks few head reads is) =
    subst (λ (r : Result Head Refusal). IfOk r HasSmall) (sym is)
    (of_fields (target_of head.method (path_of head.target)) _)

-- the body of a head has no more bytes than a body may have
pub small_body : (input : List ℕ) (count : ℕ) (head : Head) → IsHead input count (Ok head) → head.length ≤ body_limit
small_body input count head is = of_answer (take count input) (Ok head) is.answers

-- ---- how much is read

-- a piece after others
pub one_more : (held piece came : List ℕ) (count left : ℕ) → left + length held ≡ 16384 → count ≤ left → came ≡ take count piece
    → length came ≡ count → length (held ++ take count piece) ≤ 16384
one_more held piece came count left all most front size = omega (arith, all, most, ap length front, size, length-append held (take count piece))

-- after a head that is read with a prefix of its body
pub within : (bytes part more : List ℕ) (count : ℕ) (head : Head) (kind : Kind) → length bytes ≤ 16384
    → ((later : List ℕ) → IsHead (bytes ++ later) count (Ok head)) → action_of head.target ≡ action.Post kind
    → drop count bytes ≡ part → count ≤ length bytes → length more ≤ head.length - length part → IsWithin (bytes ++ more)
within bytes part more count head kind small is_head post after long up = by (nat_le head.length (length part)) refl
  where
    le : (a b : ℕ) → nat_le a b ≡ true → a ≤ b
    le a b e = grind arith

    gt : (a b : ℕ) → nat_le a b ≡ false → b < a
    gt a b e = grind arith

    by : (c : Bool) → nat_le head.length (length part) ≡ c → IsWithin (bytes ++ more)
    by true e = inl (omega (arith, small, up, le head.length (length part) e, length-append bytes more))
    by false e =
        inr (count, head, kind, is_head more, post, omega (arith, up, gt head.length (length part) e, ap length after, length-drop count bytes, length-append bytes more, long), small_body (bytes ++ more) count head (is_head more))
