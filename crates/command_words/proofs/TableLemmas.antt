-- Words that are right so far start an accepted list, and a wrong word ends that: proved once, of any table.
use Rattle.std.proofs.Common.{◌≡◌, ◌≢◌, ◌⊎◌, inl, inr, refl, ap, sym, subst, ◌∙◌, ℕ, zero, suc, ◌+◌, ◌<◌, ◌≤◌, List, [], ◌∷◌, ◌++◌, Some, None, length, take, drop, get_or, slice_get, map, arith, ◌||◌, Bool, true, false, cond, add-one}
use Rattle.std.specs.Prelude.{IsTrue, IfSome, MatchBool, nat_eq, find}
use Rattle.std.specs.Cmp.Lexicographic.{pointwise}
use Rattle.std.specs.List.{AllByRecursion, list_any}
use Rattle.std.specs.Option.{option_map}
use Rattle.std.proofs.lemmas.Bool.{cases_lt}
use Rattle.std.proofs.lemmas.Cmp.{nat_list_eq_equiv}
use Rattle.std.proofs.lemmas.List.{length-append}
use Rattle.std.proofs.lemmas.Option.{none-some, same_Some}
use Rattle.command_words.specs.Pairs.{HasNoValue, IsWrongAt}
use Rattle.command_words.specs.Tables.{Pair, Command, is_flag, with_name, pair_at, ArePairs, IsAccepted, IsStart, StopsAt, CanBeMet, CanStand, IsSatisfiable}

-- a test of what a function gives
pub list_any-map : {A B : Type 0} (test : B → Bool) (f : A → B) (xs : List A) → list_any test (map f xs) ≡ list_any (λ x. test (f x)) xs
list_any-map test f [] = refl
list_any-map test f (x ∷ xs) = ap (λ b. test (f x) || b) (list_any-map test f xs)

abbrev Words : Type 0
Words = List (List ℕ)

-- there is a command, and each can be met
pub record AreSatisfiable (commands : List Command) : Type 0 where
  pub some : 0 < length commands
  pub each : AllByRecursion IsSatisfiable commands

-- what is found

pub find-map : {A B : Type 0} (test : B → Bool) (f : A → B) (xs : List A) → find test (map f xs) ≡ option_map f (find (λ x. test (f x)) xs)
find-map test f [] = refl
find-map test f (x ∷ xs) = by (test (f x)) (find-map test f xs)
  where
    by : (b : Bool) → find test (map f xs) ≡ option_map f (find (λ y. test (f y)) xs)
        → cond b (Some (f x)) (find test (map f xs)) ≡ option_map f (cond b (Some x) (find (λ y. test (f y)) xs))
    by true rest = refl
    by false rest = rest

pub found_has : {A : Type 0} (P : A → Type 0) (test : A → Bool) (xs : List A) (x : A) → AllByRecursion P xs → find test xs ≡ Some x → P x
found_has P test [] x all h = absurd (none-some x h)
found_has P test (y ∷ xs) x all h = by (test y) (found_has P test xs x all.1) h
  where
    by : (b : Bool) → (find test xs ≡ Some x → P x) → cond b (Some y) (find test xs) ≡ Some x → P x
    by true rest e = subst P (same_Some y x e) all.0
    by false rest e = rest e

-- pairs can be completed

met_at : (pairs : List Pair) (repeated : Pair) (k : ℕ) → AllByRecursion CanStand pairs → CanBeMet repeated.form → CanBeMet (get_or pairs k repeated).form
met_at [] repeated k all met = met
met_at (pair ∷ pairs) repeated zero all met = all.0.1
met_at (pair ∷ pairs) repeated (suc k) all met = met_at pairs repeated k all.1 met

flag_at : (pairs : List Pair) (repeated : Pair) (k : ℕ) → AllByRecursion CanStand pairs → k < length pairs
    → (flag : List ℕ) × IsTrue (is_flag (get_or pairs k repeated) flag)
flag_at [] repeated k all below = absurd (omega arith)
flag_at (pair ∷ pairs) repeated zero all below = first pair.flags all.0.0
  where
    first : (flags : Words) → 0 < length flags → (flag : List ℕ) × (list_any (λ known. pointwise nat_eq known flag) flags ≡ true)
    first [] some = absurd (omega arith)
    first (flag ∷ flags) some = (flag, rw (nat_list_eq_equiv.refl flag) refl)
flag_at (pair ∷ pairs) repeated (suc k) all below = flag_at pairs repeated k all.1 (omega arith)

value_at : (command : Command) → IsSatisfiable command → (k : ℕ) (before : List ℕ) → (value : List ℕ) × IsTrue ((pair_at command k).form before value)
value_at command met k before = met_at (command.pairs ++ command.optional) command.repeated k met.pairs met.repeated before

completed : (command : Command) → IsSatisfiable command → (n k : ℕ) (before : List ℕ) → length command.pairs ≤ k + n → (rest : Words) × ArePairs command k before rest
completed command met zero k before h = ([], omega arith)
completed command met (suc n) k before h =
    elim (cases_lt k (length command.pairs)) [
      | inr all ↦ ([], all)
      | inl below ↦
          let flag = flag_at (command.pairs ++ command.optional) command.repeated k met.pairs
          (omega (arith, length-append command.pairs command.optional)) in
          let value = value_at command met k before in
          let rest = completed command met n (k + 1) value.0 (omega arith) in
          (flag.0 ∷ value.0 ∷ rest.0, (flag.1, value.1, rest.1))
    ]

can_end : (command : Command) → IsSatisfiable command → (k : ℕ) (before : List ℕ) → IsStart (ArePairs command k before) []
can_end command met k before = completed command met (length command.pairs) k before (omega arith)

-- where lists stop: at the first word, or after it

stops_here : (Accepted : Words → Type 0) (words : Words) → IsStart Accepted []
    → ((other : Words) → Accepted other → slice_get other 0 ≢ slice_get words 0) → StopsAt Accepted words 0
stops_here Accepted [] start wrong = record { none = λ h. wrong [] h refl; within = omega arith; start = start; longest = λ n within _. within }
stops_here Accepted (word ∷ words) start wrong =
    record { none = λ h. wrong (word ∷ words) h refl; within = omega arith; start = start; longest = longest }
  where
    longest : (k : ℕ) → k ≤ length (word ∷ words) → IsStart Accepted (take k (word ∷ words)) → k ≤ 0
    longest zero within begins = omega arith
    longest (suc k) within begins = absurd (wrong _ begins.1 refl)

stops_after : (Accepted Left : Words → Type 0) (word : List ℕ) (words : Words) (n : ℕ) → ((ws : Words) → Left ws → Accepted (word ∷ ws))
    → ((ws : Words) → Accepted (word ∷ ws) → Left ws) → StopsAt Left words n → StopsAt Accepted (word ∷ words) (suc n)
stops_after Accepted Left word words n to from stops = record {
  none = λ h. stops.none (from words h);
  within = omega (arith, stops.within);
  start = (stops.start.0, to _ stops.start.1);
  longest = longest;
}
  where
    longest : (k : ℕ) → k ≤ length (word ∷ words) → IsStart Accepted (take k (word ∷ words)) → k ≤ suc n
    longest zero within start = omega arith
    longest (suc k) within start = let le : k ≤ n = stops.longest k (omega arith) (start.0, from _ start.1) in omega arith

-- after that many words, the words that are left decide on all of the words after a command's name
pub record Leads (command : Command) (name : List ℕ) (words : Words) (number : ℕ) (before : List ℕ) (left : Words) : Type 0 where
  pub at : ℕ
  pub counted : at + length left ≡ length words
  pub passed : number ≤ at
  pub accepts : ArePairs command number before left → ArePairs command 0 name words
  pub refuses : (n : ℕ) → StopsAt (ArePairs command number before) left n → StopsAt (ArePairs command 0 name) words (at + n)

pub leads_on : (command : Command) (name : List ℕ) (words : Words) (number : ℕ) (before : List ℕ) (left : Words) (value : List ℕ) (rest : Words)
    → Leads command name words number before left → IfSome (slice_get left 0) (λ flag. IsTrue (is_flag (pair_at command number) flag)) → IsTrue ((pair_at command number).form before value)
    → drop 1 left ≡ value ∷ rest
    → Leads command name words (number + 1) value rest
leads_on command name words number before [] value rest leads known met e = absurd cc
leads_on command name words number before (flag ∷ left) value rest leads known met e =
    record {
      at = leads.at + 2;
      counted = omega (arith, leads.counted, ap length e);
      passed = omega (arith, leads.passed);
      accepts = λ pairs. leads.accepts (rw e (known, met, pairs));
      refuses = λ n stops.
          let Flagged : Words → Type 0 = λ ws. ArePairs command number before (flag ∷ ws) in
          let after : StopsAt Flagged (value ∷ rest) (suc n) = stops_after Flagged _ value rest n (λ ws pairs. (known, met, pairs)) (λ ws pairs. pairs.2) stops in
          let all : StopsAt (ArePairs command number before) (flag ∷ left) (suc (suc n)) =
          rw e (stops_after (ArePairs command number before) Flagged flag (value ∷ rest) (suc n) (λ ws h. h) (λ ws h. h) after) in
          subst (λ k. StopsAt (ArePairs command 0 name) words k) (omega arith) (leads.refuses (suc (suc n)) all);
    }

-- a wrong word of a pair, where the command or the words go on

no_flag : (command : Command) (number : ℕ) (before flag : List ℕ) → is_flag (pair_at command number) flag ≡ false
    → (other : Words) → ArePairs command number before other → slice_get other 0 ≢ Some flag
no_flag command number before flag none [] pairs e = cc
no_flag command number before flag none (word ∷ []) pairs e = pairs
no_flag command number before flag none (word ∷ value ∷ words) pairs e =
    let same : is_flag (pair_at command number) flag ≡ true = ap (is_flag (pair_at command number)) (sym (same_Some _ _ e)) ∙ pairs.0 in
    absurd cc

no_value : (command : Command) (number : ℕ) (before flag : List ℕ) (left : Words) → HasNoValue (pair_at command number).form before left
    → (other : Words) → ArePairs command number before (flag ∷ other) → slice_get other 0 ≢ slice_get left 0
no_value command number before flag left h [] pairs e = pairs
no_value command number before flag [] h (value ∷ words) pairs e = cc
no_value command number before flag (word ∷ left) h (value ∷ words) pairs e =
    let same : (pair_at command number).form before word ≡ true = ap ((pair_at command number).form before) (sym (same_Some _ _ e)) ∙ pairs.1 in
    absurd cc

pub wrong_at : (command : Command) (number : ℕ) (before : List ℕ) (left : Words) (bad : ℕ) → IsSatisfiable command
    → (number < length command.pairs) ⊎ (0 < length left) → IsWrongAt (pair_at command number) before left bad
    → StopsAt (ArePairs command number before) left bad
wrong_at command number before [] bad met more h = rw h (stops_here _ [] (can_end command met number before) other)
  where
    other : (other : Words) → ArePairs command number before other → slice_get other 0 ≢ None
    other [] pairs e = elim more [ inl below ↦ omega arith | inr some ↦ omega arith ]
    other (word ∷ words) pairs e = cc
wrong_at command number before (flag ∷ left) bad met more h = by (is_flag (pair_at command number) flag) refl h
  where
    by : (b : Bool) → is_flag (pair_at command number) flag ≡ b → MatchBool b (HasNoValue (pair_at command number).form before left × (bad ≡ 1)) (bad ≡ 0)
        → StopsAt (ArePairs command number before) (flag ∷ left) bad
    by false e h = rw h (stops_here _ (flag ∷ left) (can_end command met number before) (no_flag command number before flag e))
    by true e h =
        let Flagged : Words → Type 0 = λ ws. ArePairs command number before (flag ∷ ws) in
        let value = value_at command met number before in
        let rest = can_end command met (number + 1) value.0 in
        rw h.1 (stops_after (ArePairs command number before) Flagged flag left 0 (λ ws h. h) (λ ws h. h)
        (stops_here Flagged left (value.0 ∷ rest.0, (e, value.1, rest.1)) (no_value command number before flag left h.0)))

-- a list of words is refused at its name, or after it

pub no_name : (commands : List Command) (words : Words) → AreSatisfiable commands
    → ((name : List ℕ) → slice_get words 0 ≡ Some name → with_name commands name ≡ None) → StopsAt (IsAccepted commands) words 0
no_name [] words met unknown = absurd (omega (arith, met.some))
no_name (command ∷ commands) words met unknown =
    let rest = can_end command met.each.0 0 command.name in
    stops_here (IsAccepted (command ∷ commands)) words (command.name ∷ rest.0, rw (nat_list_eq_equiv.refl command.name) rest.1) other
  where
    other : (other : Words) → IsAccepted (command ∷ commands) other → slice_get other 0 ≢ slice_get words 0
    other [] is e = is
    other (name ∷ rest) is e = rw (unknown name (sym e)) at is

pub after_name : (commands : List Command) (command : Command) (name : List ℕ) (words : Words) (n : ℕ) → with_name commands name ≡ Some command
    → StopsAt (ArePairs command 0 name) words n → StopsAt (IsAccepted commands) (name ∷ words) (n + 1)
after_name commands command name words n known stops =
    rw (add-one) (stops_after (IsAccepted commands) (ArePairs command 0 name) name words n (λ ws h. rw known h) (λ ws h. rw known at h) stops)

-- the pair of a number in an accepted list: the value before it, its flag and its value

abbrev pub double : ℕ → ℕ
double zero = 0
double (suc n) = suc (suc (double n))

abbrev pub HasPair : Command → ℕ → Words → ℕ → Type 0
HasPair command m words place =
    (before flag value : List ℕ) × (slice_get words place ≡ Some before) × (slice_get words (suc place) ≡ Some flag)
    × (slice_get words (suc (suc place)) ≡ Some value) × IsTrue (is_flag (pair_at command m) flag)
    × IsTrue ((pair_at command m).form before value)

pub pair_of : (command : Command) (k m number : ℕ) (before : List ℕ) (words : Words) → m ≡ number + k → m < length command.pairs
    → ArePairs command number before words → HasPair command m (before ∷ words) (double k)
pair_of command k m number before [] e below h = absurd (omega arith)
pair_of command k m number before (flag ∷ []) e below h = absurd h
pair_of command zero m number before (flag ∷ value ∷ words) e below h =
    let same : m ≡ number = omega arith in (before, flag, value, refl, refl, refl, rw same h.0, rw same h.1)
pair_of command (suc k) m number before (flag ∷ value ∷ words) e below h = pair_of command k m (number + 1) value words (omega arith) below h.2
