-- Stops in rising sequence.
use Rattle.std.proofs.Common.{◌≡◌, ◌∙◌, ◌<◌, ◌==◌, ◌||◌, ℕ, zero, suc, Bool, true, false, cond, nat_lt, List, [], ◌∷◌, ◌++◌, length, take, drop, get_or, take-append-drop, refl, ap, sym, arith}
use Rattle.std.specs.List.{list_all, list_any, insert}
use Rattle.std.specs.Cmp.Derive.{both_true}
use Rattle.std.proofs.Math.Seq.{take-append_seam, drop-append_seam}
use Rattle.std.proofs.lemmas.Bool.{false≢true, lt-ltb}
use Rattle.std.proofs.lemmas.Bool.Decides.{nat_tests}
use Rattle.std.proofs.lemmas.List.Folds.{list_any-append}
use Rattle.stop_schedule.specs.Rising.{IsBetween, all_greater, all_less, has_sequence, is_rising}
use Rattle.stop_schedule.specs.StopTimes.{in_sequence, placed}
use Rattle.stop_schedule.specs.declared.stop_times.LoadedStop.{LoadedStop}
use Rattle.timetable.proofs.IdLemmas.{and-left, and-right}

-- stops before one of a less sequence are less
pub less-front : (rest passed : List LoadedStop) (sequence k : ℕ) (d : LoadedStop) → length rest ≡ suc k
    → is_rising (rest ++ passed) ≡ true
    → (get_or rest k d).sequence < sequence → all_less sequence rest ≡ true
less-front [] passed sequence k d long rising less = absurd (omega (arith, long))
less-front (a ∷ []) passed sequence zero d long rising less = both_true (lt-ltb a.sequence sequence less) refl
less-front (a ∷ []) passed sequence (suc k) d long rising less = absurd (omega (arith, long))
less-front (a ∷ b ∷ more) passed sequence zero d long rising less = absurd (omega (arith, long))
less-front (a ∷ b ∷ more) passed sequence (suc k) d long rising less =
    let shorter : length (b ∷ more) ≡ suc k = omega (arith, long) in
    let later = less-front (b ∷ more) passed sequence k d shorter
    (and-right (all_greater a.sequence (b ∷ more ++ passed)) _ rising) less in
    let next = and-left (nat_lt a.sequence b.sequence) _
    (and-left (all_greater a.sequence (b ∷ more ++ passed)) _ rising) in
    let last = and-left (nat_lt b.sequence sequence) _ later in
    let first : nat_lt a.sequence sequence ≡ true = grind (arith, nat_tests, next, last) in
    both_true first later

-- the place after some stops
pub between : (all rest passed : List LoadedStop) (sequence : ℕ) → all ≡ rest ++ passed
    → all_less sequence rest ≡ true → all_greater sequence passed ≡ true
    → IsBetween all sequence (length rest)
between all rest passed sequence is less greater = record {
  before = rw (is, take-append_seam rest passed) less;
  after = rw (is, drop-append_seam rest passed) greater;
}

or-swap : (a b c : Bool) → (a || (b || c)) ≡ (b || (a || c))
or-swap true true c = refl
or-swap true false c = refl
or-swap false b c = refl

-- ---- one more stop

placed-first : (stop : LoadedStop) (stops : List LoadedStop) → all_greater stop.sequence stops ≡ true
    → placed stop stops ≡ stop ∷ stops
placed-first stop [] greater = refl
placed-first stop (first ∷ stops) greater = rw (and-left (nat_lt stop.sequence first.sequence) _ greater) refl

pub placed-after : (stop : LoadedStop) (front stops : List LoadedStop) → all_less stop.sequence front ≡ true
    → placed stop (front ++ stops) ≡ front ++ placed stop stops
placed-after stop [] stops less = refl
placed-after stop (first ∷ front) stops less =
    let before = and-left (nat_lt first.sequence stop.sequence) _ less in
    let not_after : nat_lt stop.sequence first.sequence ≡ false = grind (arith, nat_tests, before) in
    rw not_after (ap (λ later. first ∷ later)
    (placed-after stop front stops (and-right (nat_lt first.sequence stop.sequence) _ less)))

pub placed-at : (stops : List LoadedStop) (stop : LoadedStop) (place : ℕ) → IsBetween stops stop.sequence place
    → insert stops place stop ≡ placed stop stops
placed-at stops stop place is =
    sym (ap (λ all. placed stop all) (sym (take-append-drop place stops))
    ∙ placed-after stop (take place stops) (drop place stops) is.before
    ∙ ap (λ later. take place stops ++ later) (placed-first stop (drop place stops) is.after))

-- ---- stops with other sequences may be placed in any order

swap-with : (a b first : LoadedStop) (stops : List LoadedStop) (ab ba af bf : Bool)
    → nat_lt a.sequence b.sequence ≡ ab → nat_lt b.sequence a.sequence ≡ ba
    → nat_lt a.sequence first.sequence ≡ af → nat_lt b.sequence first.sequence ≡ bf → (a.sequence == b.sequence) ≡ false
    → placed a (placed b stops) ≡ placed b (placed a stops)
    → placed a (placed b (first ∷ stops)) ≡ placed b (placed a (first ∷ stops))
swap-with a b first stops true true af bf eab eba eaf ebf apart later =
    absurd (false≢true (let e : false ≡ true = grind (arith, nat_tests, eab, eba) in e))
swap-with a b first stops false false af bf eab eba eaf ebf apart later =
    absurd (false≢true (let e : false ≡ true = grind (arith, nat_tests, eab, eba, apart) in e))
swap-with a b first stops true false true true eab eba eaf ebf apart later = simp (eab, eba, eaf, ebf)
swap-with a b first stops true false true false eab eba eaf ebf apart later = simp (eab, eba, eaf, ebf)
swap-with a b first stops true false false true eab eba eaf ebf apart later =
    absurd (false≢true (let e : false ≡ true = grind (arith, nat_tests, eab, eaf, ebf) in e))
swap-with a b first stops true false false false eab eba eaf ebf apart later =
    simp (eaf, ebf) (ap (λ rest. first ∷ rest) later)
swap-with a b first stops false true true true eab eba eaf ebf apart later = simp (eab, eba, eaf, ebf)
swap-with a b first stops false true true false eab eba eaf ebf apart later =
    absurd (false≢true (let e : false ≡ true = grind (arith, nat_tests, eba, eaf, ebf) in e))
swap-with a b first stops false true false true eab eba eaf ebf apart later = simp (eab, eba, eaf, ebf)
swap-with a b first stops false true false false eab eba eaf ebf apart later =
    simp (eaf, ebf) (ap (λ rest. first ∷ rest) later)

swap-two : (a b : LoadedStop) (ab ba : Bool) → nat_lt a.sequence b.sequence ≡ ab → nat_lt b.sequence a.sequence ≡ ba
    → (a.sequence == b.sequence) ≡ false
    → placed a (b ∷ []) ≡ placed b (a ∷ [])
swap-two a b true true eab eba apart =
    absurd (false≢true (let e : false ≡ true = grind (arith, nat_tests, eab, eba) in e))
swap-two a b false false eab eba apart =
    absurd (false≢true (let e : false ≡ true = grind (arith, nat_tests, eab, eba, apart) in e))
swap-two a b true false eab eba apart = rw (eab, eba) refl
swap-two a b false true eab eba apart = rw (eab, eba) refl

placed-swap : (a b : LoadedStop) (stops : List LoadedStop) → (a.sequence == b.sequence) ≡ false
    → placed a (placed b stops) ≡ placed b (placed a stops)
placed-swap a b [] apart = swap-two a b _ _ refl refl apart
placed-swap a b (first ∷ stops) apart =
    swap-with a b first stops _ _ _ _ refl refl refl refl apart (placed-swap a b stops apart)

or-false : (a b : Bool) → (a || b) ≡ false → (a ≡ false) × (b ≡ false)
or-false true b h = absurd (false≢true (sym h))
or-false false b h = (refl, h)

-- one more stop after others, of a sequence that none has
pub in_sequence-after : (stops : List LoadedStop) (stop : LoadedStop) → has_sequence stop.sequence stops ≡ false
    → in_sequence (stops ++ stop ∷ []) ≡ placed stop (in_sequence stops)
in_sequence-after [] stop none = refl
in_sequence-after (first ∷ stops) stop none =
    let apart = or-false (stop.sequence == first.sequence) _ none in
    ap (λ later. placed first later) (in_sequence-after stops stop apart.1)
    ∙ sym (placed-swap stop first (in_sequence stops) apart.0)

-- ---- what sorting keeps

any-placed : (test : LoadedStop → Bool) (stop : LoadedStop) (stops : List LoadedStop)
    → list_any test (placed stop stops) ≡ (test stop || list_any test stops)
any-placed test stop [] = refl
any-placed test stop (first ∷ stops) = by (any-placed test stop stops) (nat_lt stop.sequence first.sequence)
  where
    by : list_any test (placed stop stops) ≡ (test stop || list_any test stops) → (b : Bool)
        → list_any test (cond b (stop ∷ first ∷ stops) (first ∷ placed stop stops))
        ≡ (test stop || (test first || list_any test stops))
    by later true = refl
    by later false = rw later (or-swap (test first) (test stop) (list_any test stops))

pub any-in_sequence : (test : LoadedStop → Bool) (stops : List LoadedStop)
    → list_any test (in_sequence stops) ≡ list_any test stops
any-in_sequence test [] = refl
any-in_sequence test (stop ∷ stops) = any-placed test stop (in_sequence stops)
    ∙ ap (λ rest. test stop || rest) (any-in_sequence test stops)

pub length-placed : (stop : LoadedStop) (stops : List LoadedStop) → length (placed stop stops) ≡ suc (length stops)
length-placed stop [] = refl
length-placed stop (first ∷ stops) = by (length-placed stop stops) (nat_lt stop.sequence first.sequence)
  where
    by : length (placed stop stops) ≡ suc (length stops) → (b : Bool)
        → length (cond b (stop ∷ first ∷ stops) (first ∷ placed stop stops)) ≡ suc (suc (length stops))
    by later true = refl
    by later false = ap (λ n. suc n) later

pub length-in_sequence : (stops : List LoadedStop) → length (in_sequence stops) ≡ length stops
length-in_sequence [] = refl
length-in_sequence (stop ∷ stops) = length-placed stop (in_sequence stops) ∙ ap (λ n. suc n) (length-in_sequence stops)

pub all-placed : (test : LoadedStop → Bool) (stop : LoadedStop) (stops : List LoadedStop) → test stop ≡ true
    → list_all test stops ≡ true → list_all test (placed stop stops) ≡ true
all-placed test stop [] one all = rw one refl
all-placed test stop (first ∷ stops) one all =
    by (all-placed test stop stops one (and-right (test first) _ all)) (nat_lt stop.sequence first.sequence)
  where
    by : list_all test (placed stop stops) ≡ true → (b : Bool)
        → list_all test (cond b (stop ∷ first ∷ stops) (first ∷ placed stop stops)) ≡ true
    by later true = both_true one all
    by later false = both_true (and-left (test first) _ all) later

greater-too : (least more : ℕ) (stops : List LoadedStop) → nat_lt least more ≡ true → all_greater more stops ≡ true
    → all_greater least stops ≡ true
greater-too least more [] less all = refl
greater-too least more (first ∷ stops) less all =
    let here = and-left (nat_lt more first.sequence) _ all in
    let first_greater : nat_lt least first.sequence ≡ true = grind (arith, nat_tests, less, here) in
    both_true first_greater (greater-too least more stops less (and-right (nat_lt more first.sequence) _ all))

pub rising-placed : (stop : LoadedStop) (stops : List LoadedStop) → is_rising stops ≡ true
    → has_sequence stop.sequence stops ≡ false → is_rising (placed stop stops) ≡ true
rising-placed stop [] rising none = refl
rising-placed stop (first ∷ stops) rising none =
    by (rising-placed stop stops (and-right (all_greater first.sequence stops) _ rising)
    (or-false (stop.sequence == first.sequence) _ none).1)
    (nat_lt stop.sequence first.sequence) refl
  where
    by : is_rising (placed stop stops) ≡ true → (b : Bool) → nat_lt stop.sequence first.sequence ≡ b
        → is_rising (cond b (stop ∷ first ∷ stops) (first ∷ placed stop stops)) ≡ true
    by later true e =
        both_true (both_true e
        (greater-too stop.sequence first.sequence stops e (and-left (all_greater first.sequence stops) _ rising)))
        rising
    by later false e =
        let apart = or-false (stop.sequence == first.sequence) _ none in
        let different = apart.0 in
        let greater : nat_lt first.sequence stop.sequence ≡ true = grind (arith, nat_tests, e, different) in
        both_true (all-placed (λ other. nat_lt first.sequence other.sequence) stop stops greater
        (and-left (all_greater first.sequence stops) _ rising)) later

-- ---- a place between others is of a sequence that none has

pub less-apart : (sequence : ℕ) (stops : List LoadedStop) → all_less sequence stops ≡ true
    → has_sequence sequence stops ≡ false
less-apart sequence [] less = refl
less-apart sequence (first ∷ stops) less =
    let here = and-left (nat_lt first.sequence sequence) _ less in
    let apart : (sequence == first.sequence) ≡ false = grind (arith, nat_tests, here) in
    rw apart (less-apart sequence stops (and-right (nat_lt first.sequence sequence) _ less))

greater-apart : (sequence : ℕ) (stops : List LoadedStop) → all_greater sequence stops ≡ true
    → has_sequence sequence stops ≡ false
greater-apart sequence [] greater = refl
greater-apart sequence (first ∷ stops) greater =
    let here = and-left (nat_lt sequence first.sequence) _ greater in
    let apart : (sequence == first.sequence) ≡ false = grind (arith, nat_tests, here) in
    rw apart (greater-apart sequence stops (and-right (nat_lt sequence first.sequence) _ greater))

pub not-between : (stops : List LoadedStop) (sequence place : ℕ) → IsBetween stops sequence place
    → has_sequence sequence stops ≡ false
not-between stops sequence place is =
    ap (has_sequence sequence) (sym (take-append-drop place stops))
    ∙ list_any-append (λ stop. sequence == stop.sequence) (take place stops) (drop place stops)
    ∙ rw (less-apart sequence (take place stops) is.before) (greater-apart sequence (drop place stops) is.after)
