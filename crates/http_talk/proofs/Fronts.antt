-- The prefixes of an input that comes in pieces: bytes held, bytes seen after them, and what follows.
use Rattle.std.proofs.Common.{◌≡◌, ℕ, ◌+◌, ◌-◌, ◌<◌, ◌≤◌, true, false, List, ◌++◌, length, take, drop, ap, sym, ◌∙◌, subst, arith, inl, inr, length-append}
use Rattle.std.proofs.Math.Seq.{take-append-add, take-length}
use Rattle.std.proofs.lemmas.List.{take-append-le, take-append-drop, length-take-le}
use Rattle.std.proofs.lemmas.Bool.{cases_lt}
use Rattle.http_talk.specs.Ends.{ends_head, IsHeadLength, HasNoEnd, IsOpen, IsTooLong}

-- a longer prefix of two lists is the first and a prefix of the second
past : (held tail : List ℕ) (count : ℕ) → length held ≤ count → take count (held ++ tail) ≡ held ++ take (count - length held) tail
past held tail count over =
    ap (λ n. take n (held ++ tail)) (let e : count ≡ length held + (count - length held) = omega arith in e)
    ∙ take-append-add held tail (count - length held)

-- no prefix that ends among the held bytes or among those seen ends a head
pub none_among : (held seen rest : List ℕ) → HasNoEnd held → (limit : ℕ)
    → ((front : ℕ) → front < limit → ends_head (held ++ take front seen) ≡ false)
    → (count : ℕ) → count ≤ 16384 → count < length held + limit → count ≤ length held + length seen
    → ends_head (take count (held ++ (seen ++ rest))) ≡ false
none_among held seen rest none limit along count most below within =
    elim (cases_lt count (length held)) as (λ _. ends_head (take count (held ++ (seen ++ rest))) ≡ false) [
      | inl short ↦ subst (λ v. ends_head v ≡ false) (sym (take-append-le count held (seen ++ rest) (omega arith))) (none count most)
      | inr long ↦
          subst (λ v. ends_head v ≡ false)
          (sym (past held (seen ++ rest) count long ∙ ap (λ v. held ++ v) (take-append-le (count - length held) seen rest (omega arith))))
          (along (count - length held) (omega arith))
    ]

-- the prefix of the input that is the held bytes and so many of those seen
pub front_is : (held seen rest : List ℕ) (more : ℕ) → more ≤ length seen
    → take (length held + more) (held ++ (seen ++ rest)) ≡ held ++ take more seen
front_is held seen rest more within =
    take-append-add held (seen ++ rest) more ∙ ap (λ v. held ++ v) (take-append-le more seen rest within)

pub is_head_length : (held seen rest : List ℕ) (more : ℕ) → HasNoEnd held → more ≤ length seen → length held + more ≤ 16384
    → ends_head (held ++ take more seen) ≡ true
    → ((front : ℕ) → front < more → ends_head (held ++ take front seen) ≡ false)
    → IsHeadLength (held ++ (seen ++ rest)) (length held + more)
is_head_length held seen rest more none within most ends along = record {
  within = omega (arith, length-append held (seen ++ rest), length-append seen rest);
  ends = subst (λ v. ends_head v ≡ true) (sym (front_is held seen rest more within)) ends;
  shortest = λ fewer below. none_among held seen rest none more along fewer (omega arith) below (omega arith);
}

-- a prefix of a prefix
front_of_front : (input : List ℕ) (count fewer : ℕ) → fewer ≤ length (take count input) → take fewer input ≡ take fewer (take count input)
front_of_front input count fewer within =
    ap (take fewer) (sym (take-append-drop count input)) ∙ take-append-le fewer (take count input) (drop count input) within

-- a head is its own shortest prefix
pub head_alone : (input : List ℕ) (count : ℕ) → IsHeadLength input count → IsHeadLength (take count input) (length (take count input))
head_alone input count head = record {
  within = omega arith;
  ends = subst (λ v. ends_head v ≡ true) (sym (take-length (take count input))) head.ends;
  shortest = λ fewer below.
      subst (λ v. ends_head v ≡ false) (front_of_front input count fewer (omega arith))
      (head.shortest fewer (omega (arith, length-take-le count input head.within)));
}

pub still_open : (held seen : List ℕ) → HasNoEnd held → ((front : ℕ) → ends_head (held ++ take front seen) ≡ false)
    → length held + length seen < 16384 → IsOpen (held ++ seen)
still_open held seen none along short = record {
  none = λ count most. elim (cases_lt count (length held)) as (λ _. ends_head (take count (held ++ seen)) ≡ false) [
    | inl below ↦ subst (λ v. ends_head v ≡ false) (sym (take-append-le count held seen (omega arith))) (none count most)
    | inr long ↦ subst (λ v. ends_head v ≡ false) (sym (past held seen count long)) (along (count - length held))
  ];
  short = omega (arith, length-append held seen);
}

pub too_long : (held seen rest : List ℕ) → HasNoEnd held → ((front : ℕ) → ends_head (held ++ take front seen) ≡ false)
    → length held + length seen ≡ 16384 → IsTooLong (held ++ (seen ++ rest))
too_long held seen rest none along long = record {
  none = λ count most. none_among held seen rest none (length seen + 1) (λ front _. along front) count most (omega arith) (omega arith);
  long = omega (arith, length-append held (seen ++ rest), length-append seen rest);
}
