-- What the two steps of an append leave of the bodies that were there.
use Rattle.std.proofs.Common.{◌≡◌, inl, inr, ⊎_elim, ℕ, ◌+◌, ◌≤◌, ◌<◌, ℤ, List, [], ◌∷◌, ◌++◌, length, take, Ok, sym, ◌∙◌, ap, arith}
use Rattle.gw_base.specs.Limits.{body_limit}
use Rattle.gw_base.specs.Moments.{IsMoment}
use Rattle.gw_base.specs.declared.kind.Kind.{Kind}
use Rattle.delivery_journal.specs.Disk.{Torn, with_bytes_at}
use Rattle.delivery_journal.specs.HeaderBytes.{header_bytes}
use Rattle.delivery_journal.specs.Kept.{KeptBody, Found, found, kept}
use Rattle.delivery_journal.specs.Standing.{IsAtRest, HoldsWithOrWithout}
use Rattle.delivery_journal.proofs.AppendLemmas.{end_inside, found_shut, found_torn, found_opened, staged_longer, kept_found}

module _ (may_leave : List ℕ → Type 0) (end : ℕ) (file : List ℕ) (at_rest : IsAtRest may_leave end file) where
  abbrev all : Found
  all = record { bodies = at_rest.bodies; end = end }

  pub gate_inside : end < length file
  gate_inside = end_inside file all at_rest.holds

  pub holds_shut : (new : KeptBody) (bodies : List KeptBody) → kept file ≡ Ok bodies → (image : List ℕ)
      → take (end + 1) image ≡ take (end + 1) file → HoldsWithOrWithout bodies new image
  holds_shut new bodies is image same =
      inl (kept_found image all (found_shut file all at_rest.holds image same) ∙ sym (kept_found file all at_rest.holds) ∙ is)

  module _ (kind : Kind) (moment : ℤ) (body : List ℕ) (in_range : IsMoment moment) (short : length body ≤ body_limit) where
    abbrev new : KeptBody
    new = record { kind = kind; moment = moment; body = body }

    abbrev pub written : List ℕ
    written = with_bytes_at file (end + 1) (header_bytes kind moment (length body) ++ body ++ 0 ∷ [])

    pub written_inside : end < length written
    written_inside = staged_longer file all at_rest.holds kind moment body in_range short

    pub holds_torn : (bodies : List KeptBody) → kept file ≡ Ok bodies → (image : List ℕ) → Torn end 1 written image → HoldsWithOrWithout bodies new image
    holds_torn bodies is image torn =
        let same : Ok at_rest.bodies ≡ Ok bodies = sym (kept_found file all at_rest.holds) ∙ is in
        let bodies_are : at_rest.bodies ≡ bodies = cc in
        ⊎_elim (λ shut. inl (kept_found image all shut ∙ same))
        (λ with. inr (kept_found image (record { bodies = at_rest.bodies ++ new ∷ []; end = end + 14 + length body }) with ∙ ap (λ (l : List KeptBody). Ok (l ++ new ∷ [])) bodies_are))
        (found_torn file all at_rest.holds kind moment body in_range short image torn)

    pub opened_holds : (now : List ℕ) → with_bytes_at written end (1 ∷ []) ≡ now
        → found now ≡ Ok (record { bodies = at_rest.bodies ++ new ∷ []; end = end + (14 + length body) })
    opened_holds now is =
        ap found (sym is) ∙ found_opened file all at_rest.holds kind moment body in_range short
        ∙ ap (λ (n : ℕ). Ok (record { bodies = at_rest.bodies ++ new ∷ []; end = n })) (omega arith)

    pub opened_kept : (now : List ℕ) → with_bytes_at written end (1 ∷ []) ≡ now → (bodies : List KeptBody) → kept file ≡ Ok bodies → kept now ≡ Ok (bodies ++ new ∷ [])
    opened_kept now is bodies held =
        let same : Ok at_rest.bodies ≡ Ok bodies = sym (kept_found file all at_rest.holds) ∙ held in
        let bodies_are : at_rest.bodies ≡ bodies = cc in
        kept_found now (record { bodies = at_rest.bodies ++ new ∷ []; end = end + (14 + length body) }) (opened_holds now is) ∙ ap (λ (l : List KeptBody). Ok (l ++ new ∷ [])) bodies_are
