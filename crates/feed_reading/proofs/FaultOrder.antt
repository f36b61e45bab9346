-- The least of faults, from those of its parts.
use Rattle.std.proofs.Common.{◌≡◌, ◌≤◌, Bool, true, false, List, [], ◌∷◌, ◌++◌, inl, inr, refl, subst, arith}
use Rattle.std.proofs.lemmas.Bool.{leb-true, leb-false}
use Rattle.std.specs.Prelude.{Option, Some, None, nat_le, if◌then◌else◌, ◌⊎◌}
use Rattle.feed_reading.specs.declared.fault.FeedFault.{FeedFault}
use Rattle.feed_reading.specs.Faults.{Piece, InSome, order, IsLeast}
use Rattle.feed_reading.specs.Found.{earlier_of, Among}

-- two kinds of faults together
either_by : (P Q : FeedFault → Type 0) (a b : FeedFault) (first : Bool) → nat_le (order a) (order b) ≡ first
    → IsLeast P (Some a) → IsLeast Q (Some b) → IsLeast (λ f. P f ⊎ Q f) (if first then Some a else Some b)
either_by P Q a b true e h k =
    let le : order a ≤ order b = leb-true _ _ e in
    (inl h.0, λ other has. elim has [ inl p ↦ h.1 other p | inr q ↦ (let later = k.1 other q in omega arith) ])
either_by P Q a b false e h k =
    let lt = leb-false _ _ e in
    (inr k.0, λ other has. elim has [ inl p ↦ (let later = h.1 other p in omega arith) | inr q ↦ k.1 other q ])

pub least_either : (P Q : FeedFault → Type 0) (a b : Option FeedFault) → IsLeast P a → IsLeast Q b
    → IsLeast (λ f. P f ⊎ Q f) (earlier_of a b)
least_either P Q None None h k = λ other has. elim has [ inl p ↦ h other p | inr q ↦ k other q ]
least_either P Q None (Some b) h k =
    (inr k.0, λ other has. elim has [ inl p ↦ absurd (h other p) | inr q ↦ k.1 other q ])
least_either P Q (Some a) None h k =
    (inl h.0, λ other has. elim has [ inl p ↦ h.1 other p | inr q ↦ absurd (k other q) ])
least_either P Q (Some a) (Some b) h k = either_by P Q a b (nat_le (order a) (order b)) refl h k

-- the same faults, said otherwise
pub least_same : (P Q : FeedFault → Type 0) → ((f : FeedFault) → P f → Q f) → ((f : FeedFault) → Q f → P f)
    → (a : Option FeedFault) → IsLeast P a → IsLeast Q a
least_same P Q to back None h = λ other q. h other (back other q)
least_same P Q to back (Some a) h = (to a h.0, λ other q. h.1 other (back other q))

-- and no more after them
pub least_last : (P : FeedFault → Type 0) (a : Option FeedFault) → IsLeast P a → IsLeast (λ f. P f ⊎ ⊥) a
least_last P a h = least_same P (λ f. P f ⊎ ⊥) (λ f p. inl p) (λ f q. elim q [ inl p ↦ p | inr none ↦ absurd none ]) a h

-- ---- faults in pieces of a list

pub among_append : (ps qs : List Piece) (q : Piece) → Among (ps ++ qs) q → Among ps q ⊎ Among qs q
among_append [] qs q h = inr h
among_append (p ∷ ps) qs q (inl e) = inl (inl e)
among_append (p ∷ ps) qs q (inr h) = elim (among_append ps qs q h) [ inl k ↦ inl (inr k) | inr k ↦ inr k ]

pub among_front : (ps qs : List Piece) (q : Piece) → Among ps q → Among (ps ++ qs) q
among_front [] qs q h = absurd h
among_front (p ∷ ps) qs q (inl e) = inl e
among_front (p ∷ ps) qs q (inr h) = inr (among_front ps qs q h)

pub among_back : (ps qs : List Piece) (q : Piece) → Among qs q → Among (ps ++ qs) q
among_back [] qs q h = h
among_back (p ∷ ps) qs q h = inr (among_back ps qs q h)

-- those of one more piece
pub least_more : (Has : Piece → FeedFault → Type 0) (ps : List Piece) (p : Piece) (a b : Option FeedFault)
    → IsLeast (InSome (Among ps) Has) a → IsLeast (Has p) b
    → IsLeast (InSome (Among (ps ++ p ∷ [])) Has) (earlier_of a b)
least_more Has ps p a b h k =
    least_same (λ f. InSome (Among ps) Has f ⊎ Has p f) (InSome (Among (ps ++ p ∷ [])) Has)
    (λ f has. elim has
    [ inl x ↦ (x.0, among_front ps (p ∷ []) x.0 x.1, x.2) | inr x ↦ (p, among_back ps (p ∷ []) p (inl refl), x) ])
    (λ f has. elim (among_append ps (p ∷ []) has.0 has.1) [
      | inl x ↦ inl (has.0, x, has.2)
      | inr x ↦ inr (elim x [ inl e ↦ subst (λ (q : Piece). Has q f) e has.2 | inr none ↦ absurd none ])
    ])
    (earlier_of a b) (least_either (InSome (Among ps) Has) (Has p) a b h k)
