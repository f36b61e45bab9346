-- Spellings one after the other, of which none begins another.
use Rattle.std.proofs.Common.{◌≡◌, ◌≢◌, ℕ, List, [], ◌∷◌, ◌++◌, length, refl, sym, ap, ◌∙◌, arith, append_assoc}
use Rattle.std.proofs.lemmas.List.{length-append, append-nil, nil_from_length}
use Rattle.wire_fields.specs.Grammar.{Concatenates}

-- two lists of spellings, one after the other, are one
pub Concatenates-append : {X : Type 0} (Spells : X → List ℕ → Type 0) (xs ys : List X) (a b : List ℕ) → Concatenates Spells xs a → Concatenates Spells ys b → Concatenates Spells (xs ++ ys) (a ++ b)
Concatenates-append Spells [] ys a b h k = rw h k
Concatenates-append Spells (x ∷ xs) ys a b h k =
    (h.0, h.1 ++ b, rw h.2 (append_assoc h.0 h.1 b), h.3, Concatenates-append Spells xs ys h.1 b h.4 k)

-- and so is one more spelling after them
pub Concatenates-one : {X : Type 0} (Spells : X → List ℕ → Type 0) (x : X) (a : List ℕ) → Spells x a → Concatenates Spells (x ∷ []) a
Concatenates-one Spells x a h = (a, [], sym (append-nil a), h, refl)

pub Concatenates-push : {X : Type 0} (Spells : X → List ℕ → Type 0) (xs : List X) (x : X) (a b : List ℕ) → Concatenates Spells xs a → Spells x b → Concatenates Spells (xs ++ x ∷ []) (a ++ b)
Concatenates-push Spells xs x a b h k = Concatenates-append Spells xs (x ∷ []) a b h (Concatenates-one Spells x b k)

-- no spelling begins another, and none is empty
pub record IsApart {X : Type 0} (Spells : X → List ℕ → Type 0) : Type 0 where
  pub same : (x y : X) (a b rest after : List ℕ) → Spells x a → Spells y b → a ++ rest ≡ b ++ after → (x ≡ y) × (rest ≡ after)
  pub some : (x : X) (a : List ℕ) → Spells x a → a ≢ []

-- bytes that no spelling begins
abbrev pub Stops : {X : Type 0} → (X → List ℕ → Type 0) → List ℕ → Type 0
Stops {X} Spells bytes = (x : X) (first rest : List ℕ) → bytes ≡ first ++ rest → Spells x first → ⊥

pub nil_front : (a b : List ℕ) → a ++ b ≡ [] → a ≡ []
nil_front a b e = nil_from_length a (omega (arith, length-append a b, ap length e))

pub stops_at_end : {X : Type 0} (Spells : X → List ℕ → Type 0) → IsApart Spells → Stops Spells []
stops_at_end Spells apart x first rest e h = apart.some x first h (nil_front first rest (sym e))

-- two lists of spellings with which the same bytes begin, and which no spelling follows, are one
pub one_list : {X : Type 0} (Spells : X → List ℕ → Type 0) → IsApart Spells → (xs ys : List X) (a b rest after : List ℕ)
    → Concatenates Spells xs a → Concatenates Spells ys b → a ++ rest ≡ b ++ after → Stops Spells rest → Stops Spells after → (xs ≡ ys) × (rest ≡ after)
one_list Spells apart [] [] a b rest after h k e ends stops = (refl, rw (h, k) at e)
one_list Spells apart [] (y ∷ ys) a b rest after h k e ends stops =
    absurd (ends y k.0 (k.1 ++ after) (sym (ap (λ (l : List ℕ). l ++ rest) h) ∙ e ∙ ap (λ (l : List ℕ). l ++ after) k.2 ∙ append_assoc k.0 k.1 after) k.3)
one_list Spells apart (x ∷ xs) [] a b rest after h k e ends stops =
    absurd (stops x h.0 (h.1 ++ rest) (sym (ap (λ (l : List ℕ). l ++ after) k) ∙ sym e ∙ ap (λ (l : List ℕ). l ++ rest) h.2 ∙ append_assoc h.0 h.1 rest) h.3)
one_list {X = X} Spells apart (x ∷ xs) (y ∷ ys) a b rest after h k e ends stops =
    let parts : h.0 ++ (h.1 ++ rest) ≡ k.0 ++ (k.1 ++ after) =
    sym (append_assoc h.0 h.1 rest) ∙ sym (ap (λ (l : List ℕ). l ++ rest) h.2) ∙ e ∙ ap (λ (l : List ℕ). l ++ after) k.2 ∙ append_assoc k.0 k.1 after in
    let first = apart.same x y h.0 k.0 (h.1 ++ rest) (k.1 ++ after) h.3 k.3 parts in
    let others = one_list Spells apart xs ys h.1 k.1 rest after h.4 k.4 first.1 ends stops in
    (ap (λ (z : X). z ∷ xs) first.0 ∙ ap (λ (zs : List X). y ∷ zs) others.0, others.1)

-- the same bytes are one list of spellings at most
pub one_list_whole : {X : Type 0} (Spells : X → List ℕ → Type 0) → IsApart Spells → (xs ys : List X) (a : List ℕ) → Concatenates Spells xs a → Concatenates Spells ys a → xs ≡ ys
one_list_whole Spells apart xs ys a h k = (one_list Spells apart xs ys a a [] [] h k refl (stops_at_end Spells apart) (stops_at_end Spells apart)).0
