-- A request head of the grammar as bytes: how many lines it has, and that it ends a head.
use Rattle.std.proofs.Common.{◌≡◌, ℕ, ◌+◌, ◌≤◌, ◌==◌, if◌then◌else◌, true, false, List, [], ◌∷◌, ◌++◌, length, take, reverse, refl, ap, sym, ◌∙◌, subst, arith, append_assoc, append-nil, length-append}
use Rattle.std.specs.List.{flat_map, count_by}
use Rattle.std.proofs.Math.Seq.{take-append_seam}
use Rattle.std.proofs.lemmas.List.{reverse-append}
use Rattle.std.proofs.lemmas.List.Sums.{sum_by-append}
use Rattle.httparse.specs.Grammar.{LineEnd, crlf, lf, print_end, print_blank, print_version, Field, print_field, print_section, RequestHead, print_request, IsRequestHead, ReadsRequest}
use Rattle.httparse.specs.Pieces.{Stops, is_newline}
use Rattle.httparse.proofs.PieceLemmas.{Stops_token}
use Rattle.httparse.proofs.GrammarLemmas.{print_request-append, cons-append}
use Rattle.http_talk.specs.Ends.{skip_empty, is_end, ends_head, IsHeadLength, line_count}

-- ---- without the empty lines at the front

none_skipped : (rest : List ℕ) → Stops is_newline rest → skip_empty rest ≡ rest
none_skipped [] stops = refl
none_skipped (byte ∷ bytes) stops = grind arith

blank_skipped : (ends : List LineEnd) (rest : List ℕ) → Stops is_newline rest → skip_empty (print_blank ends ++ rest) ≡ rest
blank_skipped [] rest stops = none_skipped rest stops
blank_skipped (crlf ∷ ends) rest stops = blank_skipped ends rest stops
blank_skipped (lf ∷ ends) rest stops = blank_skipped ends rest stops

-- the bytes of a head from the method on, and what follows
abbrev pub from_method : RequestHead → List ℕ → List ℕ
from_method h rest =
    h.method ++ 32 ∷ (h.target ++ 32 ∷ (print_version h.minor ++ (print_end h.line_end ++ (print_section h.fields h.last ++ rest))))

head_skipped : (h : RequestHead) (rest : List ℕ) → IsRequestHead h → skip_empty (print_request h ++ rest) ≡ from_method h rest
head_skipped h rest is =
    ap skip_empty (print_request-append h rest)
    ∙ blank_skipped h.blank (from_method h rest) (Stops_token h.method _ is.method.0 is.method.1)

-- ---- its lines

abbrev feeds : List ℕ → ℕ
feeds bytes = count_by (λ byte. byte == 10) bytes

feeds_append : (a b : List ℕ) → feeds (a ++ b) ≡ feeds a + feeds b
feeds_append a b = sum_by-append (λ byte. if byte == 10 then 1 else 0) a b

feeds_end : (end : LineEnd) → feeds (print_end end) ≡ 1
feeds_end crlf = refl
feeds_end lf = refl

feeds_after : (a b : List ℕ) → feeds b ≤ feeds (a ++ b)
feeds_after a b = omega (arith, feeds_append a b)

feeds_before : (a b : List ℕ) → feeds a ≤ feeds (a ++ b)
feeds_before a b = omega (arith, feeds_append a b)

feeds_cons : (a : ℕ) (b : List ℕ) → feeds b ≤ feeds (a ∷ b)
feeds_cons a b = feeds_after (a ∷ []) b

feeds_field : (f : Field) → 1 ≤ feeds (print_field f)
feeds_field f = omega (arith, feeds_end f.end, feeds_after (f.name ++ 58 ∷ f.raw) (print_end f.end))

feeds_fields : (fields : List Field) → length fields ≤ feeds (flat_map print_field fields)
feeds_fields [] = omega arith
feeds_fields (f ∷ fields) =
    omega (arith, feeds_fields fields, feeds_field f, feeds_append (print_field f) (flat_map print_field fields))

feeds_section : (fields : List Field) (last : LineEnd) → length fields + 1 ≤ feeds (print_section fields last)
feeds_section fields last =
    omega (arith, feeds_fields fields, feeds_end last, feeds_append (flat_map print_field fields) (print_end last))

feeds_head : (h : RequestHead) (rest : List ℕ) → length h.fields + 2 ≤ feeds (from_method h rest)
feeds_head h rest =
    let s = print_section h.fields h.last ++ rest in
    let l = print_end h.line_end ++ s in
    let v = print_version h.minor ++ l in
    let t = h.target ++ 32 ∷ v in
    omega (
      arith,
      feeds_section h.fields h.last,
      feeds_before (print_section h.fields h.last) rest,
      feeds_append (print_end h.line_end) s,
      feeds_end h.line_end,
      feeds_after (print_version h.minor) l,
      feeds_cons 32 v,
      feeds_after h.target (32 ∷ v),
      feeds_cons 32 t,
      feeds_after h.method (32 ∷ t),
    )

-- a head has a line for each field, the request line and the empty line
pub lines_of_head : (bytes : List ℕ) (h : RequestHead) (rest : List ℕ) → ReadsRequest bytes h rest
    → length h.fields + 2 ≤ line_count bytes
lines_of_head bytes h rest reads =
    subst (λ v. length h.fields + 2 ≤ feeds v) (sym (ap skip_empty reads.1 ∙ head_skipped h rest reads.0)) (feeds_head h rest)

-- ---- its end

-- the bytes end with LF
abbrev HasFeed : List ℕ → Type 0
HasFeed bytes = (front : List ℕ) × (bytes ≡ front ++ 10 ∷ [])

end_feed : (end : LineEnd) → HasFeed (print_end end)
end_feed crlf = (13 ∷ [], refl)
end_feed lf = ([], refl)

feed_after : (a b : List ℕ) → HasFeed b → HasFeed (a ++ b)
feed_after a b has = (a ++ has.0, ap (λ v. a ++ v) has.1 ∙ sym (append_assoc a has.0 (10 ∷ [])))

field_feed : (f : Field) → HasFeed (print_field f)
field_feed f = feed_after (f.name ++ 58 ∷ f.raw) (print_end f.end) (end_feed f.end)

fields_feed : (a : List ℕ) (fields : List Field) → HasFeed a → HasFeed (a ++ flat_map print_field fields)
fields_feed a [] has = subst HasFeed (sym (append-nil a)) has
fields_feed a (f ∷ fields) has =
    subst HasFeed (append_assoc a (print_field f) (flat_map print_field fields))
    (fields_feed (a ++ print_field f) fields (feed_after a (print_field f) (field_feed f)))

end_is : (front : List ℕ) (last : LineEnd) → is_end (reverse ((front ++ 10 ∷ []) ++ print_end last)) ≡ true
end_is front crlf =
    ap is_end (reverse-append (front ++ 10 ∷ []) (print_end crlf) ∙ ap (λ v. 10 ∷ 13 ∷ v) (reverse-append front (10 ∷ [])))
end_is front lf =
    ap is_end (reverse-append (front ++ 10 ∷ []) (print_end lf) ∙ ap (λ v. 10 ∷ v) (reverse-append front (10 ∷ [])))

feed_ends : (a : List ℕ) (last : LineEnd) → HasFeed a → is_end (reverse (a ++ print_end last)) ≡ true
feed_ends a last has = subst (λ v. is_end (reverse (v ++ print_end last)) ≡ true) (sym has.1) (end_is has.0 last)

regroup : (m t v e f l : List ℕ) → ((m ++ 32 ∷ (t ++ 32 ∷ v)) ++ e ++ f) ++ l ≡ m ++ 32 ∷ (t ++ 32 ∷ (v ++ (e ++ ((f ++ l) ++ []))))
regroup m t v e f l = simp (append_assoc, append-nil, cons-append)

grouped : (h : RequestHead)
    → ((h.method ++ 32 ∷ (h.target ++ 32 ∷ print_version h.minor)) ++ print_end h.line_end ++ flat_map print_field h.fields) ++ print_end h.last
    ≡ from_method h []
grouped h =
    regroup h.method h.target (print_version h.minor) (print_end h.line_end) (flat_map print_field h.fields) (print_end h.last)

-- a head of the grammar ends a head
head_ends : (h : RequestHead) → IsRequestHead h → ends_head (print_request h) ≡ true
head_ends h is =
    subst (λ v. is_end (reverse v) ≡ true) (grouped h ∙ sym (ap skip_empty (sym (append-nil (print_request h))) ∙ head_skipped h [] is))
    (feed_ends ((h.method ++ 32 ∷ (h.target ++ 32 ∷ print_version h.minor)) ++ print_end h.line_end ++ flat_map print_field h.fields) h.last
    (fields_feed ((h.method ++ 32 ∷ (h.target ++ 32 ∷ print_version h.minor)) ++ print_end h.line_end) h.fields
    (feed_after (h.method ++ 32 ∷ (h.target ++ 32 ∷ print_version h.minor)) (print_end h.line_end) (end_feed h.line_end))))

-- nothing follows the head of the grammar that a shortest prefix begins with
pub nothing_follows : (bytes : List ℕ) (h : RequestHead) (rest : List ℕ) → IsHeadLength bytes (length bytes) → ReadsRequest bytes h rest
    → rest ≡ []
nothing_follows bytes h [] shortest reads = refl
nothing_follows bytes h (byte ∷ rest) shortest reads =
    let longer : length bytes ≡ length (print_request h) + length (byte ∷ rest) =
    ap length reads.1 ∙ length-append (print_request h) (byte ∷ rest) in
    let early : ends_head (take (length (print_request h)) bytes) ≡ false = shortest.shortest (length (print_request h)) (omega arith) in
    let front : take (length (print_request h)) bytes ≡ print_request h =
    ap (take (length (print_request h))) reads.1 ∙ take-append_seam (print_request h) (byte ∷ rest) in
    let ends : ends_head (print_request h) ≡ true = head_ends h reads.0 in
    absurd (cc (early, front, ends))
