-- What a call makes of a disk in memory, of its images and of those that were left since an earlier moment.
use Rattle.std.proofs.Common.{◌≡◌, ◌⊎◌, inl, inr, ℕ, ◌+◌, ◌≤◌, ◌/◌, Bool, true, false, List, [], ◌∷◌, ◌++◌, length, take, refl, sym, ◌∙◌, ap, subst, arith, length-append, ⊎_elim, length-take}
use Rattle.std.proofs.lemmas.List.{take_all, take-append-le}
use Rattle.std.proofs.lemmas.List.Sums.{fold-append}
use Rattle.std.proofs.lemmas.Bool.{cases_lt}
use Rattle.delivery_journal.specs.declared.call.Op.{Op}
use Rattle.delivery_journal.specs.declared.call.Op.TheVariants.{Read, Write}
use Rattle.delivery_journal.specs.Disk.{Torn, ComeBy, NoMore, Passes}
use Rattle.delivery_journal.specs.DiskInMemory.{Done, Content, IsNoted, next_content, bytes_put, content_after, IsImage, IsTornBy}
use Rattle.delivery_journal.proofs.WriteLemmas.{torn_part, torn_same}

pub content_push : (start : List ℕ) (done : List Done) (more : Done)
    → content_after start (done ++ more ∷ []) ≡ next_content (content_after start done) more
content_push start done more = fold-append next_content (record { file = start; on_disk = start; ranges = [] }) done (more ∷ [])

-- ---- the last of the ranges

pub torn_last : (ranges : List (ℕ × ℕ)) (range : ℕ × ℕ) (file image : List ℕ) → IsTornBy file (ranges ++ range ∷ []) image
    → (next : List ℕ) × IsTornBy file ranges next × Torn range.0 range.1 next image
torn_last [] range file image torn = (file, refl, subst (λ (f : List ℕ). Torn range.0 range.1 file f) (sym torn.2) torn.1)
torn_last (first ∷ ranges) range file image torn =
    let rest = torn_last ranges range torn.0 image torn.2 in
    (rest.0, (torn.0, torn.1, rest.1), rest.2)

put_few : (went : Bool) (bytes : List ℕ) → length (bytes_put went bytes) ≤ length bytes
put_few true bytes = omega arith
put_few false bytes = omega (arith, length-take (length bytes / 2) bytes)

-- a write, of which all bytes or the first half were put
pub images_by_write : (content : Content) (at count : ℕ) (went : Bool) (bytes : List ℕ) → at ≤ length content.file
    → ComeBy (Torn at (length bytes)) (IsImage content)
    (IsImage (next_content content (record { call = record { op = Write; at = at; count = count; went = went }; bytes = bytes })))
images_by_write content at count went bytes inside image (inl is) =
    (content.file, inl refl, subst (λ (f : List ℕ). Torn at (length bytes) content.file f) (sym is) (torn_part content.file at inside (length bytes) (bytes_put went bytes) (put_few went bytes)))
images_by_write content at count went bytes inside image (inr torn) =
    let last = torn_last content.ranges (at, length bytes) content.on_disk image torn in
    (last.0, inr last.1, last.2)

pub file_by_write : (content : Content) (at count : ℕ) (went : Bool) (bytes : List ℕ) → at ≤ length content.file
    → Torn at (length bytes) content.file (next_content content (record { call = record { op = Write; at = at; count = count; went = went }; bytes = bytes })).file
file_by_write content at count went bytes inside = torn_part content.file at inside (length bytes) (bytes_put went bytes) (put_few went bytes)

-- ---- time

earlier : (start : List ℕ) (done : List Done) (more : Done) (n : ℕ) → n ≤ length done
    → content_after start (take n (done ++ more ∷ [])) ≡ content_after start (take n done)
earlier start done more n le = ap (content_after start) (take-append-le n done (more ∷ []) le)

abbrev Since : List ℕ → List Done → ℕ → List ℕ → Type 0
Since start done since image = (n : ℕ) × (since ≤ n) × (n ≤ length done) × IsImage (content_after start (take n done)) image

passes_more : (start : List ℕ) (done : List Done) (more : Done) → Passes (length done) (length (done ++ more ∷ []))
    (Since start done) (Since start (done ++ more ∷ [])) (IsImage (content_after start (done ++ more ∷ [])))
passes_more start done more = record {
  never_falls = omega (arith, both);
  keeps = λ since image le left. (left.0, left.1, omega (arith, both), subst (λ (content : Content). IsImage content image) (sym (earlier start done more left.0 left.2)) left.3);
  no_more = λ since image le left. ⊎_elim
      (λ (before : left.0 ≤ length done). inl (left.0, left.1, before, subst (λ (content : Content). IsImage content image) (earlier start done more left.0 before) left.3))
      (λ (last : length (done ++ more ∷ []) ≤ left.0). inr (subst (λ (content : Content). IsImage content image) (ap (content_after start) (take_all left.0 (done ++ more ∷ []) last)) left.3))
      (by left.0);
}
  where
    both : length (done ++ more ∷ []) ≡ length done + 1
    both = length-append done (more ∷ [])

    by : (n : ℕ) → (n ≤ length done) ⊎ (length (done ++ more ∷ []) ≤ n)
    by n = elim (cases_lt (length done) n) [ inl lt ↦ inr (omega (arith, both)) | inr le ↦ inl le ]

passes_none : (start : List ℕ) (done : List Done) → Passes (length done) (length done) (Since start done) (Since start done) (IsImage (content_after start done))
passes_none start done = record { never_falls = omega arith; keeps = λ since image le left. left; no_more = λ since image le left. inl left }

module _ (start : List ℕ) (op : Op) (at count : ℕ) (bytes : List ℕ) (old new : List Done) where
  abbrev done : Bool → Done
  done went = record { call = record { op = op; at = at; count = count; went = went }; bytes = bytes }

  pub passes : IsNoted op at count bytes old new
      → Passes (length old) (length new) (Since start old) (Since start new) (IsImage (content_after start new))
  passes (inl same) = subst (λ (l : List Done). Passes (length old) (length l) (Since start old) (Since start l) (IsImage (content_after start l))) (sym same) (passes_none start old)
  passes (inr more) = subst (λ (l : List Done). Passes (length old) (length l) (Since start old) (Since start l) (IsImage (content_after start l))) (sym more.1) (passes_more start old (done more.0))

-- a call that writes nothing and brings nothing onto the disk
pub content_by_read : (start : List ℕ) (at count : ℕ) (old new : List Done) → IsNoted Read at count [] old new
    → content_after start new ≡ content_after start old
content_by_read start at count old new (inl same) = ap (content_after start) same
content_by_read start at count old new (inr more) =
    ap (content_after start) more.1 ∙ content_push start old (record { call = record { op = Read; at = at; count = count; went = more.0 }; bytes = [] })

pub images_by_read : (start : List ℕ) (at count : ℕ) (old new : List Done) → IsNoted Read at count [] old new
    → NoMore (IsImage (content_after start old)) (IsImage (content_after start new))
images_by_read start at count old new noted image is = subst (λ (content : Content). IsImage content image) (content_by_read start at count old new noted) is

-- a write
pub images_by_note : (start : List ℕ) (at count : ℕ) (bytes : List ℕ) (old new : List Done)
    → at ≤ length (content_after start old).file → IsNoted Write at count bytes old new
    → ComeBy (Torn at (length bytes)) (IsImage (content_after start old)) (IsImage (content_after start new))
images_by_note start at count bytes old new inside (inl same) image is =
    (image, subst (λ (l : List Done). IsImage (content_after start l) image) same is, torn_same at (length bytes) image)
images_by_note start at count bytes old new inside (inr more) image is =
    images_by_write (content_after start old) at count more.0 bytes inside image
    (subst (λ (content : Content). IsImage content image) (ap (content_after start) more.1 ∙ content_push start old (record { call = record { op = Write; at = at; count = count; went = more.0 }; bytes = bytes })) is)

pub file_by_note : (start : List ℕ) (at count : ℕ) (bytes : List ℕ) (old new : List Done)
    → at ≤ length (content_after start old).file → IsNoted Write at count bytes old new
    → Torn at (length bytes) (content_after start old).file (content_after start new).file
file_by_note start at count bytes old new inside (inl same) =
    subst (λ (l : List Done). Torn at (length bytes) (content_after start old).file (content_after start l).file) (sym same) (torn_same at (length bytes) (content_after start old).file)
file_by_note start at count bytes old new inside (inr more) =
    subst (λ (content : Content). Torn at (length bytes) (content_after start old).file content.file)
    (sym (ap (content_after start) more.1 ∙ content_push start old (record { call = record { op = Write; at = at; count = count; went = more.0 }; bytes = bytes })))
    (file_by_write (content_after start old) at count more.0 bytes inside)
