-- Files by hand, and what they hold: a check of the definition that no function needs.
use Rattle.std.proofs.Common.{◌≡◌, ℕ, List, [], ◌∷◌, ◌++◌, take, pos, Ok, Err, refl}
use Rattle.std.specs.Prelude.{codes}
use Rattle.gw_base.specs.declared.kind.Kind.TheVariants.{Estimated}
use Rattle.delivery_journal.specs.declared.open_fault.OpenFault.TheVariants.{NotJournal, Damaged}
use Rattle.delivery_journal.specs.Kept.{header_of, record_of, kept}

-- a file that was just made: GWJRNL01 and a closed gate
new_file_holds_nothing : kept (71 ∷ 87 ∷ 74 ∷ 82 ∷ 78 ∷ 76 ∷ 48 ∷ 49 ∷ 0 ∷ []) ≡ Ok []
new_file_holds_nothing = refl

-- the gate, kind 1, 1714543200 in 8 bytes, 53 in 4, the body, and a closed gate
abbrev file_with : ℕ → List ℕ
file_with gate = 71 ∷ 87 ∷ 74 ∷ 82 ∷ 78 ∷ 76 ∷ 48 ∷ 49 ∷ gate ∷ 1 ∷ 0 ∷ 0 ∷ 0 ∷ 0 ∷ 102 ∷ 49 ∷ 218 ∷ 96 ∷ 0 ∷ 0 ∷ 0 ∷ 53 ∷ (codes "{\"ServiceDelivery\":{\"EstimatedTimetableDelivery\":[]}}" ++ 0 ∷ [])

one_body : kept (file_with 1) ≡ Ok (record { kind = Estimated; moment = pos 1714543200; body = codes "{\"ServiceDelivery\":{\"EstimatedTimetableDelivery\":[]}}" } ∷ [])
unfolding record_of header_of
one_body = refl

cut_short : kept (take 40 (file_with 1)) ≡ Err (Damaged 8)
unfolding record_of header_of
cut_short = refl

gate_closed : kept (file_with 0) ≡ Ok []
unfolding record_of header_of
gate_closed = refl

no_journal : kept (0 ∷ 0 ∷ 0 ∷ 0 ∷ 0 ∷ 0 ∷ 0 ∷ 0 ∷ 0 ∷ 0 ∷ []) ≡ Err NotJournal
no_journal = refl
