-- What a file holds, as it is read gate by gate, made anew, or left by a crash.
use Rattle.std.proofs.Common.{◌≡◌, ◌≢◌, ℕ, ◌+◌, ◌≤◌, Bool, true, false, nat_le, List, [], ◌∷◌, ◌++◌, length, drop, Option, Some, None, Result, Ok, Err, refl, sym, ◌∙◌, ap, arith}
use Rattle.std.specs.Prelude.{option_map, if◌then◌else◌}
use Rattle.std.proofs.lemmas.Bool.{le-leb}
use Rattle.std.proofs.lemmas.List.{drop-drop, drop_all}
use Rattle.gw_base.specs.Chains.{ok_map}
use Rattle.delivery_journal.specs.declared.open_fault.OpenFault.{OpenFault}
use Rattle.delivery_journal.specs.declared.open_fault.OpenFault.TheVariants.{Damaged}
use Rattle.delivery_journal.specs.Kept.{KeptBody, Found, record_of, with_first, found_from, found, kept}
use Rattle.delivery_journal.specs.Standing.{new_file, opened_file}
use Rattle.delivery_journal.proofs.BlockLemmas.{at_closed, at_record, at_damage, onto, onto_ok, onto_more}

-- ---- gate by gate

onto_err : (bodies : List KeptBody) (fault : OpenFault) → onto bodies (Err fault) ≡ Err fault
onto_err [] fault = refl
onto_err (first ∷ bodies) fault = ap (with_first first) (onto_err bodies fault)

module _ (file : List ℕ) (whole : Result Found OpenFault) (bodies : List KeptBody) (at : ℕ) (leads : whole ≡ onto bodies (found_from 0 at (drop at file))) where
  to : (all : Result Found OpenFault) → found_from 0 at (drop at file) ≡ all → whole ≡ onto bodies all
  to all is = leads ∙ ap (onto bodies) is

  pub leads_closed : (gate : ℕ) (rest : List ℕ) → drop at file ≡ gate ∷ rest → gate ≡ 0 → whole ≡ Ok (record { bodies = bodies ++ []; end = at })
  leads_closed gate rest is shut =
      to (Ok (record { bodies = []; end = at })) (ap (found_from 0 at) is ∙ at_closed at gate rest shut) ∙ onto_ok bodies (record { bodies = []; end = at })

  pub leads_damage : (gate : ℕ) (rest : List ℕ) → drop at file ≡ gate ∷ rest → gate ≢ 0 → record_of rest ≡ None → whole ≡ Err (Damaged at)
  leads_damage gate rest is is_open none =
      to (Err (Damaged at)) (ap (found_from 0 at) is ∙ at_damage at gate rest is_open none) ∙ onto_err bodies (Damaged at)

  pub leads_end : length file ≤ at → whole ≡ Err (Damaged at)
  leads_end past = to (Err (Damaged at)) (ap (found_from 0 at) (drop_all at file past)) ∙ onto_err bodies (Damaged at)

  pub leads_next : (gate : ℕ) (kept : KeptBody) (next : ℕ) → drop at file ≡ gate ∷ drop (at + 1) file → gate ≢ 0 → record_of (drop (at + 1) file) ≡ Some kept
      → next ≡ at + 14 + length kept.body → whole ≡ onto (bodies ++ kept ∷ []) (found_from 0 next (drop next file))
  leads_next gate kept next is is_open reads place =
      to (with_first kept (found_from 0 next (drop next file)))
      (ap (found_from 0 at) is ∙ at_record at gate (drop (at + 1) file) kept is_open reads
      ∙ (λ i. with_first kept (found_from 0 (sym place i) (drop (13 + length kept.body) (drop (at + 1) file))))
      ∙ ap (λ (l : List ℕ). with_first kept (found_from 0 next l)) (drop-drop (13 + length kept.body) (at + 1) file ∙ ap (λ (n : ℕ). drop n file) (omega arith)))
      ∙ sym (onto_more bodies kept (found_from 0 next (drop next file)))

-- ---- short files

pub kept_short : (file : List ℕ) → length file ≤ 9 → kept file ≡ Ok []
kept_short file short = by (nat_le (length file) 9) (le-leb (length file) 9 short)
  where
    by : (b : Bool) → b ≡ true → (if b then Ok [] else ok_map (λ (all : Found). all.bodies) (found file)) ≡ Ok []
    by true is = refl
    by false is = absurd (cc)

pub opened_short : (file : List ℕ) → length file ≤ 9 → opened_file file ≡ new_file
opened_short file short = by (nat_le (length file) 9) (le-leb (length file) 9 short)
  where
    by : (b : Bool) → b ≡ true → (if b then new_file else file) ≡ new_file
    by true is = refl
    by false is = absurd (cc)

pub new_of : (told : Option (List ℕ)) (file : List ℕ) → option_map (λ (_ : List ℕ). new_file) told ≡ Some file → new_file ≡ file
new_of None file is = absurd (cc)
new_of (Some before) file is = cc
