-- What one read of a record takes from the rows that a reader has left.
use Rattle.std.proofs.Common.{◌≡◌, ◌∙◌, ◌⊎◌, ◌<◌, ◌+◌, ℕ, zero, suc, Bool, true, false, cond, List, [], ◌∷◌, ◌++◌, length, Option, Some, None, refl, sym, ap, inl, inr, arith, add-one}
use Rattle.std.proofs.lemmas.Bool.{false≢true}
use Rattle.std.specs.Prelude.{⊤}
use Rattle.std.specs.Bool.{MatchBool}
use denote.Ref.{Bor}
use Rattle.csv.specs.Machine.{Read, next_record, step, is_end, ends_at_end, fields_after, field_after}
use Rattle.csv.specs.Reading.{ReadRecord, ReadsNext, NextIs, Ready, default_config, has_failed, reader_trim, records_from, records_next, source_of, pending_of}
use Rattle.csv.specs.declared.parser.Config.{Config}
use Rattle.csv.specs.declared.parser.State.{State}
use Rattle.csv.specs.declared.parser.State.TheVariants as st
use Rattle.csv.specs.declared.reader.Reader.{Reader}
use Rattle.csv.specs.declared.reader.Trim.TheVariants as untrimmed
use Rattle.stop_schedule.specs.RowReader.{rows_from, rows_of, IsPlainUnlessFailed}

-- what is left after a record is shorter than the text, or nothing at the start of a record
abbrev Shortens : List ℕ → Option Read → Type 0
Shortens text None = ⊤
Shortens text (Some read) = (length read.2 < length text) ⊎ ((read.1 ≡ st.StartRecord) × (read.2 ≡ []))

shortens-end : (ends : Bool) (fields : List (List ℕ)) → Shortens [] (cond ends (Some (fields, st.StartRecord, [])) None)
shortens-end true fields = inr (refl, refl)
shortens-end false fields = tt

shortens-cons : (byte : ℕ) (rest : List ℕ) (o : Option Read) → Shortens rest o → Shortens (byte ∷ rest) o
shortens-cons byte rest None h = tt
shortens-cons byte rest (Some read) (inl shorter) = inl (omega arith)
shortens-cons byte rest (Some read) (inr ended) = inr ended

shortens-step : (ends : Bool) (byte : ℕ) (rest : List ℕ) (fields : List (List ℕ)) (state : State) (o : Option Read)
    → Shortens rest o → Shortens (byte ∷ rest) (cond ends (Some (fields, state, rest)) o)
shortens-step true byte rest fields state o h = inl (omega arith)
shortens-step false byte rest fields state o h = shortens-cons byte rest o h

next_record-shortens : (cfg : Config) (text : List ℕ) (state : State) (fields : List (List ℕ)) (field : List ℕ)
    → Shortens text (next_record cfg state fields field text)
unfolding next_record
next_record-shortens cfg [] state fields field = shortens-end (ends_at_end state) (fields ++ (field ∷ []))
next_record-shortens cfg (byte ∷ rest) state fields field =
    let next = step cfg state byte in
    shortens-step (is_end next.1) byte rest _ next.0 _
    (next_record-shortens cfg rest next.0 (fields_after next.1 fields field) (field_after next.1 byte field))

-- between records nothing is left to read of no bytes
records_from-nothing : (cfg : Config) (n : ℕ) → records_from cfg n st.StartRecord [] ≡ []
unfolding records_from next_record
records_from-nothing cfg zero = refl
records_from-nothing cfg (suc n) = refl

same-next : (cfg : Config) (n m : ℕ) (text : List ℕ) (o : Option Read) → Shortens text o → length text < n + 1
    → length text < m + 1
    → ((state : State) (rest : List ℕ) → length rest < n → length rest < m
    → records_from cfg n state rest ≡ records_from cfg m state rest)
    → records_next (records_from cfg n) o ≡ records_next (records_from cfg m) o
same-next cfg n m text None h a b same = refl
same-next cfg n m text (Some read) (inl shorter) a b same =
    ap (λ rows. read.0 ∷ rows) (same read.1 read.2 (omega arith) (omega arith))
same-next cfg n m text (Some read) (inr ended) a b same =
    ap (λ rows. read.0 ∷ rows) (rw (ended.0, ended.1) (records_from-nothing cfg n ∙ sym (records_from-nothing cfg m)))

-- the number of reads does not matter once it is over the length of the text
records_from-enough : (cfg : Config) (n m : ℕ) (state : State) (text : List ℕ) → length text < n → length text < m
    → records_from cfg n state text ≡ records_from cfg m state text
unfolding records_from
records_from-enough cfg zero m state text a b = absurd (omega arith)
records_from-enough cfg (suc n) zero state text a b = absurd (omega arith)
records_from-enough cfg (suc n) (suc m) state text a b =
    same-next cfg n m text _ (next_record-shortens cfg text state [] []) (omega arith) (omega arith)
    (records_from-enough cfg n m)

-- the first of some records, and what is left after it
records-next : (text : List ℕ) (o : Option Read) (found : Bool) (fields : List (List ℕ)) (after : State) (left : List ℕ)
    → Shortens text o → NextIs o found fields after left
    → MatchBool found
    (records_next (records_from default_config (length text)) o ≡ fields
    ∷ records_from default_config (length left + 1) after left)
    (records_next (records_from default_config (length text)) o ≡ [])
records-next text None true fields after left h is = absurd (false≢true (sym is))
records-next text None false fields after left h is = refl
records-next text (Some read) false fields after left h is = absurd (false≢true is.0)
records-next text (Some read) true fields after left (inl shorter) is =
    let enough : length left < length text = rw is.3 shorter in
    rw (is.1, is.2, is.3)
    (ap (λ rows. read.0 ∷ rows)
    (records_from-enough default_config (length text) (length read.2 + 1) read.1 read.2 shorter (omega arith)))
records-next text (Some read) true fields after left (inr ended) is =
    rw (is.1, is.2, is.3, ended.0, ended.1)
    (ap (λ rows. read.0 ∷ rows)
    (records_from-nothing default_config (length text) ∙ sym (records_from-nothing default_config 1)))

-- the rows of known bytes, by one read
rows-next : (text : List ℕ) (state : State) (known : Option (List ℕ)) (found : Bool) (fields : List (List ℕ))
    (after : State)
    → ReadsNext default_config state (Some text) known found fields after
    → MatchBool found (rows_from state (Some text) ≡ fields ∷ rows_from after known) (rows_from state (Some text) ≡ [])
unfolding records_from
rows-next text state None found fields after reads = absurd reads
rows-next text state (Some left) found fields after reads =
    rw (add-one (length text))
    (records-next text _ found fields after left (next_record-shortens default_config text state [] []) reads)

-- ---- a reader over a slice

some-either : (b : Bool) (first second : List ℕ) → (text : List ℕ) × (cond b (Some first) (Some second) ≡ Some text)
some-either true first second = (first, refl)
some-either false first second = (second, refl)

-- a reader that has not failed knows what it has left
source-known : (reader : Reader (Bor (List ℕ))) → has_failed reader ≡ false
    → (text : List ℕ) × (source_of (λ slice. Some slice.now) reader ≡ Some text)
source-known reader going = rw going (some-either _ _ _)

-- what a read of a record takes from the rows that are left
pub rows_of-next : (old new : Reader (Bor (List ℕ))) (found : Bool) (fields : List (List ℕ)) → IsPlainUnlessFailed old
    → (has_failed old ≡ true → found ≡ false)
    → (reader_trim old ≡ untrimmed.None → Ready old → ReadRecord (λ slice. Some slice.now) old new found fields)
    → MatchBool found (rows_of old ≡ fields ∷ rows_of new) (rows_of old ≡ [])
rows_of-next old new found fields plain stopped reads = by (has_failed old) refl
  where
    by : (b : Bool) → has_failed old ≡ b → MatchBool found (rows_of old ≡ fields ∷ rows_of new) (rows_of old ≡ [])
    by true failed = rw (stopped failed) (rw failed refl)
    by false going =
        let p = plain going in
        let read = reads p.trim p.ready in
        let source = source-known old going in
        let next = rw (p.config, source.1) at read.0 in
        rw (source.1, read.1)
        (rows-next source.0 old.state (pending_of (Some new.rdr.now) new) found fields new.state next)
