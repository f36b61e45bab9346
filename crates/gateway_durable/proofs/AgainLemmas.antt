-- Kept bodies that are taken again, one after the other.
use Rattle.std.proofs.Common.{◌≡◌, ℕ, ℤ, ◌+◌, List, [], ◌∷◌, ◌++◌, length, Option, Some, None, Result, Ok, Err, refl, sym, ◌∙◌, ap, subst, arith, length-append}
use Rattle.std.proofs.lemmas.List.{append-nil, append_assoc}
use Rattle.std.proofs.lemmas.Option.{same_Some}
use Rattle.gw_base.specs.declared.kind.Kind.{Kind}
use Rattle.delivery_journal.specs.Kept.{KeptBody}
use Rattle.delivery_journal.specs.Standing.{Gives}
use Rattle.gateway_core.specs.Arrivals.{Arrival}
use Rattle.gateway_core.specs.KeptFirst.{TakesKept}
use Rattle.gateway_core.specs.Standing.{Kept}
use Rattle.gateway_core.specs.declared.accepted.Accepted.{Accepted}
use Rattle.gateway_core.specs.declared.setting.Setting.{Setting}
use Rattle.gateway_core.specs.declared.take.body.BodyRefusal.TheVariants as because
use Rattle.gateway_core.specs.declared.take.kept.KeptFault.{KeptFault}
use Rattle.gateway_core.specs.declared.take.kept.KeptFault.TheVariants.{Differential, Feed, Full, Memory, NotDelivery, NotJson, TooManyCalls, Unkept}
use Rattle.gateway_durable.specs.Again.{HasReplayed, ReplaysNext, TakesAgain, of_kept}
use Rattle.gateway_durable.specs.Reopening.{RefusesBodies, StandsForBodies}
use Rattle.gateway_durable.specs.Replays.{Replays}
use Rattle.gateway_durable.specs.declared.reopen_fault.ReopenFault.{ReopenFault}
use Rattle.gateway_durable.specs.declared.reopen_fault.ReopenFault.TheVariants as reopen
use Rattle.gateway_durable.proofs.FoundLemmas.{size_of-append}
use Rattle.gateway_durable.proofs.ReplayLemmas.{replays_joined}

-- ---- one body

module _ (gate : Kept) (arrivals : List Arrival) (new : KeptBody) (number : ℕ) (now : Kept) where
  pub again_taken : (accepted : Accepted) → TakesKept gate arrivals new.moment new.kind new.body (Ok accepted) now
      → TakesAgain gate.setting arrivals new number (Ok tt) now
  again_taken accepted takes = (accepted.report, takes.0, takes.1, takes.2.stands)

  pub again_refused : (fault : KeptFault) → TakesKept gate arrivals new.moment new.kind new.body (Err fault) now
      → TakesAgain gate.setting arrivals new number (Err (of_kept fault number)) now
  again_refused NotJson refuses = (refl, (because.NotJson, not_memory, refuses))
    where
      not_memory : because.NotJson ≡ because.Memory → ⊥
      not_memory e = cc
  again_refused (NotDelivery member) refuses = (refl, (because.NotDelivery member, not_memory, refuses))
    where
      not_memory : because.NotDelivery member ≡ because.Memory → ⊥
      not_memory e = cc
  again_refused (Feed fault) refuses = (refl, (because.Feed fault, not_memory, refuses))
    where
      not_memory : because.Feed fault ≡ because.Memory → ⊥
      not_memory e = cc
  again_refused Differential refuses = (refl, (because.Differential, not_memory, refuses))
    where
      not_memory : because.Differential ≡ because.Memory → ⊥
      not_memory e = cc
  again_refused (TooManyCalls calls) refuses = (refl, (because.TooManyCalls calls, not_memory, refuses))
    where
      not_memory : because.TooManyCalls calls ≡ because.Memory → ⊥
      not_memory e = cc
  again_refused Unkept refuses = tt
  again_refused (Full at) refuses = tt
  again_refused Memory refuses = tt

-- ---- one after several

-- the first of those that are left is what was read
pub first_left : (rest : List KeptBody) (at next : ℕ) (of : Kind) (moment : ℤ) (read : List ℕ) → Gives rest at (Some (of, moment, next)) read
    → (others : List KeptBody) × (rest ≡ record { kind = of; moment = moment; body = read } ∷ others) × (next ≡ at + 14 + length read)
first_left [] at next of moment read gives = absurd (cc)
first_left (first ∷ others) at next of moment read gives =
    let same : ◌≡◌ {A = Kind × ℤ × ℕ} (of, moment, next) (first.kind, first.moment, at + 14 + length first.body) =
    same_Some (of, moment, next) (first.kind, first.moment, at + 14 + length first.body) gives.0 in (
      others,
      (λ i. record { kind = (sym same i).0; moment = (sym same i).1; body = sym gives.1 i } ∷ others),
      ap (λ (t : Kind × ℤ × ℕ). t.2) same ∙ ap (λ (b : List ℕ). at + 14 + length b) (sym gives.1),
    )

none_left : (rest : List KeptBody) (at : ℕ) (read : List ℕ) → Gives rest at None read → rest ≡ []
none_left [] at read gives = refl
none_left (first ∷ others) at read gives = absurd (cc)

module _ (setting : Setting) (bodies : List KeptBody) (at count : ℕ) (gate : Kept) (so_far : HasReplayed setting bodies at count gate) where
  pub all_replayed : (read : List ℕ) → Gives so_far.rest at None read → StandsForBodies setting bodies gate
  all_replayed read gives =
      let whole : bodies ≡ so_far.before = so_far.joined ∙ ap (λ (r : List KeptBody). so_far.before ++ r) (none_left so_far.rest at read gives) ∙ append-nil so_far.before in
      (so_far.arrivals, subst (λ (b : List KeptBody). Replays setting [] b so_far.arrivals) (sym whole) so_far.replays, so_far.stands)

  module _ (next : ℕ) (of : Kind) (moment : ℤ) (read : List ℕ) (gives : Gives so_far.rest at (Some (of, moment, next)) read) (now : Kept) where
    pub one_replayed : TakesAgain setting so_far.arrivals (record { kind = of; moment = moment; body = read }) (count + 1) (Ok tt) now
        → HasReplayed setting bodies next (count + 1) now
    one_replayed takes =
        let new : KeptBody = record { kind = of; moment = moment; body = read } in
        let found = first_left so_far.rest at next of moment read gives in
        let place = size_of-append so_far.before (new ∷ []) in
        record {
          before = so_far.before ++ new ∷ [];
          rest = found.0;
          joined = so_far.joined ∙ ap (λ (r : List KeptBody). so_far.before ++ r) found.1 ∙ sym (append_assoc so_far.before (new ∷ []) found.0);
          place = omega (arith, place, found.2, so_far.place);
          number = omega (arith, so_far.number, length-append so_far.before (new ∷ []));
          arrivals = record { moment = moment; gives = takes.1 } ∷ so_far.arrivals;
          replays = replays_joined setting [] so_far.before (new ∷ []) so_far.arrivals (record { moment = moment; gives = takes.1 } ∷ so_far.arrivals) so_far.replays
              (takes.0, takes.1, takes.2, refl);
          stands = takes.3;
        }

    pub one_refused : (fault : ReopenFault) → TakesAgain setting so_far.arrivals (record { kind = of; moment = moment; body = read }) (count + 1) (Err fault) now
        → RefusesBodies setting bodies fault
    one_refused reopen.Disk takes = tt
    one_refused reopen.NotJournal takes = takes
    one_refused (reopen.Damaged place) takes = takes
    one_refused (reopen.Replay n) takes =
        let found = first_left so_far.rest at next of moment read gives in
        record {
          before = so_far.before;
          first = record { kind = of; moment = moment; body = read };
          rest = found.0;
          joined = so_far.joined ∙ ap (λ (r : List KeptBody). so_far.before ++ r) found.1;
          number = omega (arith, takes.0, so_far.number);
          arrivals = so_far.arrivals;
          replays = so_far.replays;
          refused = takes.1;
        }
    one_refused reopen.Memory takes = tt

-- a step over a setting that is the one from before
pub next_over : (first setting : Setting) → setting ≡ first → (bodies : List KeptBody) (at count : ℕ) (gate now : Kept) (result : Result (Option ℕ) ReopenFault)
    → HasReplayed first bodies at count gate
    → (HasReplayed setting bodies at count gate → ReplaysNext setting bodies count result now)
    → ReplaysNext first bodies count result now
next_over first setting same bodies at count gate now result so_far next =
    subst (λ (s : Setting). ReplaysNext s bodies count result now) same
    (next (subst (λ (s : Setting). HasReplayed s bodies at count gate) (sym same) so_far))
