use Rattle.std.proofs.Common.{◌≡◌, ◌∙◌, ◌+◌, ℕ, Bool, List, Option, Some, None, ap, cond, drop, length, refl, subst, sym}
use Rattle.std.specs.Prelude.{is_some, nat_lt, option_map}
use Rattle.feed_index.specs.declared.entry.Entry.{Entry}
use Rattle.feed_index.specs.Entries.{Rising, put, put_all, value_at}
use Rattle.feed_index.proofs.AllLemmas.{all_one}
use Rattle.feed_index.proofs.GatherLemmas.{length_with}
use Rattle.feed_index.proofs.RisingLemmas.{rising_drop, rising_one}
use Rattle.feed_index.proofs.draft.Draft.put.Goals as goal

shown : {A B : Type 0} (f : A → B) (it : Option A) → is_some it ≡ is_some (option_map f it)
shown f None = refl
shown f (Some x) = refl

pub invariant_of-self-2 : goal.invariant_of-self-2
invariant_of-self-2 g c =
    let one : Entry _ _ = record { key = c.args.key; value = c.args.value; bytes = c.args.bytes } in
    let kept = drop c.self.inside.gone c.self.inside.index.now.entries in
    let items = c.self.inside.batch.entries in
    let now : c.put.new.self.entries ≡ put g.K.Ord.cmp items one = rw c.as_slice.ensures.same at c.in_ok-put.ensures.put in
    let whole : ℕ = length (put_all g.K.Ord.cmp kept items) in
    let len_is : c.self.inside.len ≡ whole = c.self.invariant.3 in
    let more_is : c.in-Some.more ≡ whole + 1 = c.in-Some.ensures.1 ∙ ap (λ n. n + 1) len_is in
    let stays : Bool = c.is_some-stays.result in
    let stays_is : stays ≡ is_some (value_at g.K.Ord.cmp kept c.args.key) = c.is_some-stays.ensures ∙ shown _ c.find_after.result ∙ ap is_some c.find_after.ensures.value in
    let grew : Bool = nat_lt c.len-before.result c.len.result in
    let grew_is : grew ≡ nat_lt (length items) (length (put g.K.Ord.cmp items one)) =
    ap (λ n. nat_lt n c.len.result) c.len-before.ensures.value ∙ ap (nat_lt (length items)) (c.len.ensures.value ∙ ap length now) in
    let kept_rises = rising_drop (λ (each : Entry _ _). each.key) g.met.K.Ord.total c.self.inside.gone c.self.inside.index.now.entries c.self.invariant.1 in
    let count = length_with g.met.K.Ord.total kept items one stays grew kept_rises c.self.invariant.2 stays_is grew_is in
    let long : c.counted-self-inside.result ≡ length (put_all g.K.Ord.cmp kept c.put.new.self.entries) =
    c.counted-self-inside.ensures.value
    ∙ ap (λ n. cond stays n (cond grew c.in-Some.more n)) len_is
    ∙ ap (λ n. cond stays whole (cond grew n whole)) more_is
    ∙ sym count
    ∙ ap (λ (all : List (Entry _ _)). length (put_all g.K.Ord.cmp kept all)) (sym now) in
    let P : List (Entry _ _) → Type 0 = λ all. Rising g.K.Ord.cmp all in (
      c.self.invariant.0,
      c.self.invariant.1,
      subst P (sym now) (rising_one (λ (each : Entry _ _). each.key) g.met.K.Ord.total items one c.self.invariant.2),
      long,
    )

pub returns-clause-put : goal.returns-clause-put
returns-clause-put g c =
    let one : Entry _ _ = record { key = c.args.key; value = c.args.value; bytes = c.args.bytes } in
    let kept = drop c.self.inside.gone c.self.inside.index.now.entries in
    let items = c.self.inside.batch.entries in
    let now : c.put.new.self.entries ≡ put g.K.Ord.cmp items one = rw c.as_slice.ensures.same at c.in_ok-put.ensures.put in
    rw (← c.self.view_is) (ap (put_all g.K.Ord.cmp kept) now ∙ all_one (λ (each : Entry _ _). each.key) g.met.K.Ord.total kept items one c.self.invariant.2)
