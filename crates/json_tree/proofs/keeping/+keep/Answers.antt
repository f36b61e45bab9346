use Rattle.std.proofs.Common.{ℕ, List, Bor, Global, take, drop, ◌≡◌, ◌-◌, ◌<◌, [], ◌∷◌, ◌++◌, length, true, false, option_map, Some, None, sym, ap, ap₂, ◌∙◌, arith, rules}
use Rattle.std.proofs.Math.Seq.{drop-append_seam, take-append_seam}
use Rattle.std.proofs.lemmas.List.{append_assoc, append-nil}
use Rattle.json.specs.Token.{Token}
use Rattle.json.specs.Json.{Json, array, object, parse_map, after_end_array, read_key, items, members, value}
use Rattle.json.specs.Reads.{token_of}
use Rattle.json.specs.Value.{value_view, members_view}
use Rattle.json.specs.declared.value.Value.{Value, String, Number, Bool, Null, the_lemmas}
use Rattle.json.proofs.Grammar.{value_is, value-begin_array, value-begin_object, read_key-shorter, items_end, members_end, members_no_key}
use Rattle.json.proofs.Trees.{items_before, members_before, items_before-no_items, members_before-no_members, one_more_item, one_more_member, none_before, view-Array, view-Object}
use Rattle.serde_json.specs.Read.{converted}
use Rattle.json_tree.specs.Keeping.{kept_if_fits, items_if_fit, members_if_fit}
use Rattle.json_tree.proofs.KeepingLemmas.{item_kept, item_not_read, member_kept, member_left_out, member_not_read, nothing_kept, number_fits, array_read, object_read, at, says}
use Rattle.json_tree.proofs.keeping.+keep.Goals as goal

pub keep_items-loop-alloc-preserved : goal.keep_items-loop-alloc-preserved
keep_items-loop-alloc-preserved g t c =
    let has = g.N.Names.has in
    let p = value c.args.depth in
    let l = c.loop-alloc in
    let n = l.invariant.0 in
    let going : (after_end_array l.reader ≡ None) × (c.take_end_array.new.self ≡ l.reader) = grind arith in
    let done = c.in-Ok.ensures in
    let v = c.in-Ok.item in
    let r = c.keep_value.new.reader in
    let less : length r < length l.reader = rw (← going.1) done.shorter in
    let pushed : c.push.new.list.items ≡ l.found.items ++ v ∷ [] = search rules in
    let turn = item_kept p has n l.reader r (value_view v) (omega (arith, l.invariant.1)) going.0 (rw (← going.1) done.ok) in (
      n - 1,
      omega (arith, l.invariant.1),
      l.invariant.2 ∙ ap (parse_map (items_before l.found.items)) turn ∙ one_more_item l.found.items v _
          ∙ ap (λ vs. parse_map (items_before vs) (converted (items_if_fit has) (items p (n - 1) r))) (sym pushed),
      omega (arith, l.invariant.3),
      done.stays ∙ l.invariant.4,
    )

pub keep_items-returns-clause-ok : goal.keep_items-returns-clause-ok
keep_items-returns-clause-ok g t c =
    let p = value c.args.depth in
    let l = c.loop-alloc in
    let n = l.invariant.0 in
    let r = c.take_end_array.new.self in
    l.invariant.2 ∙ ap (λ o. parse_map (items_before l.found.items) (converted (items_if_fit g.N.Names.has) o)) (items_end p n l.reader r l.invariant.1 (grind arith))
    ∙ ap (λ js. Some (js, r)) (items_before-no_items l.found.items)

pub keep_members-returns-in-Ok-clause-ok : goal.keep_members-returns-in-Ok-clause-ok
keep_members-returns-in-Ok-clause-ok g t c =
    let p = value c.args.depth in
    let l = c.loop-key in
    let n = l.invariant.0 in
    let found = l.invariant.1 in
    let before = c.args.gathered.now.items in
    let r = c.next_key.new.self in
    let list = c.in-Ok.list in
    let is : list.items ≡ found = c.in-Ok.ensures.tail ∙ ap₂ drop l.invariant.6 l.invariant.5 ∙ drop-append_seam before found in
    l.invariant.3 ∙ ap (λ o. parse_map (members_before found) (converted (members_if_fit g.N.Names.has) o)) (members_end p n l.reader r l.invariant.2 (grind arith))
    ∙ ap (λ ms. Some (ms, r)) (members_before-no_members found) ∙ ap (λ ms. Some (members_view ms, r)) (sym is)

pub keep_members-returns-in-Ok-clause-stays : goal.keep_members-returns-in-Ok-clause-stays
keep_members-returns-in-Ok-clause-stays g t c =
    let l = c.loop-key in
    c.in-Ok.ensures.items ∙ ap₂ take l.invariant.6 l.invariant.5 ∙ take-append_seam c.args.gathered.now.items l.invariant.1

pub keep_members-returns-in-Err-clause-fault : goal.keep_members-returns-in-Err-clause-fault
keep_members-returns-in-Err-clause-fault g t c =
    let p = value c.args.depth in
    let l = c.loop-key in
    let n = l.invariant.0 in
    let ended : read_key l.reader ≡ None = grind arith in
    l.invariant.3 ∙ ap (λ o. parse_map (members_before l.invariant.1) (converted (members_if_fit g.N.Names.has) o)) (members_no_key p n l.reader ended)

pub keep_value-returns-in_default-clause-fault : goal.keep_value-returns-in_default-clause-fault
keep_value-returns-in_default-clause-fault g t c =
    let empty : c.args.reader.now ≡ [] = grind arith in
    ap (λ ts. converted (kept_if_fits g.N.Names.has) (value c.args.depth ts)) empty ∙ ap (converted (kept_if_fits g.N.Names.has)) (value_is c.args.depth [])

pub keep_value-returns-then-depth-eq0-clause-fault : goal.keep_value-returns-then-depth-eq0-clause-fault
unfolding value
keep_value-returns-then-depth-eq0-clause-fault g t c =
    let first : c.args.reader.now ≡ token_of c.in-Some.token ∷ c.next.new.self = grind arith in
    let zeroth : c.args.depth ≡ 0 = omega arith in
    ap (converted (kept_if_fits g.N.Names.has)) (ap₂ value zeroth (first ∙ ap (λ k. token_of k ∷ c.next.new.self) c.in-BeginArray.is))

pub keep_value-returns-then-depth-eq0-2-clause-fault : goal.keep_value-returns-then-depth-eq0-2-clause-fault
unfolding value
keep_value-returns-then-depth-eq0-2-clause-fault g t c =
    let first : c.args.reader.now ≡ token_of c.in-Some.token ∷ c.next.new.self = grind arith in
    let zeroth : c.args.depth ≡ 0 = omega arith in
    ap (converted (kept_if_fits g.N.Names.has)) (ap₂ value zeroth (first ∙ ap (λ k. token_of k ∷ c.next.new.self) c.in-BeginObject.is))

pub keep_value-returns-in-String-clause-ok : goal.keep_value-returns-in-String-clause-ok
keep_value-returns-in-String-clause-ok g t c =
    let first : c.args.reader.now ≡ token_of c.in-Some.token ∷ c.next.new.self = grind arith in
    let is : c.args.reader.now ≡ Token.string c.in-String.text.now ∷ c.next.new.self = grind (arith, first) in
    let seen : value_view (String c.in-String.text) ≡ Json.string c.in-String.text.now = search (rules, the_lemmas) in
    ap (converted (kept_if_fits g.N.Names.has)) (ap (value c.args.depth) is ∙ value_is c.args.depth _) ∙ ap (λ j. Some (j, c.next.new.self)) (sym seen)

pub keep_value-returns-in-Bool-clause-ok : goal.keep_value-returns-in-Bool-clause-ok
keep_value-returns-in-Bool-clause-ok g t c =
    let first : c.args.reader.now ≡ token_of c.in-Some.token ∷ c.next.new.self = grind arith in
    let is : c.args.reader.now ≡ Token.boolean c.in-Bool.b ∷ c.next.new.self = grind (arith, first) in
    let seen : value_view (Bool c.in-Bool.b) ≡ Json.boolean c.in-Bool.b = search (rules, the_lemmas) in
    ap (converted (kept_if_fits g.N.Names.has)) (ap (value c.args.depth) is ∙ value_is c.args.depth _) ∙ ap (λ j. Some (j, c.next.new.self)) (sym seen)

pub keep_value-returns-in-Null-clause-ok : goal.keep_value-returns-in-Null-clause-ok
keep_value-returns-in-Null-clause-ok g t c =
    let first : c.args.reader.now ≡ token_of c.in-Some.token ∷ c.next.new.self = grind arith in
    let is : c.args.reader.now ≡ Token.null ∷ c.next.new.self = grind (arith, first) in
    let seen : value_view (Null) ≡ Json.null = search (rules, the_lemmas) in
    ap (converted (kept_if_fits g.N.Names.has)) (ap (value c.args.depth) is ∙ value_is c.args.depth _) ∙ ap (λ j. Some (j, c.next.new.self)) (sym seen)

pub keep_value-returns-in-EndObject-clause-fault : goal.keep_value-returns-in-EndObject-clause-fault
keep_value-returns-in-EndObject-clause-fault g t c =
    let first : c.args.reader.now ≡ token_of c.in-Some.token ∷ c.next.new.self = grind arith in
    rw (value_is c.args.depth c.args.reader.now, first) (grind arith)

pub keep_value-returns-then-fits-clause-ok : goal.keep_value-returns-then-fits-clause-ok
keep_value-returns-then-fits-clause-ok g t c =
    let has = g.N.Names.has in
    let text = c.in-Number.text.now in
    let r = c.next.new.self in
    let first : c.args.reader.now ≡ token_of c.in-Some.token ∷ r = grind arith in
    let is : c.args.reader.now ≡ Token.number text ∷ r = grind (arith, first) in
    let seen : value_view (Number c.in-Number.text) ≡ Json.number text = search (rules, the_lemmas) in
    ap (converted (kept_if_fits has)) (ap (value c.args.depth) is ∙ value_is c.args.depth _) ∙ ap (option_map (at r)) (number_fits has text true (sym c.fits.ensures ∙ c.if-fits.true))
    ∙ ap (λ j. Some (j, r)) (sym seen)

pub keep_value-returns-else-fits-clause-fault : goal.keep_value-returns-else-fits-clause-fault
keep_value-returns-else-fits-clause-fault g t c =
    let has = g.N.Names.has in
    let text = c.in-Number.text.now in
    let r = c.next.new.self in
    let first : c.args.reader.now ≡ token_of c.in-Some.token ∷ r = grind arith in
    let is : c.args.reader.now ≡ Token.number text ∷ r = grind (arith, first) in
    ap (converted (kept_if_fits has)) (ap (value c.args.depth) is ∙ value_is c.args.depth _) ∙ ap (option_map (at r)) (number_fits has text false (sym c.fits.ensures ∙ c.if-fits.false))

pub keep_value-returns-in-Ok-clause-ok : goal.keep_value-returns-in-Ok-clause-ok
keep_value-returns-in-Ok-clause-ok g t c =
    let has = g.N.Names.has in
    let s = c.next.new.self in
    let first : c.args.reader.now ≡ token_of c.in-Some.token ∷ s = grind arith in
    let opened = ap (value c.args.depth) (first ∙ ap (λ k. token_of k ∷ s) c.in-BeginArray.is) ∙ value-begin_array c.args.depth s (omega arith) in
    ap (converted (kept_if_fits has)) opened ∙ array_read has (items (value (c.args.depth - 1)) (length s) s) ∙ ap (parse_map array) c.in-Ok.ensures.ok
    ∙ ap (λ j. Some (j, c.keep_items.new.reader)) (sym (view-Array c.in-Ok.list))

pub keep_value-returns-in-Err-clause-fault : goal.keep_value-returns-in-Err-clause-fault
keep_value-returns-in-Err-clause-fault g t c =
    let has = g.N.Names.has in
    let s = c.next.new.self in
    let first : c.args.reader.now ≡ token_of c.in-Some.token ∷ s = grind arith in
    let opened = ap (value c.args.depth) (first ∙ ap (λ k. token_of k ∷ s) c.in-BeginArray.is) ∙ value-begin_array c.args.depth s (omega arith) in
    says (λ failed. ap (converted (kept_if_fits has)) opened ∙ array_read has (items (value (c.args.depth - 1)) (length s) s) ∙ ap (parse_map array) failed) c.in-Err.fault c.in-Err.ensures.fault

pub keep_value-returns-in-Ok-keep_members-clause-ok : goal.keep_value-returns-in-Ok-keep_members-clause-ok
keep_value-returns-in-Ok-keep_members-clause-ok g t c =
    let has = g.N.Names.has in
    let s = c.next.new.self in
    let done = c.in-Ok-keep_members in
    let first : c.args.reader.now ≡ token_of c.in-Some.token ∷ s = grind arith in
    let opened = ap (value c.args.depth) (first ∙ ap (λ k. token_of k ∷ s) c.in-BeginObject.is) ∙ value-begin_object c.args.depth s (omega arith) in
    ap (converted (kept_if_fits has)) opened ∙ object_read has (members (value (c.args.depth - 1)) (length s) s) ∙ ap (parse_map object) done.ensures.ok
    ∙ ap (λ j. Some (j, c.keep_members.new.reader)) (sym (view-Object done.list))

pub keep_value-returns-in-Err-keep_members-clause-fault : goal.keep_value-returns-in-Err-keep_members-clause-fault
keep_value-returns-in-Err-keep_members-clause-fault g t c =
    let has = g.N.Names.has in
    let s = c.next.new.self in
    let done = c.in-Err-keep_members in
    let first : c.args.reader.now ≡ token_of c.in-Some.token ∷ s = grind arith in
    let opened = ap (value c.args.depth) (first ∙ ap (λ k. token_of k ∷ s) c.in-BeginObject.is) ∙ value-begin_object c.args.depth s (omega arith) in
    says (λ failed. ap (converted (kept_if_fits has)) opened ∙ object_read has (members (value (c.args.depth - 1)) (length s) s) ∙ ap (parse_map object) failed) done.fault done.ensures.fault

pub keep_items-returns-in-Err-clause-fault : goal.keep_items-returns-in-Err-clause-fault
keep_items-returns-in-Err-clause-fault g t c =
    let has = g.N.Names.has in
    let p = value c.args.depth in
    let l = c.loop-alloc in
    let n = l.invariant.0 in
    let going : (after_end_array l.reader ≡ None) × (c.take_end_array.new.self ≡ l.reader) = grind arith in
    says (λ failed. l.invariant.2 ∙ ap (parse_map (items_before l.found.items)) (item_not_read p has n l.reader going.0 (rw (← going.1) failed))) c.in-Err.fault c.in-Err.ensures.fault

pub keep_members-returns-in-Err-pass_value-clause-fault : goal.keep_members-returns-in-Err-pass_value-clause-fault
keep_members-returns-in-Err-pass_value-clause-fault g t c =
    let has = g.N.Names.has in
    let p = value c.args.depth in
    let l = c.loop-key in
    let n = l.invariant.0 in
    let k = c.in-Ok-Some.key.now in
    let s = c.next_key.new.self in
    let key : read_key l.reader ≡ Some (Some k, s) = grind arith in
    let done = c.in-Err-pass_value in
    says (λ failed. l.invariant.3 ∙ ap (parse_map (members_before l.invariant.1)) (member_not_read p has n k l.reader s key (nothing_kept has (p s) failed))) done.fault done.ensures.fault

pub keep_members-returns-in-Err-keep_value-clause-fault : goal.keep_members-returns-in-Err-keep_value-clause-fault
keep_members-returns-in-Err-keep_value-clause-fault g t c =
    let has = g.N.Names.has in
    let p = value c.args.depth in
    let l = c.loop-key in
    let n = l.invariant.0 in
    let k = c.in-Ok-Some.key.now in
    let s = c.next_key.new.self in
    let key : read_key l.reader ≡ Some (Some k, s) = grind arith in
    let done = c.in-Err-keep_value in
    says (λ failed. l.invariant.3 ∙ ap (parse_map (members_before l.invariant.1)) (member_not_read p has n k l.reader s key failed)) done.fault done.ensures.fault

pub keep_members-loop-key-preserved-in-Ok-pass_value : goal.keep_members-loop-key-preserved-in-Ok-pass_value
keep_members-loop-key-preserved-in-Ok-pass_value g t c =
    let has = g.N.Names.has in
    let p = value c.args.depth in
    let l = c.loop-key in
    let n = l.invariant.0 in
    let k = c.in-Ok-Some.key.now in
    let s = c.next_key.new.self in
    let key : read_key l.reader ≡ Some (Some k, s) = grind arith in
    let unnamed : has k ≡ false = grind arith in
    let done = c.in-Ok-pass_value.ensures in
    let r = c.pass_value.new.reader in
    let less = read_key-shorter l.reader (Some k) s key in
    let lesser = done.shorter in
    let turn = member_left_out p has n k l.reader s r (omega (arith, l.invariant.2)) key unnamed done.ok in (
      n - 1,
      l.invariant.1,
      omega (arith, l.invariant.2),
      l.invariant.3 ∙ ap (parse_map (members_before l.invariant.1)) turn,
      omega (arith, l.invariant.4),
      l.invariant.5,
      l.invariant.6,
    )

pub keep_members-loop-key-preserved : goal.keep_members-loop-key-preserved
keep_members-loop-key-preserved g t c =
    let has = g.N.Names.has in
    let p = value c.args.depth in
    let l = c.loop-key in
    let n = l.invariant.0 in
    let k = c.in-Ok-Some.key.now in
    let s = c.next_key.new.self in
    let key : read_key l.reader ≡ Some (Some k, s) = grind arith in
    let named : has k ≡ true = grind arith in
    let done = c.in-Ok-keep_value.ensures in
    let v = c.in-Ok-keep_value.member in
    let r = c.keep_value.new.reader in
    let less = read_key-shorter l.reader (Some k) s key in
    let lesser = done.shorter in
    let one : Bor (List ℕ) × Value Global = (c.in-Ok-Some.key, v) in
    let pushed : c.push.new.list.items ≡ c.keep_value.new.gathered.items ++ one ∷ [] = search rules in
    let turn = member_kept p has n k l.reader s r (value_view v) (omega (arith, l.invariant.2)) key named done.ok in (
      n - 1,
      l.invariant.1 ++ one ∷ [],
      omega (arith, l.invariant.2),
      l.invariant.3 ∙ ap (parse_map (members_before l.invariant.1)) turn ∙ one_more_member l.invariant.1 one _,
      omega (arith, l.invariant.4),
      pushed ∙ ap (λ ms. ms ++ one ∷ []) (done.stays ∙ l.invariant.5) ∙ append_assoc c.args.gathered.now.items l.invariant.1 (one ∷ []),
      l.invariant.6,
    )

pub keep_members-loop-key-init : goal.keep_members-loop-key-init
keep_members-loop-key-init g t c =
    (length c.args.reader.now, [], omega arith, none_before _, omega arith, sym (append-nil c.args.gathered.now.items), grind arith)
