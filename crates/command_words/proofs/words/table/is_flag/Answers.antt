use Rattle.std.proofs.Common.{rules, tests, sym, ◌∙◌, nat_eq}
use Rattle.std.specs.Cmp.Lexicographic.{pointwise}
use Rattle.std.proofs.lemmas.Iterator.{YieldsList-from_slice}
use Rattle.std.proofs.lemmas.Iterator.Search.{any_from_yields_List}
use Rattle.command_words.proofs.TableLemmas.{list_any-map}
use Rattle.command_words.proofs.words.table.is_flag.Goals as goal

pub returns : goal.returns
returns c =
    any_from_yields_List (λ flag. pointwise nat_eq flag.now c.args.word.now) _ _ c.any.result c.any.ensures.ran (YieldsList-from_slice c.args.pair.now.flags.now cc)
    (λ x b q k. search (rules, tests))
    ∙ sym (list_any-map _ (λ flag. flag.now) c.args.pair.now.flags.now)
