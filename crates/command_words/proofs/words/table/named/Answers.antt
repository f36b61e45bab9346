use Rattle.std.proofs.Common.{rules, tests, sym, ap, ◌∙◌, nat_eq}
use Rattle.std.specs.Cmp.Lexicographic.{pointwise}
use Rattle.std.specs.Option.{option_map}
use Rattle.std.proofs.lemmas.Iterator.{YieldsList-from_slice}
use Rattle.std.proofs.lemmas.Iterator.Search.{find_from_yields_List}
use Rattle.command_words.specs.Rows.{row_of}
use Rattle.command_words.specs.declared.words.table.Command.{Command}
use Rattle.command_words.proofs.TableLemmas.{find-map}
use Rattle.command_words.proofs.words.table.named.Goals as goal

pub returns : goal.returns
returns c =
    ap (option_map row_of) (find_from_yields_List (λ (command : Command). pointwise nat_eq command.name.now c.args.name.now) _ _ _ c.find.ensures.ran
    (YieldsList-from_slice c.args.commands.now cc) (λ x b q k. search (rules, tests)))
    ∙ sym (find-map _ row_of c.args.commands.now)
