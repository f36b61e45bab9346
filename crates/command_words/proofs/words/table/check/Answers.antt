use Rattle.std.proofs.Common.{◌≡◌, sym, subst, map, arith, None}
use Rattle.std.proofs.lemmas.Grind.{common_steps}
use Rattle.std.proofs.lemmas.Option.{gets, same_Some}
use Rattle.command_words.specs.Rows.{row_of}
use Rattle.command_words.specs.Tables.{IsSatisfiable, with_name}
use Rattle.command_words.proofs.FormLemmas.{satisfiable}
use Rattle.command_words.proofs.TableLemmas.{found_has, no_name, after_name}
use Rattle.command_words.proofs.words.table.check.Goals as goal

pub returns-in_default-clause-refused : goal.returns-in_default-clause-refused
returns-in_default-clause-refused c =
    no_name (map row_of c.args.commands.now) c.args.words.now (satisfiable c.args.commands.now c.requires) (λ name is. absurd (grind (arith, common_steps, gets, c.in_default.ensures.cases)))

pub returns-in_default-named-clause-refused : goal.returns-in_default-named-clause-refused
returns-in_default-named-clause-refused c =
    no_name (map row_of c.args.commands.now) c.args.words.now (satisfiable c.args.commands.now c.requires)
    (λ name is.
    let same : c.in-Some.name.now ≡ name = same_Some _ _ (rw c.in-Some.ensures.cases.0 at is) in
    subst (λ n. with_name (map row_of c.args.commands.now) n ≡ None) same (sym c.in_default-named.ensures))

pub wrong_word-requires : goal.wrong_word-requires
wrong_word-requires c =
    found_has IsSatisfiable _ (map row_of c.args.commands.now) (row_of c.in-Some-named.command.now) (satisfiable c.args.commands.now c.requires).each (sym c.in-Some-named.ensures)

pub returns-in-Some-wrong_word-clause-refused : goal.returns-in-Some-wrong_word-clause-refused
returns-in-Some-wrong_word-clause-refused c =
    rw c.in-Some.ensures.cases.0
    (after_name (map row_of c.args.commands.now) (row_of c.in-Some-named.command.now) c.in-Some.name.now c.in-Some.after.now c.in-Some-wrong_word.at
    (sym c.in-Some-named.ensures) c.in-Some-wrong_word.ensures)
