use Rattle.std.proofs.Common.{◌≡◌, [], Some, arith}
use Rattle.json.specs.Json.{value}
use Rattle.json.specs.Lex.{tokens}
use Rattle.json.specs.Value.{value_view}
use Rattle.serde_json.specs.Read.{converted}
use Rattle.json_tree.specs.Keeping.{kept_if_fits}
use Rattle.json_tree.proofs.KeepingLemmas.{whole_kept}
use Rattle.json_tree.proofs.keeping.kept_of_text.Goals as goal

pub returns-in-None-clause-tree : goal.returns-in-None-clause-tree
returns-in-None-clause-tree g c =
    let has = g.N.Names.has in
    let text = c.args.text.now in
    let tree = value_view c.in-Ok-keep_value.tree in
    let begun : c.in-Ok.reader ≡ tokens text = c.in-Ok.ensures.ok in
    let ended : c.keep_value.new.reader ≡ [] = grind arith in
    let kept : converted (kept_if_fits has) (value 127 c.in-Ok.reader) ≡ Some (tree, c.keep_value.new.reader) = c.in-Ok-keep_value.ensures.ok in
    let whole : converted (kept_if_fits has) (value 127 (tokens text)) ≡ Some (tree, []) = rw (← begun, ← ended) kept in
    whole_kept has (value 127 (tokens text)) tree whole
