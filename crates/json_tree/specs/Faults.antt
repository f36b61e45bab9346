-- What a fault of a reading says.
use Rattle.std.specs.Prelude.{⊤}
use Rattle.json_tree.specs.declared.reading.TreeFault.{TreeFault}
use Rattle.json_tree.specs.declared.reading.TreeFault.TheVariants.{NotJson, Memory}

-- that there is no tree; want of memory says nothing
abbrev pub Says : Type 0 → TreeFault → Type 0
Says NoTree NotJson = NoTree
Says NoTree Memory = ⊤
