-- Situations whose texts a delivery can say.
use Rattle.std.specs.Prelude.{IfSome, IsUtf8}
use Rattle.journey_model.specs.declared.situation.Situation.{Situation}

-- its number, its summary and its description are UTF-8
abbrev pub HasUtf8 : Situation → Type 0
HasUtf8 one = IsUtf8 one.number × IfSome one.summary IsUtf8 × IfSome one.description IsUtf8
