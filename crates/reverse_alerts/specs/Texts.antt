-- What only private functions cite: the texts of entities and of their alerts are UTF-8.
use Rattle.std.specs.Prelude.{IfSome, IsUtf8}
use Rattle.gw_base.specs.declared.messages.Alert.{Alert}
use Rattle.gw_base.specs.declared.messages.Entity.{Entity}
use Rattle.reverse_alerts.specs.Senses.{first_text}

-- the texts of an alert, and of an entity with its id, are UTF-8
abbrev pub SaysTexts : Alert → Type 0
SaysTexts alert = IfSome (first_text alert.header) IsUtf8 × IfSome (first_text alert.description) IsUtf8

abbrev pub HasTexts : Entity → Type 0
HasTexts entity = IsUtf8 entity.id × IfSome entity.alert SaysTexts
