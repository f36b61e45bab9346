-- A field without where its bytes lie in memory.
use Rattle.wire_fields.specs.declared.field.Field.{Field}
use Rattle.wire_fields.specs.declared.field.Value.{Value}
use Rattle.wire_fields.specs.declared.field.Value.TheVariants as values
use Rattle.wire_fields.specs.declared.item.Item.{Item}
use Rattle.wire_fields.specs.declared.item.Item.TheVariants as items
use Rattle.wire_fields.specs.Grammar.{Payload, Varint, Fixed64, Bytes, Group, Fixed32, WireField}
use Rattle.wire_fields.specs.Grammar as grammar

-- what a field holds
abbrev pub payload_of : Value → Payload
payload_of (values.Varint value) = Varint value
payload_of (values.Fixed64 value) = Fixed64 value
payload_of (values.Bytes body) = Bytes body.now
payload_of values.Group = Group
payload_of (values.Fixed32 value) = Fixed32 value

-- a field
abbrev pub field_of : Field → WireField
field_of field = record { number = field.number; payload = payload_of field.value }

-- an item
abbrev pub item_of : Item → grammar.Item
item_of (items.Holds field) = grammar.Holds (field_of field)
item_of (items.Ends number) = grammar.Ends number
