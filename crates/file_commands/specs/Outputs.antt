-- The bytes of what a command writes. No definition of what is published cites it.
use Rattle.std.specs.Prelude.{ℕ, List}
use Rattle.gateway_core.specs.Standing.{served}
use Rattle.file_commands.specs.declared.done.Output.{Output}
use Rattle.file_commands.specs.declared.done.Output.TheVariants.{Feed, Text}

-- a text, or the feed that a gateway serves
abbrev pub bytes_of : Output → List ℕ
bytes_of (Text bytes) = bytes
bytes_of (Feed gate at) = served at gate
