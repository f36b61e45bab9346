-- A byte that has no escape.
use Rattle.siri_json.proofs.PlainBytes.{plain_byte}
use Rattle.siri_json.proofs.writing.is_plain.Goals as goal

pub returns-then-byte-ne34 : goal.returns-then-byte-ne34
returns-then-byte-ne34 c h = plain_byte c.args.byte c.if-byte-ne34.true.0 c.if-byte-ne34.true.1 h
