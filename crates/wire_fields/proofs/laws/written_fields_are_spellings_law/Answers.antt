use Rattle.wire_fields.proofs.Written.{varint_written, varint_field_written, bytes_field_written}
use Rattle.wire_fields.proofs.laws.written_fields_are_spellings_law.Goals as goal

pub returns-clause-varint : goal.returns-clause-varint
returns-clause-varint c = varint_written

pub returns-clause-number : goal.returns-clause-number
returns-clause-number c = varint_field_written

pub returns-clause-bytes : goal.returns-clause-bytes
returns-clause-bytes c = bytes_field_written
