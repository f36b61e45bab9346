-- Where the bodies mean no header, the fields mean no feed.
use Rattle.std.proofs.Common.{List}
use Rattle.std.specs.Prelude.{Some}
use Rattle.wire_fields.specs.Grammar.{WireField}
use Rattle.feed_reading.specs.Tables as tables
use Rattle.feed_reading.specs.Tables.{OfFeedHeader, header_of}
use Rattle.feed_reading.specs.declared.plain.tables.Header.{Header}
use Rattle.feed_reading.proofs.Finding.{passed_on, joined_along}
use Rattle.feed_reading.proofs.plain.tables.FeedMessage.of_fields.Goals as goal

abbrev Wrapped : List WireField → Header → Type 0
Wrapped fields header =
    OfFeedHeader fields
    (record { version = header.version; incrementality = header.incrementality; timestamp = header.timestamp })

abbrev wrapped : tables.Header → Header
wrapped header =
    record { version = header.version; incrementality = header.incrementality; timestamp = header.timestamp }

pub returns-in_err-version : goal.returns-in_err-version
returns-in_err-version c =
    passed_on _ _ _ _ c.from_residual.ensures.1 c.in_err-version.ensures
    (λ feed whole. (
      wrapped (header_of feed),
      (
        whole.header.0,
        joined_along OfFeedHeader Wrapped wrapped (λ fields header h. h) _ (Some (header_of feed))
            whole.header.1,
      ),
    ))
