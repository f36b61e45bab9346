-- What makes a feed: one body of a message, a header, and an entity more.
use Rattle.std.proofs.Common.{◌≡◌, ℕ, pos, ◌≤◌, List, [], ◌∷◌, ◌++◌, length, refl, arith}
use Rattle.std.proofs.lemmas.List.{append-nil}
use Rattle.std.proofs.lemmas.List.Elements.{filter_map-append}
use Rattle.std.specs.Prelude.{None, IsUtf8}
use Rattle.std.specs.List.{AllZip}
use Rattle.gw_base.specs.declared.messages.Entity.{Entity}
use Rattle.gw_base.specs.declared.messages.Feed.{Feed}
use Rattle.wire_fields.specs.Grammar.{Bytes, WireField, IsSpelling}
use Rattle.wire_fields.specs.Spelling.{bytes_field}
use Rattle.wire_fields.proofs.Lists.{Concatenates-append, Concatenates-one}
use Rattle.wire_fields.proofs.Written.{bytes_field_written}
use Rattle.feed_reading.specs.Meaning.{bodies, Means}
use Rattle.feed_reading.specs.Tables.{OfFeedEntity, OfFeedHeader, MeansFeed, MeansEntity}
use Rattle.feed_reading.proofs.FieldLengths.{length-bytes_field}

-- a body alone is all bodies
pub one_body : {M : Type 0} (Table : List WireField → M → Type 0) (body : List ℕ) (message : M)
    → Means Table body message → Means Table (body ++ []) message
one_body Table body message h = rw (append-nil body) h

-- the least feed: its header has an empty version and nothing else, and there are no entities
no_bytes_are_text : IsUtf8 []
unfolding lib.Utf8.encode
no_bytes_are_text = ([], (refl, refl))

abbrev body_field : ℕ → List ℕ → WireField
body_field number body = record { number = number; payload = Bytes body }

least_header : Means OfFeedHeader (bytes_field 1 []) (record { version = []; incrementality = pos 0; timestamp = None })
least_header = record {
  fields = body_field 1 [] ∷ [];
  read = Concatenates-one (IsSpelling 64) (body_field 1 []) (bytes_field 1 [])
      (bytes_field_written 1 [] (omega arith) (omega arith) (omega arith));
  table = record { gtfs_realtime_version = ((no_bytes_are_text, tt), refl); incrementality = refl; timestamp = refl };
}

pub least_feed : MeansFeed (bytes_field 1 (bytes_field 1 []))
    (record { version = []; incrementality = pos 0; timestamp = None; entities = [] })
least_feed =
    let short : length (bytes_field 1 []) ≤ 20 = length-bytes_field 1 [] (omega arith) (omega arith) in record {
      fields = body_field 1 (bytes_field 1 []) ∷ [];
      read = Concatenates-one (IsSpelling 64) (body_field 1 (bytes_field 1 [])) (bytes_field 1 (bytes_field 1 []))
          (bytes_field_written 1 (bytes_field 1 []) (omega arith) (omega arith) (omega arith));
      table = record {
        header = (((least_header.fields, least_header.read), tt), one_body OfFeedHeader _ _ least_header);
        entity = tt;
      };
    }

-- an entity more
pub AllZip-push : {A B : Type 0} (R : A → B → Type 0) (xs : List A) (ys : List B) (x : A) (y : B) → AllZip R xs ys
    → R x y → AllZip R (xs ++ x ∷ []) (ys ++ y ∷ [])
AllZip-push R [] [] x y h r = (r, tt)
AllZip-push R [] (b ∷ ys) x y h r = absurd h
AllZip-push R (a ∷ xs) [] x y h r = absurd h
AllZip-push R (a ∷ xs) (b ∷ ys) x y h r = (h.0, AllZip-push R xs ys x y h.1 r)

pub bodies-more : (number : ℕ) (fields more : List WireField)
    → bodies number (fields ++ more) ≡ bodies number fields ++ bodies number more
bodies-more number fields more = filter_map-append _ fields more

pub means_more : (front back : List ℕ) (feed : Feed) (entity : Entity) → MeansFeed front feed → MeansEntity back entity
    → MeansFeed (front ++ back)
    (record {
      version = feed.version;
      incrementality = feed.incrementality;
      timestamp = feed.timestamp;
      entities = feed.entities ++ entity ∷ [];
    })
means_more front back feed entity h k = record {
  fields = h.fields ++ body_field 2 k.body ∷ [];
  read = Concatenates-append (IsSpelling 64) h.fields (body_field 2 k.body ∷ []) front back h.read k.field;
  table = record {
    header = rw (bodies-more 1 h.fields (body_field 2 k.body ∷ []), append-nil (bodies 1 h.fields)) h.table.header;
    entity = rw (bodies-more 2 h.fields (body_field 2 k.body ∷ []))
        (AllZip-push (Means OfFeedEntity) (bodies 2 h.fields) feed.entities k.body entity h.table.entity k.means);
  };
}
