-- The status of a refusal (RFC 9110, section 15).
use Rattle.std.specs.Prelude.{ℕ, List, codes}
use Rattle.http_talk.specs.declared.refusal.Refusal.{Refusal}
use Rattle.http_talk.specs.declared.refusal.Refusal.TheVariants.{Head, Cut, Length, NotFound, Method, NeedLength, TooLarge, TooManyFields, Clock, Journal, JournalFull, Memory, Body}

-- a code of three digits, and the reason
pub record Status : Type 0 where
  pub code : ℕ
  pub reason : List ℕ

abbrev pub status_of : Refusal → Status
status_of Head = record { code = 400; reason = codes "Bad Request" }
status_of Cut = record { code = 400; reason = codes "Bad Request" }
status_of Length = record { code = 400; reason = codes "Bad Request" }
status_of NotFound = record { code = 404; reason = codes "Not Found" }
status_of (Method allow) = record { code = 405; reason = codes "Method Not Allowed" }
status_of NeedLength = record { code = 411; reason = codes "Length Required" }
status_of TooLarge = record { code = 413; reason = codes "Content Too Large" }
status_of TooManyFields = record { code = 431; reason = codes "Request Header Fields Too Large" }
status_of Clock = record { code = 500; reason = codes "Internal Server Error" }
status_of Journal = record { code = 500; reason = codes "Internal Server Error" }
status_of JournalFull = record { code = 500; reason = codes "Internal Server Error" }
status_of Memory = record { code = 503; reason = codes "Service Unavailable" }
status_of (Body fault) = record { code = 400; reason = codes "Bad Request" }
