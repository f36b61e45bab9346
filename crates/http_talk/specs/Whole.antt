-- What the reader of a whole input answers, as a request.
use Rattle.std.specs.Prelude.{Result, Ok, Err}
use Rattle.http_talk.specs.declared.refusal.Refusal.{Refusal}
use Rattle.http_talk.specs.declared.whole.WholeRequest.{WholeRequest}
use Rattle.http_talk.specs.declared.whole.WholeRequest.TheVariants as whole
use Rattle.http_talk.specs.Request.{Request, Get, Post, Refused}

abbrev pub told : Result WholeRequest Refusal → Request
told (Ok (whole.Get resource)) = Get resource
told (Ok (whole.Post kind body)) = Post kind body.now
told (Err why) = Refused why
