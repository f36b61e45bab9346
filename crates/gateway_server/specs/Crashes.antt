-- The bodies that were posted to a server which keeps them before they are taken, by its log.
use Rattle.std.specs.Prelude.{◌≡◌, ◌⊎◌, Bool, true, false, List, [], ◌∷◌, Some}
use Rattle.gw_base.specs.declared.door.Entry.{Entry}
use Rattle.gw_base.specs.declared.door.Mark.{Mark}
use Rattle.http_talk.specs.Request.{IsRequest, Post}
use Rattle.delivery_journal.specs.Kept.{KeptBody}
use Rattle.gateway_server.specs.Log.{is_taken}
use Rattle.gateway_server.specs.Past.{is_unkept}

-- a body was posted in a connection, with its kind and at its moment
pub record IsPostedIn (entry : Entry) (one : KeptBody) : Type 0 where
  pub asks : IsRequest entry.input (Post one.kind one.body)
  pub moment : entry.moment ≡ Some one.moment

-- the bodies that were posted in those of these connections whose mark is one of some, in their order
abbrev pub AreBodies : (Mark → Bool) → List Entry → List KeptBody → Type 0
AreBodies is_one [] bodies = bodies ≡ []
AreBodies is_one (entry ∷ later) bodies =
    ((is_one entry.mark ≡ false) × AreBodies is_one later bodies)
    ⊎ ((is_one entry.mark ≡ true) × (first : KeptBody) × (rest : List KeptBody) × (bodies ≡ first ∷ rest)
    × IsPostedIn entry first × AreBodies is_one later rest)

-- this holds of the bodies that were taken in these connections, which are marked Taken or Fed, and of those of which
-- keeping failed, which are marked Unkept; there are none of the latter where more can be taken
pub record HoldsOfBodies (Holds : List KeptBody → List KeptBody → Type 0) (is_sound : Bool) (entries : List Entry)
    : Type 0 where
  pub taken : List KeptBody
  pub failed : List KeptBody
  pub taken_are : AreBodies is_taken entries taken
  pub failed_are : AreBodies is_unkept entries failed
  pub none_failed : is_sound ≡ true → failed ≡ []
  pub holds : Holds taken failed
