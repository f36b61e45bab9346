-- What a door shows of its connections, beside the output that it takes as a sink.
use Rattle.std.specs.Prelude.{◌≡◌, ◌↔◌, ℕ, ℤ, Bool, true, false, List, [], ◌∷◌, ◌++◌, Option, Some, None, IfSome, MatchOption}
use Rattle.gw_base.specs.declared.door.Entry.{Entry}
use Rattle.gw_base.specs.declared.door.Mark.{Mark}

-- the inputs of the connections to come, the whole input of the present one with what is unread of it, and the
-- connections that were finished, in order
pub record Connections : Type 0 where
  pub coming : List (List ℕ)
  pub input : List ℕ
  pub unread : List ℕ
  pub log : List Entry

-- whether a connection is present, and the connections where they are told
pub record Beside : Type 0 where
  pub present : Bool
  pub told : Option Connections

-- of a sink that is no door
abbrev pub nothing_beside : Beside
nothing_beside = record { present = false; told = None }

-- the next connection is present, with its whole input unread
abbrev pub Arrives : Beside → Beside → Type 0
Arrives before now =
    (now.present ≡ true)
    × MatchOption before.told (now.told ≡ None) (λ told. (input : List ℕ) × (later : List (List ℕ))
    × (told.coming ≡ input ∷ later)
    × (now.told ≡ Some (record { coming = later; input = input; unread = input; log = told.log })))

-- no connection is to come, and nothing changed
abbrev pub NoneComes : Beside → Beside → Type 0
NoneComes before now = (now ≡ before) × IfSome before.told (λ told. told.coming ≡ [])

-- the piece is the next of the unread input, and empty exactly at its end
abbrev pub Takes : Beside → Beside → List ℕ → Type 0
Takes before now piece =
    (now.present ≡ before.present)
    × MatchOption before.told (now.told ≡ None) (λ told. (rest : List ℕ)
    × (told.unread ≡ piece ++ rest)
    × ((piece ≡ []) ↔ (told.unread ≡ []))
    × (now.told ≡ Some (record { coming = told.coming; input = told.input; unread = rest; log = told.log })))

-- the output of a connection is the one that was told, where it was told
abbrev pub IsOutput : Option (List ℕ) → List ℕ → Type 0
IsOutput told output = IfSome told (λ written. output ≡ written)

-- the present connection's input and output are in the log, under this mark and moment, and none is present
abbrev pub Logs : Beside → Beside → Option (List ℕ) → Mark → Option ℤ → Type 0
Logs before now written mark moment =
    (now.present ≡ false)
    × MatchOption before.told (now.told ≡ None) (λ told. (output : List ℕ) × IsOutput written output
    × (now.told ≡ Some (record {
      coming = told.coming;
      input = [];
      unread = [];
      log = told.log ++ record { input = told.input; mark = mark; moment = moment; output = output } ∷ [];
    })))
