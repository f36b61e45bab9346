-- What a sample is made of: the files of its folder (GTFS Schedule), and the zone, the service day and the moment of
-- its deliveries and of its feed.
use Rattle.std.specs.Prelude.{◌≡◌, ℕ, ℤ, pos, List, ◌++◌, codes, length, map, None}
use Rattle.gateway_core.specs.declared.setting.Setting.{Setting}
use Rattle.sample_counts.specs.Counts.{made_day}
use Rattle.sample_maker.specs.Folder.{folder}
use Rattle.command_words.specs.Words.{Scope, by_rule}

-- the name of the folder, and the path of a file in it
abbrev pub made : List ℕ
made = codes "made"

abbrev pub path_in : List ℕ → List ℕ
path_in name = made ++ codes "/" ++ name

-- its files by their paths
abbrev pub made_files : ℕ → ℕ → List (List ℕ × List ℕ)
made_files trips stops = map (λ file. (path_in file.0, file.1)) (folder trips stops)

-- the POSIX rule of the zone
abbrev pub zone_rule : List ℕ
zone_rule = codes "UTC0"

-- the second since 1970 at which the service day starts: then the deliveries arrive, and the feed is made
abbrev pub made_at : ℤ
made_at = pos 1714521600

-- what a sample is worked over: its folder, in that zone, on that day alone
abbrev pub made_scope : Scope
made_scope = record { gtfs = made; zone = by_rule zone_rule; from = made_day; days = 1 }

-- the window has that day alone, and stays
pub record HasMadeDay (setting : Setting) : Type 0 where
  pub first : setting.window.first ≡ made_day
  pub one : length setting.window.starts ≡ 1
  pub stays : setting.keep ≡ None
