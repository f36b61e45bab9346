-- What words of SIRI mean: whether a situation is served (Progress), and its cause and effect as numbers of GTFS
-- Realtime (Alert.Cause of the reason members, Alert.Effect of Condition).
use Rattle.std.specs.Prelude.{◌||◌, ◌==◌, ℕ, ℤ, Bool, true, not, List, length, codes, Option, Some, None, if◌then◌else◌}
use Rattle.std.specs.Str.{bytes_eq}
use Rattle.gw_base.specs.Enums.{additional_service, detour, modified_service, no_service, other_cause, significant_delays, technical_problem, unknown_cause, unknown_effect, weather}
use Rattle.serde_json.specs.Data.{Data}
use Rattle.serde_json.specs.Find.{get}
use Rattle.siri_json.specs.Frame.{repeated_at}
use Rattle.siri_json.specs.Words.{is_word}

-- a situation is served unless its progress is `closed` or `draft`
abbrev pub is_served : Option (List ℕ) → Bool
is_served None = true
is_served (Some progress) = not (is_word (codes "closed") progress || is_word (codes "draft") progress)

-- a reason is present unless its member is missing; its value isn't looked at
abbrev pub is_present : List ℕ → Data → Bool
is_present name tree = not (length (repeated_at (get name tree)) == 0)

-- the cause by the first reason that is present
abbrev pub cause : Data → ℤ
cause tree =
    if is_present (codes "EquipmentReason") tree then technical_problem else
    (if is_present (codes "EnvironmentReason") tree then weather else
    (if is_present (codes "PersonnelReason") tree then other_cause else
    (if is_present (codes "MiscellaneousReason") tree then other_cause else unknown_cause)))

-- the effect by the condition, with its case
abbrev pub effect_named : List ℕ → ℤ
effect_named condition =
    if bytes_eq condition (codes "cancelled") then no_service else
    (if bytes_eq condition (codes "noService") then no_service else
    (if bytes_eq condition (codes "delayed") then significant_delays else
    (if bytes_eq condition (codes "diverted") then detour else
    (if bytes_eq condition (codes "additionalService") then additional_service else
    (if bytes_eq condition (codes "altered") then modified_service else
    (if bytes_eq condition (codes "disrupted") then modified_service else unknown_effect))))))

-- the effect where the condition may be missing
abbrev pub effect_of : Option (List ℕ) → ℤ
effect_of None = unknown_effect
effect_of (Some condition) = effect_named condition
