-- The numbers of the enums of GTFS Realtime that are read or written (gtfs-realtime.proto).
use Rattle.std.specs.Prelude.{ℤ, pos}

-- FeedHeader.Incrementality
abbrev pub differential : ℤ
differential = pos 1

-- TripDescriptor.ScheduleRelationship
abbrev pub trip_scheduled : ℤ
trip_scheduled = pos 0

abbrev pub trip_canceled : ℤ
trip_canceled = pos 3

-- StopTimeUpdate.ScheduleRelationship
abbrev pub stop_scheduled : ℤ
stop_scheduled = pos 0

abbrev pub stop_skipped : ℤ
stop_skipped = pos 1

abbrev pub stop_no_data : ℤ
stop_no_data = pos 2

-- Alert.Cause; MEDICAL_EMERGENCY is the last
abbrev pub unknown_cause : ℤ
unknown_cause = pos 1

abbrev pub other_cause : ℤ
other_cause = pos 2

abbrev pub technical_problem : ℤ
technical_problem = pos 3

abbrev pub weather : ℤ
weather = pos 8

abbrev pub medical_emergency : ℤ
medical_emergency = pos 12

-- Alert.Effect
abbrev pub no_service : ℤ
no_service = pos 1

abbrev pub significant_delays : ℤ
significant_delays = pos 3

abbrev pub detour : ℤ
detour = pos 4

abbrev pub additional_service : ℤ
additional_service = pos 5

abbrev pub modified_service : ℤ
modified_service = pos 6

abbrev pub unknown_effect : ℤ
unknown_effect = pos 8
