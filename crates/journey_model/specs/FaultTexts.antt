-- The texts of the faults for which an item, an update or a situation is set aside: the fault's name, then its
-- arguments in order, each after a space.
use Rattle.std.specs.Prelude.{ℕ, List, ◌++◌, codes, decimal}
use Rattle.std.specs.Fmt.{signed_decimal}
use Rattle.gw_base.specs.Member.{member_name}
use Rattle.journey_model.specs.declared.fault.Fault.{Fault}
use Rattle.journey_model.specs.declared.fault.Fault.TheVariants.{BadField, AddedJourney, UnknownJourney, OutOfWindow, NotRunning, UnknownStop, OutOfOrder, DelayRange, Full, UnknownRef, NoAffects, EntityTooLong, NoDate, StopMismatch, NoTime, OtherRelation, OtherPlace, PlacesTooLong}

abbrev pub fault_text : Fault → List ℕ
fault_text (BadField member) = codes "BadField " ++ member_name member
fault_text AddedJourney = codes "AddedJourney"
fault_text UnknownJourney = codes "UnknownJourney"
fault_text OutOfWindow = codes "OutOfWindow"
fault_text NotRunning = codes "NotRunning"
fault_text (UnknownStop number) = codes "UnknownStop " ++ decimal number
fault_text (OutOfOrder number) = codes "OutOfOrder " ++ decimal number
fault_text (DelayRange number delay) = codes "DelayRange " ++ decimal number ++ codes " " ++ signed_decimal delay
fault_text Full = codes "Full"
fault_text (UnknownRef member) = codes "UnknownRef " ++ member_name member
fault_text NoAffects = codes "NoAffects"
fault_text (EntityTooLong bytes) = codes "EntityTooLong " ++ decimal bytes
fault_text NoDate = codes "NoDate"
fault_text (StopMismatch number) = codes "StopMismatch " ++ decimal number
fault_text (NoTime number) = codes "NoTime " ++ decimal number
fault_text (OtherRelation relation) = codes "OtherRelation " ++ signed_decimal relation
fault_text (OtherPlace number) = codes "OtherPlace " ++ decimal number
fault_text (PlacesTooLong bytes) = codes "PlacesTooLong " ++ decimal bytes
