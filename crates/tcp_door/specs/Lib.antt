pub mod DoorOfTcp
