-- What a session at a seat is told, whoever else uses the book meanwhile.
-- Source: docs/DEFINITIONS.md, "The one-thread server".

use Rattle.std.specs.Prelude.{◌≡◌}
use Rattle.sr_seats.specs.{SeatState}
use Rattle.sr_run.specs.Shared.{HasNotMade}
use Rattle.sr_seats.specs.declared.fault.SeatFault.{SeatFault}
use Rattle.sr_seats.specs.declared.fault.SeatFault.TheVariants as faults
use Rattle.sr_session.specs.declared.desk.DeskFault.{DeskFault}
use Rattle.sr_session.specs.declared.desk.DeskFault.TheVariants as desk

-- the reason of a seat, as a desk gives it
abbrev pub desk_fault_of : SeatFault → DeskFault
desk_fault_of (faults.Regress index) = desk.Regress index
desk_fault_of faults.NoSession = desk.NoSession
desk_fault_of faults.Busy = desk.Busy
desk_fault_of faults.Full = desk.Full
desk_fault_of faults.Memory = desk.Memory
desk_fault_of faults.Idle = desk.Idle

-- the seat made nothing, and is as it was; the desk gives the reason of the seat
pub record HasRefused (given : DeskFault) (old new : SeatState) : Type 0 where
  pub reason : SeatFault
  pub same_reason : given ≡ desk_fault_of reason
  pub not_made : HasNotMade reason old new
