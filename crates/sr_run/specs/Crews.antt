-- Workers that are told apart by halves. No public clause cites this.
use Rattle.std.specs.Prelude.{⊤, ◌≡◌, ◌<◌, ◌≤◌, ◌+◌, ◌*◌, ℕ, zero, suc, List, [], ◌∷◌, ◌++◌, length, take, Result, Ok}
use Rattle.std.specs.Prelude.{Err}
use Rattle.sr_args.specs.declared.call.Call.{Call}
use Rattle.sr_seats.specs.{SeatState, count_before, count_made, new_seat}
use Rattle.sr_run.specs.Shared.{RefusesEvent}
use Rattle.sr_run.specs.Worked.{AreWorked, count_calls, joined_up}
use Rattle.sr_run.specs.declared.fault.RunFault.{RunFault}
use Rattle.sr_run.specs.declared.fault.RunFault.TheVariants as faults
use Rattle.sr_seats.specs.declared.receipt.Receipt.{Receipt}

-- the number of the first seat, and the script of each
pub record CrewState : Type 0 where
  pub first : ℕ
  pub scripts : List (List Call)

-- this many seats that have done and seen nothing, numbered on from this number
abbrev pub seats_from : ℕ → ℕ → List SeatState
seats_from first zero = []
seats_from first (suc n) = new_seat 0 first ∷ seats_from (first + 1) n

-- the seats of a crew have done and seen nothing
pub record IsCrew (first : ℕ) (seats : List SeatState) (scripts : List (List Call)) : Type 0 where
  pub new : seats ≡ seats_from first (length scripts)
  pub few : first + length scripts ≤ 64

-- two crews as one
abbrev pub joined : CrewState → CrewState → CrewState
joined front back = record { first = front.first; scripts = front.scripts ++ back.scripts }

-- neither is empty, and the seats of the second count on from those of the first
pub record AreHalves (front back : CrewState) : Type 0 where
  pub next : back.first ≡ front.first + length front.scripts
  pub some_front : 0 < length front.scripts
  pub some_back : 0 < length back.scripts

-- each event of a crew was carried out
pub record HasWorked (crew : CrewState) (seats : List SeatState) (receipts : List Receipt) : Type 0 where
  pub groups : List (List Receipt)
  pub whole : receipts ≡ joined_up groups
  pub worked : AreWorked crew.first crew.scripts groups
  pub all : length seats ≡ length crew.scripts
  pub shares : count_made seats ≡ count_calls crew.scripts + 2 * length crew.scripts
  pub fresh : count_before seats ≡ 0

-- of these scripts, whose seats count on from this number, the one at this place was stopped, and those before it have
-- receipts
pub record IsStopped (number : ℕ) (scripts : List (List Call)) (at : ℕ) : Type 0 where
  pub within : at < length scripts
  pub receipts : List (List Receipt)
  pub worked : AreWorked number (take at scripts) receipts

-- why a crew has not worked: an event was refused to one of it
abbrev pub HasNotWorked : CrewState → RunFault → Type 0
HasNotWorked crew faults.Count = ⊥
HasNotWorked crew faults.Memory = ⊤
HasNotWorked crew (faults.Worker at fault) =
    (place : ℕ) × (at ≡ crew.first + place) × IsStopped crew.first crew.scripts place × RefusesEvent fault
HasNotWorked crew (faults.Close fault) = ⊥
HasNotWorked crew (faults.Skipped count) = ⊥
HasNotWorked crew faults.Thread = ⊤

-- the fault that is told if each half has one
abbrev pub first_of : RunFault → RunFault → RunFault
first_of fault faults.Count = fault
first_of fault faults.Memory = fault
first_of fault (faults.Worker at other) = fault
first_of fault (faults.Close other) = fault
first_of fault (faults.Skipped count) = fault
first_of fault faults.Thread = faults.Thread

-- what came of a crew, by what came of its halves: the seats and the receipts of both, or a fault
abbrev pub AreTogether : {X : Type 0} → (X → List SeatState) → (X → List Receipt) → Result X RunFault
    → Result X RunFault → Result X RunFault → Type 0
AreTogether seats receipts (Ok one) (Ok two) (Ok all) = (seats all ≡ seats one ++ seats two)
    × (receipts all ≡ receipts one ++ receipts two)
AreTogether seats receipts (Ok one) (Ok two) (Err fault) = fault ≡ faults.Memory
AreTogether seats receipts (Ok one) (Err other) (Ok all) = ⊥
AreTogether seats receipts (Ok one) (Err other) (Err fault) = fault ≡ other
AreTogether seats receipts (Err other) (Ok two) (Ok all) = ⊥
AreTogether seats receipts (Err other) (Ok two) (Err fault) = fault ≡ other
AreTogether seats receipts (Err one) (Err other) (Ok all) = ⊥
AreTogether seats receipts (Err one) (Err other) (Err fault) = fault ≡ first_of one other
