-- What the program makes of its policy and of the end of its session: a line of text, if anything went wrong, and a
-- status.

use Rattle.std.specs.Prelude.{◌≡◌, ℕ, Bool, List, [], ◌⊎◌, Option, Some, Result, Ok, Err, true, false}
use Rattle.sr_book.specs.{BookState}
use Rattle.sr_book.specs.Records.{empty_book}
use Rattle.sr_session.specs.{RunsAs}
use Rattle.sr_session.specs.declared.run.End.{End}
use Rattle.sr_session.specs.declared.run.End.TheVariants as ends
use Rattle.sr_session.specs.declared.run.Ended.{Ended}
use Rattle.sr_start.specs.declared.fault.Fault.{Fault}
use Rattle.sr_start.specs.declared.fault.Fault.TheVariants as faults
use Rattle.sr_start.specs.Policy.{Loads}
use Rattle.sr_policy.specs.Rules.{Rules}

-- what went wrong in a session that ended so, if anything
abbrev pub outcome_of : End → Result (Unit {0}) Fault
outcome_of ends.Closed = Ok tt
outcome_of ends.Protocol = Err faults.Protocol
outcome_of ends.ReadFault = Err faults.Read
outcome_of (ends.SendFault sent) = Err faults.Write
outcome_of ends.Turns = Err faults.Turns
outcome_of ends.Memory = Err faults.SessionMemory
outcome_of ends.Desk = Err faults.Desk

-- the status of the program: 0 if nothing went wrong, and otherwise 1
abbrev pub status_of : Result (Unit {0}) Fault → ℕ
status_of (Ok done) = 0
status_of (Err fault) = 1

-- the bytes written are what a session that starts with an empty book and these rules writes for the bytes taken, with
-- BLOCK as not given, and its end has this outcome
pub record Serves (may_tell : ℕ → Bool) (rules : Rules) (taken written : List ℕ)
    (outcome : Result (Unit {0}) Fault) : Type 0 where
  pub ended : Ended
  pub now : Option BookState
  pub session : RunsAs may_tell false (Some (empty_book rules)) taken written ended now
  pub told : outcome ≡ outcome_of ended.end

-- the program loads rules and serves a session by them with this outcome; or it does not come to one, and takes and
-- writes nothing
pub data Runs (may_tell : ℕ → Bool) (may_hold : List ℕ → Option (List ℕ) → Bool) (policy : Option (List ℕ))
    (taken written : List ℕ) (outcome : Result (Unit {0}) Fault) : Type 0 where
  serves : (rules : Rules) → Loads may_hold policy (Ok rules) → Serves may_tell rules taken written outcome
      → Runs may_tell may_hold policy taken written outcome
  loads_not : (fault : Fault) → taken ≡ [] → written ≡ [] → Loads may_hold policy (Err fault) → outcome ≡ Err fault
      → Runs may_tell may_hold policy taken written outcome
  starts_not : taken ≡ [] → written ≡ [] → (outcome ≡ Err faults.StartMemory) ⊎ (outcome ≡ Err faults.NoRandomSource)
      → Runs may_tell may_hold policy taken written outcome

-- a fault of the session, and not one that comes before it
abbrev pub is_of_session : Fault → Bool
is_of_session faults.StartMemory = false
is_of_session faults.NoRandomSource = false
is_of_session faults.NoThread = false
is_of_session faults.PolicyUnreadable = false
is_of_session faults.PolicyNotToml = false
is_of_session faults.PolicyShape = false
is_of_session faults.PolicyRange = false
is_of_session faults.PolicyMemory = false
is_of_session faults.Bind = false
is_of_session faults.Accept = false
is_of_session faults.Protocol = true
is_of_session faults.Read = true
is_of_session faults.Write = true
is_of_session faults.Turns = true
is_of_session faults.SessionMemory = true
is_of_session faults.Desk = true
