-- What workers did with their scripts, if each of their events was carried out.
-- Source: docs/DEFINITIONS.md, "The one-thread server".

use Rattle.std.specs.Prelude.{⊤, ◌≡◌, ◌≢◌, ◌<◌, ◌+◌, ◌*◌, ℕ, List, [], ◌∷◌, All, length, map, sum_by}
use Rattle.std.specs.List.{flat_map}
use Rattle.sr_args.specs.declared.call.Call.{Call}
use Rattle.sr_book.specs.{BookState}
use Rattle.sr_run.specs.Closed.{AreCompared, IsClosed}
use Rattle.sr_run.specs.Shared.{RefusesEvent}
use Rattle.sr_seats.specs.declared.fault.CloseFault.TheVariants as closing
use Rattle.sr_run.specs.declared.fault.RunFault.{RunFault}
use Rattle.sr_run.specs.declared.fault.RunFault.TheVariants as faults
use Rattle.sr_seats.specs.declared.receipt.Receipt.{Receipt}

-- a receipt for each call of a script, in order, all from one seat and of one session
pub record IsWorked (number : ℕ) (script : List Call) (receipts : List Receipt) : Type 0 where
  pub caller : ℕ
  pub calls : map (λ receipt. receipt.call) receipts ≡ script
  pub seats : All (λ receipt. receipt.seat ≡ number) receipts
  pub sessions : All (λ receipt. receipt.session ≡ caller) receipts

-- so for each script, from seats that count on from this number
abbrev pub AreWorked : ℕ → List (List Call) → List (List Receipt) → Type 0
AreWorked number [] [] = ⊤
AreWorked number [] (receipts ∷ others) = ⊥
AreWorked number (script ∷ scripts) [] = ⊥
AreWorked number (script ∷ scripts) (receipts ∷ others) = IsWorked number script receipts
    × AreWorked (number + 1) scripts others

-- the lists one after the other
abbrev pub joined_up : {X : Type 0} → List (List X) → List X
joined_up lists = flat_map (λ list. list) lists

-- how many calls the scripts have
abbrev pub count_calls : List (List Call) → ℕ
count_calls scripts = sum_by length scripts

-- a run of scripts: the receipts of each are those of its calls, each worker made two events besides, and it is closed
-- with them, each of which is compared with its record
pub record HasRun (scripts : List (List Call)) (receipts : List (List Receipt)) (book : BookState) (acts skipped : ℕ) :
    Type 0 where
  pub worked : AreWorked 0 scripts receipts
  pub counted : acts ≡ count_calls scripts + 2 * length scripts
  pub closed : IsClosed 0 (joined_up receipts) [] book acts skipped
  pub compared : AreCompared book (joined_up receipts)

-- why scripts have not run: an event was refused to one of them; or the run, whose seats are all there, is not closed,
-- or is not compared with so many receipts, whose records are kept no longer
abbrev pub HasNotRun : List (List Call) → RunFault → Type 0
HasNotRun scripts faults.Count = ⊤
HasNotRun scripts faults.Memory = ⊤
HasNotRun scripts (faults.Worker at fault) = (at < length scripts) × RefusesEvent fault
HasNotRun scripts (faults.Close fault) = fault ≢ closing.Short
HasNotRun scripts (faults.Skipped count) = 0 < count
HasNotRun scripts faults.Thread = ⊤
