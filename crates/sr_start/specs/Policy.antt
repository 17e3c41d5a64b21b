-- What the program makes of the policy file that its command line names: rules, or a fault.
-- Source: docs/POLICY.md.

use Rattle.std.specs.Prelude.{◌≡◌, ℕ, Bool, true, IsTrue, List, ◌⊎◌, Option, Some, None, Result, Ok, Err}
use Rattle.sr_policy.specs.Rules.{Rules, no_rules}
use Rattle.sr_policy.specs.File.{meaning_of}
use Rattle.sr_policy.specs.declared.file.PolicyFault.{PolicyFault}
use Rattle.sr_policy.specs.declared.file.PolicyFault.TheVariants as policy
use Rattle.sr_start.specs.declared.fault.Fault.{Fault}
use Rattle.sr_start.specs.declared.fault.Fault.TheVariants as faults

-- what the program says of a text that is not a policy
abbrev pub fault_of : PolicyFault → Fault
fault_of policy.Toml = faults.PolicyNotToml
fault_of policy.Shape = faults.PolicyShape
fault_of policy.Range = faults.PolicyRange
fault_of policy.Memory = faults.PolicyMemory

abbrev pub told_of : Result Rules PolicyFault → Result Rules Fault
told_of (Ok rules) = Ok rules
told_of (Err fault) = Err (fault_of fault)

-- what comes of a file that holds this text, or none that can be read
abbrev pub loaded_from : Option (List ℕ) → Result Rules Fault
loaded_from None = Err faults.PolicyUnreadable
loaded_from (Some text) = told_of (meaning_of text)

-- what is loaded: without a file no rules; and with one what comes of a text that it may hold, unless an allocation
-- fails
abbrev pub Loads : (List ℕ → Option (List ℕ) → Bool) → Option (List ℕ) → Result Rules Fault → Type 0
Loads may_hold None loaded = loaded ≡ Ok no_rules
Loads may_hold (Some path) loaded =
    (loaded ≡ Err faults.PolicyMemory) ⊎ ((held : Option (List ℕ)) × IsTrue (may_hold path held)
    × (loaded ≡ loaded_from held))

-- a file of the system may hold any text, or none that can be read
abbrev pub any_text : List ℕ → Option (List ℕ) → Bool
any_text path held = true
