-- What the reader of a command answers to the words after the command's name. No public clause cites this module.
-- Source: Redis documentation, the page of each command.

use Rattle.std.specs.Prelude.{◌≡◌, List, Result, Ok, Err}
use Rattle.sr_args.specs.declared.fault.CallFault.{CallFault}
use Rattle.sr_args.specs.declared.fault.CallFault.TheVariants as faults
use Rattle.sr_args.specs.FormWord.{Word, HasNumbers, HasIds}
use Rattle.sr_args.specs.Form.{Form, Reading, Values, places, Reads, Means}

-- the words fit the form, and what they mean is this
pub record GivesCall {C : Type 0} (form : Form) (call_of : Values form
    → C) (words : List Word) (call : C) : Type 0 where
  pub reading : Reading form
  pub reads : Reads form words reading
  pub values : Values form
  pub means : Means form reading values
  pub is : call ≡ call_of values

-- what the words ask for, as a call or as a part of one, or the first reason why they are not of this form
abbrev pub Gives : {C : Type 0} → (form : Form) → (Values form → C) → List Word → Result C CallFault → Type 0
Gives form call_of words (Ok call) = GivesCall form call_of words call
Gives form call_of words (Err faults.Unknown) = ⊥
Gives form call_of words (Err faults.Arity) = ⊥
Gives form call_of words (Err faults.Syntax) = (reading : Reading form) → Reads form words reading → ⊥
Gives form call_of words (Err faults.Number) =
    (reading : Reading form) × Reads form words reading × (HasNumbers (places form reading) → ⊥)
Gives form call_of words (Err faults.BadId) =
    (reading : Reading form) × Reads form words reading × HasNumbers (places form reading) ×
    (HasIds (places form reading) → ⊥)
Gives {C = C} form call_of words (Err faults.Memory) = (call : C) × GivesCall form call_of words call
