-- Why a reply says nothing. No public clause cites it.

use Rattle.std.specs.Prelude.{⊤, ◌≡◌, ℕ, ℤ, pos, Result, Ok, Err, List, ◌∷◌, ◌++◌}
use Rattle.sr_policy.specs.{Text}
use Rattle.sr_peer.specs.{Part, Array, Bulk, Int}
use Rattle.sr_peer.specs.Reply.{Error}
use Rattle.sr_peer.specs.declared.peer.PeerFault.TheVariants as peer
use Rattle.sr_live.specs.declared.conclusion.Concluded.{Concluded}
use Rattle.sr_live.specs.declared.fault.LiveCall.{LiveCall}
use Rattle.sr_live.specs.declared.fault.LiveCall.TheVariants.{Script}
use Rattle.sr_live.specs.declared.fault.LiveFault.{LiveFault}
use Rattle.sr_live.specs.declared.fault.LiveFault.TheVariants as fault
use Rattle.sr_live.specs.declared.said.Misread.{Misread}
use Rattle.sr_live.specs.declared.said.Misread.TheVariants.{ErrorReply, Memory, Shape}
use Rattle.sr_live.specs.Conclusion.{SaysConcluded, SaysError}

-- what parts can begin with

abbrev pub HaveItems : List Part → Type 0
HaveItems parts = (count : ℕ) × (rest : List Part) × (parts ≡ Array count ∷ rest)

abbrev pub HaveText : List Part → Type 0
HaveText parts = (text : Text) × (rest : List Part) × (parts ≡ Bulk text ∷ rest)

abbrev pub HaveInteger : List Part → Type 0
HaveInteger parts = (number : ℤ) × (rest : List Part) × (parts ≡ Int number ∷ rest)

abbrev pub HaveNatural : List Part → Type 0
HaveNatural parts = (number : ℕ) × (rest : List Part) × (parts ≡ Int (pos number) ∷ rest)

-- a reply of the script is a conclusion; so are three items with this word in front
abbrev pub Conclude : List Part → Type 0
Conclude parts = (concluded : Concluded) × SaysConcluded parts concluded

abbrev pub ConcludeAfter : Text → List Part → Type 0
ConcludeAfter word parts = Conclude (Array 3 ∷ Bulk word ∷ parts)

-- why parts are not read: memory is refused, or they are not so
abbrev pub IsUnlike : Type 0 → Misread → Type 0
IsUnlike so Memory = ⊤
IsUnlike so (ErrorReply text) = ⊥
IsUnlike so Shape = so → ⊥

-- why a reply is not read: memory is refused, it is an error of this text, or it is neither so nor an error
abbrev pub IsMisread : Type 0 → List Part → Misread → Type 0
IsMisread so parts Memory = ⊤
IsMisread so parts (ErrorReply text) = SaysError parts text
IsMisread so parts Shape = (so → ⊥) × ((text : Text) → SaysError parts text → ⊥)

-- an error that is told is one of these parts
abbrev pub Tells : List Part → Misread → Type 0
Tells parts Memory = ⊤
Tells parts (ErrorReply text) = (before : List Part) × (behind : List Part) × (parts ≡ before ++ Error text ∷ behind)
Tells parts Shape = ⊤

-- no error is told
abbrev pub TellsNone : Misread → Type 0
TellsNone Memory = ⊤
TellsNone (ErrorReply text) = ⊥
TellsNone Shape = ⊤

-- how a reply to this call that says nothing is told
abbrev pub told_as : LiveCall → Misread → LiveFault
told_as call Memory = fault.Memory
told_as call (ErrorReply text) = fault.ErrorReply call text
told_as call Shape = fault.Shape call

abbrev pub IsToldAs : {T : Type 0} → LiveCall → Result T Misread → LiveFault → Type 0
IsToldAs call (Ok value) told = ⊥
IsToldAs call (Err misread) told = told ≡ told_as call misread

-- how a reply of the script that says nothing is told
abbrev pub fault_of : Misread → LiveFault
fault_of Memory = fault.Unknown peer.Memory
fault_of (ErrorReply text) = fault.ErrorReply Script text
fault_of Shape = fault.Shape Script

abbrev pub IsToldBy : Result Concluded Misread → LiveFault → Type 0
IsToldBy (Ok concluded) told = ⊥
IsToldBy (Err misread) told = told ≡ fault_of misread
