-- An exchange with another server.

use Rattle.std.specs.Prelude.{◌≡◌, ℕ, List, ◌++◌, Option}
use Rattle.std.specs.Io.KnownBytes.{Appends}
use Rattle.sr_peer.specs.declared.peer.PeerFault.{PeerFault}
use Rattle.sr_peer.specs.declared.peer.PeerFault.TheVariants as faults

-- a fault of the connection or of memory, and not of the bytes that came
abbrev pub IsOfConnection : PeerFault → Type 0
IsOfConnection faults.Memory = Unit {0}
IsOfConnection faults.Closed = Unit {0}
IsOfConnection faults.Silent = Unit {0}
IsOfConnection faults.Failed = Unit {0}
IsOfConnection faults.Malformed = ⊥
IsOfConnection faults.TooLong = ⊥

-- of these bytes a front was sent, perhaps none and perhaps all
pub record SendsPart (sent sent_then : Option (List ℕ)) (bytes : List ℕ) : Type 0 where
  pub front : List ℕ
  pub rest : List ℕ
  pub splits : bytes ≡ front ++ rest
  pub sends : Appends sent sent_then front
