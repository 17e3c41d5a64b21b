-- Calls that only read, and how looking a group up breaks off.
-- Source: Redis documentation, commands XINFO STREAM, XINFO CONSUMERS, XPENDING and XRANGE.

use Rattle.std.specs.Prelude.{⊤, ◌≡◌, ◌⊎◌, ℕ, List, [], ◌∷◌, ◌++◌, Option, codes}
use Rattle.std.specs.Io.KnownBytes.{Appends}
use Rattle.std.specs.List.{AllByRecursion, flat_map}
use Rattle.sr_policy.specs.{Text}
use Rattle.sr_peer.specs.{Part, part_text, request_text}
use Rattle.sr_peer.specs.Exchange.{SendsPart}
use Rattle.sr_peer.specs.Reply.{Error}
use Rattle.sr_live.specs.declared.fault.LiveCall.{LiveCall}
use Rattle.sr_live.specs.declared.fault.LiveCall.TheVariants.{Stream, Consumers, Pending, Entry, Script}
use Rattle.sr_live.specs.declared.fault.LiveFault.{LiveFault}
use Rattle.sr_live.specs.declared.fault.LiveFault.TheVariants.{Changed, ErrorReply, Memory, Peer, Shape, TooMany, Unfit}
use Rattle.sr_live.specs.declared.fault.LiveFault.TheVariants.{Unknown}

-- the call changes nothing, whatever its other words are
abbrev pub Reads : List Text → Type 0
Reads [] = ⊥
Reads (word ∷ words) = (word ≡ codes "XINFO") ⊎ ((word ≡ codes "XPENDING") ⊎ (word ≡ codes "XRANGE"))

-- since these bytes nothing was sent but calls that change nothing, of which the last ones may be missing
pub record HasOnlyRead (sent sent_then : Option (List ℕ)) : Type 0 where
  pub calls : List (List Text)
  pub read : AllByRecursion Reads calls
  pub sends : SendsPart sent sent_then (flat_map request_text calls)

abbrev pub IsReading : LiveCall → Type 0
IsReading Stream = ⊤
IsReading Consumers = ⊤
IsReading Pending = ⊤
IsReading Entry = ⊤
IsReading Script = ⊥

-- a fault of looking a group up: not of the script, and not that the group changed
abbrev pub IsOfLooking : LiveFault → Type 0
IsOfLooking Memory = ⊤
IsOfLooking (Peer fault) = ⊤
IsOfLooking (ErrorReply call text) = IsReading call
IsOfLooking (Shape call) = IsReading call
IsOfLooking TooMany = ⊤
IsOfLooking Changed = ⊥
IsOfLooking Unfit = ⊥
IsOfLooking (Unknown fault) = ⊥

-- an error with this text is among the replies that came since
pub record CameError (got got_then : Option (List ℕ)) (text : Text) : Type 0 where
  pub before : List Part
  pub behind : List Part
  pub came : Appends got got_then (flat_map part_text (before ++ Error text ∷ behind))

-- an error of Redis that is told is one that came
abbrev pub IsReplied : Option (List ℕ) → Option (List ℕ) → LiveFault → Type 0
IsReplied got got_then Memory = ⊤
IsReplied got got_then (Peer fault) = ⊤
IsReplied got got_then (ErrorReply call text) = CameError got got_then text
IsReplied got got_then (Shape call) = ⊤
IsReplied got got_then TooMany = ⊤
IsReplied got got_then Changed = ⊤
IsReplied got got_then Unfit = ⊤
IsReplied got got_then (Unknown fault) = ⊤

-- looking a group up broke off with this fault
pub record BreaksOff (sent got sent_then got_then : Option (List ℕ)) (fault : LiveFault) : Type 0 where
  pub looking : IsOfLooking fault
  pub read : HasOnlyRead sent sent_then
  pub told : IsReplied got got_then fault
