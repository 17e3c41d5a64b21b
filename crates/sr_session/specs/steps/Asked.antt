-- Cited by private clauses alone: the requests of one read, which are read before the first of them is carried out.

use Rattle.std.specs.Prelude.{⊤, List, [], ◌∷◌, Result, Ok, Err}
use Rattle.sr_resp.specs.{Words}
use Rattle.sr_args.specs.declared.fault.CallFault.{CallFault}
use Rattle.sr_args.specs.declared.call.Command.{Command}
use Rattle.sr_args.specs.{IsCommand, Refuses}

-- the words are this command, or this is why they are none
abbrev pub IsAsked : Words → Result Command CallFault → Type 0
IsAsked words (Ok command) = IsCommand words command
IsAsked words (Err fault) = Refuses words fault

-- each of the requests is asked for in its turn
abbrev pub AreAsked : List Words → List (Result Command CallFault) → Type 0
AreAsked [] [] = ⊤
AreAsked [] (one ∷ asked) = ⊥
AreAsked (words ∷ requests) [] = ⊥
AreAsked (words ∷ requests) (one ∷ asked) = IsAsked words one × AreAsked requests asked
