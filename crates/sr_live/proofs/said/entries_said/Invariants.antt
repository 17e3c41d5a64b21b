use Rattle.std.proofs.Common.{◌≡◌, ◌++◌, List, length}
use Rattle.sr_peer.specs.Reply as wire
use Rattle.sr_live.specs.Said.{AreEntries}
use Rattle.sr_live.proofs.said.entries_said.Given as goal

abbrev pub invariant-loop : goal.invariant-loop
invariant-loop l =
    (body : List wire.Part) × AreEntries body l.entries.items × (length l.entries.items ≡ l.counter)
    × (l.initial.parts ≡ body ++ l.parts)
