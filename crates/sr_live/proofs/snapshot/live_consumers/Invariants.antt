use Rattle.std.proofs.Common.{◌≡◌, take}
use Rattle.std.specs.List.{flat_map}
use Rattle.sr_live.specs.Looked.{is_seen, live_named}
use Rattle.sr_live.proofs.snapshot.live_consumers.Given as goal

abbrev pub invariant-loop-name : goal.invariant-loop-name
invariant-loop-name l =
    l.list.items ≡ flat_map (live_named l.policy l.asked.dead.items
    (is_seen l.asked.seen_within l.looked.idles.items) l.looked.numbers.items) (take l.name-index l.name-items)
