use Rattle.std.proofs.Common.{◌≡◌, take}
use Rattle.sr_stream.specs.Groups.{shown_groups}
use Rattle.sr_stream.proofs.places.copies.Given as goal

abbrev pub invariant-loop-named : goal.invariant-loop-named
invariant-loop-named l = shown_groups l.list.items ≡ shown_groups (take l.named-index l.groups)
