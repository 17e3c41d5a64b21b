use Rattle.std.proofs.Common.{◌≡◌, take}
use Rattle.std.specs.List.{flat_map}
use Rattle.sr_peer.specs.{request_text}
use Rattle.sr_live.specs.Looking.{entry_call}
use Rattle.sr_live.proofs.entries.entry_requests.Given as goal

abbrev pub invariant-loop-id : goal.invariant-loop-id
invariant-loop-id l =
    l.requests.items ≡ flat_map (λ entry. request_text (entry_call l.key entry.0)) (take l.id-index l.listed)
