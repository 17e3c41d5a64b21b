use Rattle.std.proofs.Common.{◌≡◌, ◌++◌, length, map, take}
use Rattle.std.specs.List.{flat_map}
use Rattle.sr_peer.specs.{Array, Bulk, part_text}
use Rattle.sr_live.proofs.looking.append_request.Given as goal

abbrev pub invariant-loop-word : goal.invariant-loop-word
invariant-loop-word l =
    l.out.items ≡ l.fn.out.items ++ part_text (Array (length l.words))
    ++ flat_map (λ word. part_text (Bulk word)) (map (λ word. word.now) (take l.word-index l.words))
