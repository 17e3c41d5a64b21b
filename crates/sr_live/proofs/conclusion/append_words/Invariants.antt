use Rattle.std.proofs.Common.{◌≡◌, ◌++◌, take}
use Rattle.std.specs.List.{flat_map}
use Rattle.sr_peer.specs.{Bulk, part_text}
use Rattle.sr_live.proofs.conclusion.append_words.Given as goal

abbrev pub invariant-loop-word : goal.invariant-loop-word
invariant-loop-word l =
    l.out.items ≡ l.initial.out.items ++ flat_map (λ word. part_text (Bulk word)) (take l.word-index l.words)
