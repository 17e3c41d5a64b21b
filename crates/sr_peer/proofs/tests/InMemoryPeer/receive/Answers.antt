use Rattle.std.proofs.Common.{◌≡◌, ◌+◌, ◌-◌, ◌++◌, ◌∙◌, List, ℕ, take, drop, ap, sym, arith}
use Rattle.std.proofs.Math.Seq.{take-add}
use Rattle.sr_peer.proofs.tests.InMemoryPeer.receive.Goals as goal

pub returns-in-Ok-clause-ok : goal.returns-in-Ok-clause-ok
returns-in-Ok-clause-ok c =
    let text = c.args.self.now.text.now in
    let at = c.args.self.now.at in
    let count = c.min-count.result in
    let some : at + count - at ≡ count = omega arith in
    let piece : c.in-Ok.piece.items ≡ take count (drop at text) =
    c.in-Ok.ensures.items ∙ ap (λ (n : ℕ). take n (drop at text)) some in
    take-add at count text ∙ ap (λ (t : List ℕ). take at text ++ t) (sym piece)
