use Rattle.std.proofs.Common.{rules, ◌≡◌, List, ℕ, subst}
use Rattle.sr_peer.specs.Spelled.{Spells}
use Rattle.sr_peer.proofs.SpelledLemmas.{whole-parts}
use Rattle.sr_peer.proofs.answers.Answers.parts.Goals as goal

pub returns : goal.returns
returns c =
    let text : c.as_slice.result.now ≡ c.args.self.now.text = search rules in
    whole-parts c.args.self.now.count c.args.self.now.text c.new.result c.requires
    (subst (λ (t : List ℕ). Spells t c.new.result) text c.new.ensures)
