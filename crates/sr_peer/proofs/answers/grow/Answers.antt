use Rattle.std.proofs.Common.{rules, ◌≡◌, ◌++◌, List, ℕ, subst}
use Rattle.sr_peer.specs.steps.Reading.{GrowsOn}
use Rattle.sr_peer.proofs.ReadLemmas.{grows-reads}
use Rattle.sr_peer.proofs.answers.grow.Goals as goal

pub returns-clause-reads : goal.returns-clause-reads
returns-clause-reads c =
    let is : c.as_slice.result.now ≡ c.args.text.now.items ++ c.args.piece.now = search rules in
    subst (λ (t : List ℕ). GrowsOn t c.args.from.at c.args.from.due c.read_on.result) is
    (grows-reads c.as_slice.result.now c.args.from.at c.args.from.due c.read_on.result c.read_on.ensures)
