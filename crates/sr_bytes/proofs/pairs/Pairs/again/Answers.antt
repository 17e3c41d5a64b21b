use Rattle.std.proofs.Common.{◌≤◌, ◌*◌, arith, ap, length, refl, ◌∙◌}
use Rattle.sr_bytes.specs.Packed.{pairs_of}
use Rattle.sr_bytes.proofs.PackedLemmas.{pairs-few, pairs-same}
use Rattle.sr_bytes.proofs.pairs.Pairs.again.Goals as goal

pub returns-clause-same : goal.returns-clause-same
returns-clause-same c = pairs-same _ _ _ c.self.inside.pairs refl ∙ c.self.view_is

pub returns-clause-few : goal.returns-clause-few
returns-clause-few c =
    let few : 2 * length (pairs_of c.self.inside.left.now c.self.inside.pairs) ≤ length c.self.inside.left.now = pairs-few c.self.inside.left.now c.self.inside.pairs in
    omega (arith, few, ap length c.self.view_is, c.self.told.0)
