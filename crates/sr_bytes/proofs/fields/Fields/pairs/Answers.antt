use Rattle.std.proofs.Common.{◌∙◌}
use Rattle.sr_bytes.specs.Packed.{IsPacked}
use Rattle.sr_bytes.proofs.PackedLemmas.{pairs-same}
use Rattle.sr_bytes.proofs.fields.Fields.pairs.Goals as goal

pub returns : goal.returns
returns c =
    let is : IsPacked c.as_slice.result.now = rw c.as_slice.ensures.value c.self.inside.pairs in
    c.new.ensures is ∙ pairs-same _ _ is c.self.inside.pairs c.as_slice.ensures.value ∙ c.self.view_is
