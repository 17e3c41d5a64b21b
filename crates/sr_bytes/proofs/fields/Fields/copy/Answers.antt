use Rattle.std.proofs.Common.{◌∙◌}
use Rattle.sr_bytes.proofs.PackedLemmas.{pairs-same}
use Rattle.sr_bytes.proofs.fields.Fields.copy.Goals as goal

pub returns : goal.returns
returns c = pairs-same _ _ _ c.self.inside.pairs (c.in_ok-from_slice.ensures.items ∙ c.as_slice.ensures.value) ∙ c.self.view_is
