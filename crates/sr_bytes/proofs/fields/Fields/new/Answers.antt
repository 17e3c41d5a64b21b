use Rattle.sr_bytes.proofs.PackedLemmas.{pairs-none}
use Rattle.sr_bytes.proofs.fields.Fields.new.Goals as goal

pub returns : goal.returns
returns c = pairs-none _ _ c.new.ensures.items
