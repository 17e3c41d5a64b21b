use Rattle.sr_bytes.proofs.PackedLemmas.{pairs-none}
use Rattle.sr_bytes.proofs.fields.Fields.with_room.Goals as goal

pub returns : goal.returns
returns c = pairs-none _ _ c.in_ok-with_capacity.ensures.items
