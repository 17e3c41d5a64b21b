use Rattle.sr_bytes.proofs.PackedLemmas.{packs-shown}
use Rattle.sr_bytes.proofs.fields.Fields.packed.Goals as goal

pub returns : goal.returns
returns c = packs-shown _ _ c.self.inside.pairs c.args.self.now c.as_slice.ensures.value c.self.view_is
