use Rattle.std.proofs.Common.{◌∷◌, ◌∙◌, ap}
use Rattle.sr_resp.specs.Reply.{Array}
use Rattle.sr_resp.proofs.DraftLemmas.{parts-known}
use Rattle.sr_resp.proofs.draft.Draft.read.Goals as goal

pub returns : goal.returns
returns c = λ parts spells.
    ap (λ l. Array c.args.items ∷ l) (parts-known _ _ parts (c.in_ok-from_slice.ensures.items ∙ spells.spelled) spells.fit)
