use Rattle.std.proofs.Common.{◌∷◌, ap}
use Rattle.sr_resp.specs.Reply.{Array}
use Rattle.sr_resp.proofs.DraftLemmas.{parts-none}
use Rattle.sr_resp.proofs.draft.Draft.array.Goals as goal

pub returns : goal.returns
returns c = ap (λ l. Array c.args.items ∷ l) (parts-none _ _ c.new.ensures.items)
