use Rattle.std.proofs.Common.{sym, ◌∙◌}
use Rattle.sr_resp.specs.Spelled.{parts_of}
use Rattle.sr_resp.proofs.DraftLemmas.{text-spelled, fit-spelled}
use Rattle.sr_resp.proofs.draft.Draft.split.Goals as goal

pub returns : goal.returns
returns c =
    let rest = c.self.inside.rest.items in
    let is = c.self.inside.others in
    record {
      others = parts_of rest is;
      whole = sym c.self.view_is;
      spells = record { spelled = c.as_slice.ensures.value ∙ text-spelled rest is; fit = fit-spelled rest is };
    }
