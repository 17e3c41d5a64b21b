use Rattle.std.proofs.Common.{List, ◌≡◌, sym, subst, ◌∙◌}
use Rattle.std.specs.Prelude.{IfOk}
use Rattle.sr_resp.specs.Reply.{Part}
use Rattle.sr_resp.specs.Spelled.{IsSpelled, parts_of}
use Rattle.sr_resp.proofs.DraftLemmas.{text-spelled, fit-spelled}
use Rattle.sr_resp.proofs.draft.Draft.copy.Goals as goal

pub read-requires : goal.read-requires
read-requires c = subst IsSpelled (sym c.as_slice.ensures.value) c.self.inside.others

pub returns : goal.returns
returns c =
    let rest = c.self.inside.rest.items in
    let parts = parts_of rest c.self.inside.others in
    let copied = c.read.ensures parts (record {
      spelled = c.as_slice.ensures.value ∙ text-spelled rest c.self.inside.others;
      fit = fit-spelled rest c.self.inside.others;
    }) in
    subst (λ (l : List Part). IfOk c.read.result (λ d. d ≡ l)) c.self.view_is copied
