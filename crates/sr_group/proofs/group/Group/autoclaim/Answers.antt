use Rattle.std.proofs.Common.{◌≡◌, List, length, map, ap, ◌∙◌}
use Rattle.sr_ids.specs.declared.id.Id as ids
use Rattle.sr_pending.specs.declared.nack.Nack.{Nack}
use Rattle.sr_group.specs.Claim.{group_after_claim, id_behind, listed_claim, pending_from, scanned}
use Rattle.sr_group.specs.Group.{KeptGroup}
use Rattle.sr_group.proofs.group.Group.autoclaim.Goals as goal
use Rattle.sr_group.proofs.group.Group.autoclaim.Goals.{After-drop-ids-2}

from : (c : After-drop-ids-2) → c.from_id.result ≡ pending_from c.args.start c.args.self.now.shown.nacks
from c = c.from_id.ensures ∙ ap (λ (g : KeptGroup). pending_from c.args.start g.shown.nacks) c.self.view_is

found : (c : After-drop-ids-2) → c.as_slice.result.now ≡ map (λ (nack : Nack). nack.id) (scanned c.args.claim c.args.claimer.now c.args.moment c.args.entries.now.entries c.args.count (pending_from c.args.start c.args.self.now.shown.nacks))
found c =
    c.as_slice.ensures.value
    ∙ c.in_ok-ids.ensures.all
    ∙ ap (λ (l : List Nack). map (λ (nack : Nack). nack.id) (scanned c.args.claim c.args.claimer.now c.args.moment c.args.entries.now.entries c.args.count l)) (from c)

pub claim-requires : goal.claim-requires
claim-requires c = record { moment = c.requires.moment; count = c.requires.count }

pub returns-clause-shown : goal.returns-clause-shown
returns-clause-shown c = c.claim.ensures.shown

pub returns-clause-effect : goal.returns-clause-effect
returns-clause-effect c =
    let group = c.args.self.now.shown in
    c.in_ok-shown.ensures.effect
    ∙ ap (λ (l : List ids.Id). group_after_claim c.args.claim c.args.claimer.now c.args.moment c.args.entries.now.entries l group) (found c)

pub returns-clause-listed : goal.returns-clause-listed
returns-clause-listed c =
    let group = c.args.self.now.shown in
    c.in_ok-shown.ensures.listed
    ∙ ap (λ (l : List ids.Id). listed_claim c.args.claim c.args.claimer.now c.args.moment c.args.entries.now.entries l group.nacks) (found c)

pub returns-clause-next : goal.returns-clause-next
returns-clause-next c =
    c.in_ok-ids.ensures.behind
    ∙ ap (λ (l : List Nack). id_behind (length (scanned c.args.claim c.args.claimer.now c.args.moment c.args.entries.now.entries c.args.count l)) l) (from c)

pub returns-clause-room : goal.returns-clause-room
returns-clause-room c = c.in_ok-shown.ensures.room

pub returns-clause-kept : goal.returns-clause-kept
returns-clause-kept c = c.in_ok-shown.ensures.kept
