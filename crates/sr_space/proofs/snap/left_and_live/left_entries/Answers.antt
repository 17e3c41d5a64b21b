use Rattle.std.proofs.Common.{◌≡◌, List, map, ap, sym, Bor, ◌∙◌}
use Rattle.std.proofs.lemmas.Iterator.Adapters.{YieldsList-from_vec}
use Rattle.std.proofs.lemmas.Iterator.Consumers.{YieldsList-end}
use Rattle.std.proofs.lemmas.List.{map-id}
use Rattle.sr_pending.specs.declared.nack.Nack.{Nack}
use Rattle.sr_space.specs.Snap.{of_dead}
use Rattle.sr_space.proofs.OwnLemmas.{gone_each, gone_of}
use Rattle.sr_space.proofs.snap.left_and_live.left_entries.Goals as goal

pub returns-clause-gone : goal.returns-clause-gone
returns-clause-gone c =
    let entries = c.args.stream.now.shown.entries in
    let all = of_dead c.args.dead.now c.args.group.now.shown.nacks in
    let list = c.in_ok-nack-items.nack-items in
    let gives = c.into_iter-nack-iterator.ensures.into_iter_gives in
    let end = YieldsList-end (YieldsList-from_vec list.items gives.0 (gives.1 ∙ list.ok.0)) c.loop-nack.yielded c.loop-nack.nack-iterator c.loop-nack.yielded_by c.next.result c.next.new.self
    c.in-None.is c.next.ensures.steps in
    let walked : c.loop-nack.yielded ≡ list.items = sym (map-id c.loop-nack.yielded) ∙ end.0 in
    c.loop-nack.invariant.1 ∙ ap (λ (nacks : List (Bor Nack)). gone_of entries (map (λ (nack : Bor Nack). nack.now) nacks)) walked ∙ ap (gone_of entries) c.in_ok-nack-items.ensures ∙ gone_each entries all
