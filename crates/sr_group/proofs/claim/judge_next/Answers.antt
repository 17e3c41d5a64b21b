use Rattle.std.proofs.Common.{◌≡◌, List, Option, Some, ap, sym, ◌∙◌}
use Rattle.std.specs.Option.{option_map}
use Rattle.sr_ids.specs.declared.id.Id.{Id}
use Rattle.sr_pending.specs.declared.nack.Nack.{Nack}
use Rattle.sr_pending.specs.{nack_with}
use Rattle.sr_group.specs.declared.claim.Delivery.{Delivery}
use Rattle.sr_group.specs.declared.shown.Act.{Act}
use Rattle.sr_group.specs.Shown.{after_acts}
use Rattle.sr_group.specs.steps.Judging.{delivery_of}
use Rattle.sr_group.proofs.JudgeLemmas.{All-after_acts, AreUpTo-pushed, Judges-none, Judges-pushed, act-id, count-known}
use Rattle.sr_group.proofs.claim.judge_next.Goals as goal

known : (id : Id) (acts read : List Act) (nacks : List Nack) (found : Option Delivery) (delivery : Delivery) → found ≡ Some delivery → found ≡ option_map delivery_of (nack_with id (after_acts read nacks)) → read ≡ acts
    → Some delivery ≡ option_map delivery_of (nack_with id (after_acts acts nacks))
known id acts read nacks found delivery here is same = sym here ∙ is ∙ ap (λ (l : List Act). option_map delivery_of (nack_with id (after_acts l nacks))) same

pub judge-requires-clause-old : goal.judge-requires-clause-old
judge-requires-clause-old c =
    let acts = c.args.acts.now.items in
    let nacks = c.args.pending.now.nacks in
    let is = known c.args.id acts c.as_slice.result.now nacks c.delivery_now.result c.in-Some.delivery c.in-Some.is c.delivery_now.ensures c.as_slice.ensures.value in
    count-known c.args.id (after_acts acts nacks) c.in-Some.delivery is (All-after_acts c.args.call.now.claimer.now acts nacks c.requires.own c.sound.ensures.countable)

pub returns-in_default-2-clause-judged : goal.returns-in_default-2-clause-judged
returns-in_default-2-clause-judged c =
    let call = c.args.call.now in
    let acts = c.args.acts.now.items in
    let nacks = c.args.pending.now.nacks in
    let is = known c.args.id acts c.as_slice.result.now nacks c.delivery_now.result c.in-Some.delivery c.in-Some.is c.delivery_now.ensures c.as_slice.ensures.value in
    Judges-none call.claim call.claimer.now call.moment call.entries.now.entries nacks c.args.id c.in-Some.delivery acts is (sym c.in_default-2.is ∙ c.in_ok-act.ensures.act) c.requires.own

pub returns-clause-judged : goal.returns-clause-judged
returns-clause-judged c =
    let call = c.args.call.now in
    let acts = c.args.acts.now.items in
    let nacks = c.args.pending.now.nacks in
    let is = known c.args.id acts c.as_slice.result.now nacks c.delivery_now.result c.in-Some.delivery c.in-Some.is c.delivery_now.ensures c.as_slice.ensures.value in
    Judges-pushed call.claim call.claimer.now call.moment call.entries.now.entries nacks c.args.id c.in-Some.delivery c.in-Some-2.act acts c.push.new.self.items is (sym c.in-Some-2.is ∙ c.in_ok-act.ensures.act) (rw c.in-Some-2.is at c.in_ok-act.ensures.own) c.requires.own c.in_ok-push.ensures.items

pub returns-clause-up_to : goal.returns-clause-up_to
returns-clause-up_to c most above with_it =
    let call = c.args.call.now in
    let is = act-id call.claim call.claimer.now call.moment call.entries.now.entries c.args.id c.in-Some.delivery c.in-Some-2.act (sym c.in-Some-2.is ∙ c.in_ok-act.ensures.act) in
    AreUpTo-pushed most c.args.greatest c.args.id c.in-Some-2.act c.args.acts.now.items c.push.new.self.items above with_it is c.requires.up_to c.in_ok-push.ensures.items
