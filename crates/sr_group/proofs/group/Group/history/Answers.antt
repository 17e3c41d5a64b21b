use Rattle.std.proofs.Common.{◌≡◌, List, map, ap, ◌∙◌}
use Rattle.std.proofs.lemmas.Result.{IfOk-weaker}
use Rattle.std.proofs.lemmas.List.Elements.{All-same}
use Rattle.sr_pending.specs.declared.nack.Nack.{Nack}
use Rattle.sr_pending.specs.{AreRising}
use Rattle.sr_group.specs.declared.shown.Act.{Act}
use Rattle.sr_group.specs.Group.{KeptGroup}
use Rattle.sr_group.specs.Delivery.{after_history, history_of, listed_in}
use Rattle.sr_group.specs.Shown.{ShownState, after_showing, listed_of}
use Rattle.sr_group.specs.steps.Showing.{IsActOf, again}
use Rattle.sr_group.proofs.DeliveryLemmas.{acts-again, history_of-above, listed_of-again, showing-history}
use Rattle.sr_group.proofs.group.Group.history.Goals as goal

pub prepare-requires-clause-acts : goal.prepare-requires-clause-acts
prepare-requires-clause-acts c =
    let reader = c.args.reader.now in
    let list = c.args.entries.now.entries in
    All-same (IsActOf reader) c.in_ok-acts.acts.items (map (again c.args.moment list) c.above-history.result) c.in_ok-acts.ensures (acts-again reader c.args.moment list c.above-history.result c.requires)

nacks : (c : goal.After-prepare) → c.self.inside.pending.nacks ≡ c.args.self.now.shown.nacks
nacks c = ap (λ (k : KeptGroup). k.shown.nacks) c.self.view_is

acts : (c : goal.After-prepare) → c.in_ok-acts.acts.items ≡ map (again c.args.moment c.args.entries.now.entries) (history_of c.args.reader.now c.args.after c.args.count c.args.self.now.shown.nacks)
acts c =
    let list = c.args.entries.now.entries in
    let reader = c.args.reader.now in
    let history = c.above-history.ensures ∙ history_of-above reader c.args.after c.args.count c.self.inside.pending.nacks ∙ ap (λ (l : List Nack). history_of reader c.args.after c.args.count l) (nacks c) in
    c.in_ok-acts.ensures ∙ ap (λ (l : List Nack). map (again c.args.moment list) l) history

pub returns-clause-effect : goal.returns-clause-effect
returns-clause-effect c =
    let group = c.args.self.now.shown in
    let reader = c.args.reader.now in
    let list = c.args.entries.now.entries in
    let rising : AreRising group.nacks = rw (nacks c) at c.self.invariant.rising in
    let last = ap (λ (k : KeptGroup). k.shown.last) c.self.view_is in
    let made : ShownState = record { consumer = reader; moment = c.args.moment; last = c.self.inside.last; acts = c.in_ok-acts.acts.items } in
    IfOk-weaker c.prepare.result (λ (s : ShownState). s ≡ made) (λ (s : ShownState). after_showing s group ≡ after_history reader c.args.moment list (history_of reader c.args.after c.args.count group.nacks) group)
    (λ s is. ap (λ (x : ShownState). after_showing x group) is ∙ showing-history group reader c.args.after c.args.count c.args.moment list c.self.inside.last c.in_ok-acts.acts.items rising last (acts c))
    c.prepare.ensures.value

pub returns-clause-listed : goal.returns-clause-listed
returns-clause-listed c =
    let group = c.args.self.now.shown in
    let reader = c.args.reader.now in
    let list = c.args.entries.now.entries in
    let history = history_of reader c.args.after c.args.count group.nacks in
    let made : ShownState = record { consumer = reader; moment = c.args.moment; last = c.self.inside.last; acts = c.in_ok-acts.acts.items } in
    IfOk-weaker c.prepare.result (λ (s : ShownState). s ≡ made) (λ (s : ShownState). listed_of s.acts ≡ map (listed_in list) history)
    (λ s is. ap (λ (x : ShownState). listed_of x.acts) is ∙ ap (λ (a : List Act). listed_of a) (acts c) ∙ listed_of-again c.args.moment list history)
    c.prepare.ensures.value
