use Rattle.std.proofs.Common.{◌≡◌, List, map, ap, ◌∙◌}
use Rattle.std.proofs.lemmas.Result.{IfOk-weaker}
use Rattle.std.proofs.lemmas.List.Elements.{All-same}
use Rattle.sr_ids.specs.declared.id.Id.{Id}
use Rattle.sr_entries.specs.declared.entry.Entry.{Entry}
use Rattle.sr_entries.specs.{last_id_or}
use Rattle.sr_group.specs.declared.shown.Act.{Act}
use Rattle.sr_group.specs.Group.{KeptGroup}
use Rattle.sr_group.specs.Delivery.{after_delivery, found_entry, new_entries}
use Rattle.sr_group.specs.Shown.{ShownState, after_showing, listed_of}
use Rattle.sr_group.specs.steps.Showing.{IsActOf, delivery_of}
use Rattle.sr_group.proofs.DeliveryLemmas.{acts-delivery, listed_of-delivery, new_entries-unread, showing-delivery}
use Rattle.sr_group.proofs.group.Group.deliver.Goals as goal

pub prepare-requires-clause-acts : goal.prepare-requires-clause-acts
prepare-requires-clause-acts c =
    let reader = c.args.reader.now in
    let unread = c.at_front-unread.result in
    All-same (IsActOf reader) c.in_ok-acts.acts.items (map (delivery_of reader c.args.moment c.args.noack) unread) c.in_ok-acts.ensures (acts-delivery reader c.args.moment c.args.noack unread c.requires)

last : (c : goal.After-prepare) → c.self.inside.last ≡ c.args.self.now.shown.last
last c = ap (λ (k : KeptGroup). k.shown.last) c.self.view_is

acts : (c : goal.After-prepare) → c.in_ok-acts.acts.items ≡ map (delivery_of c.args.reader.now c.args.moment c.args.noack) (new_entries c.args.self.now.shown.last c.args.count c.args.entries.now.entries)
acts c =
    let list = c.args.entries.now.entries in
    let unread = new_entries-unread c.at_front-unread.result c.above.result c.args.count c.self.inside.last c.args.self.now.shown.last list c.at_front-unread.ensures c.above.ensures (last c) in
    c.in_ok-acts.ensures ∙ ap (λ (l : List Entry). map (delivery_of c.args.reader.now c.args.moment c.args.noack) l) unread

end : (c : goal.After-prepare) → c.last_of-last.result ≡ last_id_or c.args.self.now.shown.last (new_entries c.args.self.now.shown.last c.args.count c.args.entries.now.entries)
end c =
    let list = c.args.entries.now.entries in
    let unread = new_entries-unread c.at_front.result c.above-2.result c.args.count c.self.inside.last c.args.self.now.shown.last list c.at_front.ensures c.above-2.ensures (last c) in
    c.last_of-last.ensures ∙ ap (λ (l : List Entry). last_id_or c.self.inside.last l) unread
    ∙ ap (λ (i : Id). last_id_or i (new_entries c.args.self.now.shown.last c.args.count list)) (last c)

pub returns-clause-effect : goal.returns-clause-effect
returns-clause-effect c =
    let group = c.args.self.now.shown in
    let reader = c.args.reader.now in
    let new = new_entries group.last c.args.count c.args.entries.now.entries in
    let made : ShownState = record { consumer = reader; moment = c.args.moment; last = c.last_of-last.result; acts = c.in_ok-acts.acts.items } in
    IfOk-weaker c.prepare.result (λ (s : ShownState). s ≡ made) (λ (s : ShownState). after_showing s group ≡ after_delivery reader c.args.moment c.args.noack new group)
    (λ s is. ap (λ (x : ShownState). after_showing x group) is ∙ showing-delivery group reader c.args.moment c.args.noack new c.last_of-last.result c.in_ok-acts.acts.items (end c) (acts c))
    c.prepare.ensures.value

pub returns-clause-listed : goal.returns-clause-listed
returns-clause-listed c =
    let group = c.args.self.now.shown in
    let reader = c.args.reader.now in
    let new = new_entries group.last c.args.count c.args.entries.now.entries in
    let made : ShownState = record { consumer = reader; moment = c.args.moment; last = c.last_of-last.result; acts = c.in_ok-acts.acts.items } in
    IfOk-weaker c.prepare.result (λ (s : ShownState). s ≡ made) (λ (s : ShownState). listed_of s.acts ≡ map found_entry new)
    (λ s is. ap (λ (x : ShownState). listed_of x.acts) is ∙ ap (λ (a : List Act). listed_of a) (acts c) ∙ listed_of-delivery reader c.args.moment c.args.noack new)
    c.prepare.ensures.value
