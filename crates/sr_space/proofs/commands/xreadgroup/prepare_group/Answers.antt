use Rattle.std.proofs.Common.{◌≡◌, ℕ, List, [], ◌∷◌, ◌++◌, Option, map, refl, ap, ◌∙◌}
use Rattle.std.proofs.lemmas.Result.{IfOk-from_err, IfOk-weaker, on_ok_weaker}
use Rattle.sr_group.specs.{history_of, listed_of}
use Rattle.sr_group.specs.Delivery.{listed_in}
use Rattle.sr_resp.specs.{ReplyParts, array_of}
use Rattle.sr_space.specs.commands.Xread.{count_of}
use Rattle.sr_space.proofs.ReadGroupLemmas.{delivered, history-listed, new-listed, shown-again}
use Rattle.sr_space.proofs.commands.xreadgroup.prepare_group.Goals as goal

pub returns-in_ok-push-in-PendingAfter-clause-listed :
    goal.returns-in_ok-push-in-PendingAfter-clause-listed
returns-in_ok-push-in-PendingAfter-clause-listed c =
    let entries = c.args.entries.now.entries in
    let nacks = c.args.group.now.shown.nacks in
    let consumer = c.args.read.now.consumer.now in
    let history = history_of consumer c.in-PendingAfter.id (count_of c.args.read.now.count) nacks in
    let listed : listed_of c.in_ok-shown-in-PendingAfter.shown.acts ≡ map (listed_in entries) history =
    c.in_ok-shown-in-PendingAfter.ensures.listed ∙ ap (λ (count : Option ℕ). map (listed_in entries) (history_of consumer c.in-PendingAfter.id count nacks)) c.most-count.ensures in
    let item = c.in_ok-history_reply-in-PendingAfter.ensures ∙ history-listed c.args.key.now entries history _ listed in
    λ items is. rw c.in-PendingAfter.is (c.in_ok-push-in-PendingAfter.ensures.ok items is ∙ ap (λ (more : ReplyParts). array_of (items ++ more ∷ [])) item)

pub push_entries-requires : goal.push_entries-requires
push_entries-requires c = c.requires

pub history-requires : goal.history-requires
history-requires c = c.in_63_bits-moment.ensures.bound

pub deliver-requires : goal.deliver-requires
deliver-requires c = c.in_63_bits-moment.ensures.bound

pub returns-in_ok-push_entries-in-New-clause-effect : goal.returns-in_ok-push_entries-in-New-clause-effect
returns-in_ok-push_entries-in-New-clause-effect c =
    let left = delivered c.args.read.now c.args.asked c.args.key.now c.args.entries.now.entries c.args.group.now.shown _ _ c.in_63_bits-moment.ensures.value c.most-count.ensures c.in-New.is in
    IfOk-weaker c.deliver.result _ _ (λ shown is. is ∙ left) c.deliver.ensures.effect

pub returns-in_ok-push_entries-in-New-clause-room : goal.returns-in_ok-push_entries-in-New-clause-room
returns-in_ok-push_entries-in-New-clause-room c = c.deliver.ensures.room

pub returns-in_ok-push_entries-in-New-clause-listed : goal.returns-in_ok-push_entries-in-New-clause-listed
returns-in_ok-push_entries-in-New-clause-listed c =
    let listed = new-listed c.args.read.now c.args.asked c.args.key.now c.args.entries.now.entries c.args.group.now.shown c.in_63_bits-moment.result c.most-count.result c.above.result c.at_front-new.result _ c.most-count.ensures c.in-New.is c.last_id.ensures c.above.ensures c.at_front-new.ensures in
    on_ok_weaker c.deliver.result (λ _ items is. c.in_ok-push_entries-in-New.ensures items is ∙ ap (λ (more : List ReplyParts). array_of (items ++ more)) listed) c.deliver.ensures.kept

pub returns-in_ok-push-in-PendingAfter-clause-effect : goal.returns-in_ok-push-in-PendingAfter-clause-effect
returns-in_ok-push-in-PendingAfter-clause-effect c =
    c.in_ok-shown-in-PendingAfter.ensures.effect
    ∙ shown-again c.args.read.now c.args.asked c.args.key.now c.args.entries.now.entries c.args.group.now.shown _ _ c.in-PendingAfter.id c.in_63_bits-moment.ensures.value c.most-count.ensures c.in-PendingAfter.is

pub returns-in_err-push_entries-in-New : goal.returns-in_err-push_entries-in-New
returns-in_err-push_entries-in-New c =
    let failed = c.from_residual.ensures.0 in
    record { shown = refl; effect = IfOk-from_err _ _ failed; room = IfOk-from_err _ _ failed; listed = IfOk-from_err _ _ failed }

pub returns-in_err-shown-in-PendingAfter : goal.returns-in_err-shown-in-PendingAfter
returns-in_err-shown-in-PendingAfter c =
    let failed = c.from_residual-in_err-shown-in-PendingAfter.ensures.0 in
    record { shown = c.history.ensures.shown; effect = IfOk-from_err _ _ failed; room = IfOk-from_err _ _ failed; listed = IfOk-from_err _ _ failed }

pub returns-in_err-history_reply-in-PendingAfter : goal.returns-in_err-history_reply-in-PendingAfter
returns-in_err-history_reply-in-PendingAfter c =
    let failed = c.from_residual-in_err-history_reply-in-PendingAfter.ensures.0 in
    record { shown = c.history.ensures.shown; effect = IfOk-from_err _ _ failed; room = IfOk-from_err _ _ failed; listed = IfOk-from_err _ _ failed }

pub returns-in_err-push-in-PendingAfter : goal.returns-in_err-push-in-PendingAfter
returns-in_err-push-in-PendingAfter c =
    let failed = c.from_residual-in_err-push-in-PendingAfter.ensures.0 in
    record { shown = c.history.ensures.shown; effect = IfOk-from_err _ _ failed; room = IfOk-from_err _ _ failed; listed = IfOk-from_err _ _ failed }
