use Rattle.std.proofs.Common.{rules, ◌≡◌, ◌++◌, ◌+◌, ◌<◌, ◌≤◌, List, ℕ, Option, Some, option_map, length, get_or, drop, ap, ◌∙◌, refl}
use Rattle.std.proofs.lemmas.List.{drop_all}
use Rattle.std.proofs.lemmas.Option.{slice_get_read}
use Rattle.std.proofs.lemmas.Result.{on_ok_weaker}
use Rattle.sr_group.specs.declared.consumer.Consumer.{Consumer}
use Rattle.sr_group.specs.Group.{consumer_with}
use Rattle.sr_group.proofs.ConsumerLemmas.{consumer_with-place}
use Rattle.sr_policy.specs.{Text, consumers_of}
use Rattle.sr_policy.specs.Rules.{has_tiers}
use Rattle.sr_dash.specs.Board as boards
use Rattle.sr_dash.specs.steps.Names.{AreRising, lines_of, merged}
use Rattle.sr_dash.proofs.LineLemmas.{since-seen}
use Rattle.sr_dash.proofs.NameLemmas.{AreRising-filter, AreRising-in_order, consumers-at, lines-next, merged-all}
use Rattle.sr_bytes.specs.{comes_before}
use Rattle.sr_dash.proofs.text.write_rows.Goals as goal

pub loop-consumer-init : goal.loop-consumer-init
loop-consumer-init c = record {
  lines = rw c.consumers-named.ensures.value refl;
  rising = AreRising-in_order c.consumers-named.result.now c.consumers-named.ensures.order;
}

pub loop-consumer-preserved : goal.loop-consumer-preserved
loop-consumer-preserved c =
    let consumers = c.args.view.now.group.now.shown.consumers in
    let i = c.loop-consumer.consumer-index in
    let consumer = c.consumer-item.result in
    let named = c.loop-consumer.named.now in
    let line_at : Text → List ℕ = λ name. boards.line (has_tiers c.args.view.now.policy.now) (boards.row_of c.args.view.now.group.now.shown c.args.view.now.moment c.args.view.now.policy.now name) in
    let within : i < length consumers = search rules in
    let is : consumer ≡ get_or consumers i consumer = search rules in
    let here = consumers-at consumers i consumer within is in
    let wrote = rw c.names_before-before.ensures at c.in_ok-write_lines.ensures in
    let since_it = option_map (boards.since c.args.view.now.moment) in
    let with_idle : Option ℕ → List ℕ = λ idle. c.write_lines.new.out.items ++ boards.line (has_tiers c.args.view.now.policy.now) (record (boards.row_of c.args.view.now.group.now.shown c.args.view.now.moment c.args.view.now.policy.now consumer.name) { idle = idle }) in
    let at = slice_get_read consumers (length consumers) i consumer refl within is in
    let place = consumer_with-place consumer.name consumers i consumer consumer c.sound.ensures.consumers at refl in
    let seen : Some consumer.seen ≡ option_map (λ (found : Consumer). found.seen) (consumer_with consumer.name consumers) = ap (λ (found : Consumer). Some found.seen) is ∙ place in
    let as_seen : c.write_line.new.out.items ≡ with_idle (since_it (Some consumer.seen)) = rw c.requires at c.in_ok-write_line.ensures in
    let wrote_own : c.write_line.new.out.items ≡ c.write_lines.new.out.items ++ line_at consumer.name = as_seen ∙ ap with_idle (ap since_it seen ∙ since-seen c.args.view.now.moment (consumer_with consumer.name consumers)) in
    let next = lines-next line_at consumer (drop (i + 1) consumers) named c.loop-consumer.out.items c.write_lines.new.out.items c.write_line.new.out.items wrote wrote_own in
    record {
      lines = rw c.names_after-named.ensures (next ∙ (rw here at c.loop-consumer.invariant.lines));
      rising = rw c.names_after-named.ensures (AreRising-filter (λ other. comes_before consumer.name other) named c.loop-consumer.invariant.rising);
    }

pub returns : goal.returns
returns c =
    let consumers = c.args.view.now.group.now.shown.consumers in
    let names = consumers_of c.args.view.now.policy.now in
    let named = c.loop-consumer.named.now in
    let lines : List Text → List ℕ = lines_of c.args.view.now.group.now.shown c.args.view.now.moment c.args.view.now.policy.now in
    let past : length consumers ≤ c.loop-consumer.consumer-index = search rules in
    let none = drop_all c.loop-consumer.consumer-index consumers past in
    let rising : AreRising names = rw c.consumers-named.ensures.value at (AreRising-in_order c.consumers-named.result.now c.consumers-named.ensures.order) in
    let all = merged-all consumers names c.sound.ensures.consumers rising in
    let rest : c.loop-consumer.out.items ++ lines named ≡ c.args.out.now.items ++ lines (merged consumers names) = rw none at c.loop-consumer.invariant.lines in
    on_ok_weaker c.write_lines-2.result (λ wrote. wrote ∙ rest ∙ ap (λ l. c.args.out.now.items ++ lines l) all) c.write_lines-2.ensures
