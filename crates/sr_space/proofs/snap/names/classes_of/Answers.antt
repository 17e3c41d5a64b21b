use Rattle.std.proofs.Common.{List, drop, map, ap, sym, ◌∙◌}
use Rattle.sr_policy.specs.declared.stranded.Stranded.{Stranded}
use Rattle.sr_policy.specs.{Text}
use Rattle.sr_bytes.specs.{with_name}
use Rattle.sr_space.specs.Snap.{in_order}
use Rattle.sr_space.proofs.LoopLemmas.{within-behind, behind-init, behind-next, behind-end}
use Rattle.sr_space.proofs.NameOrderLemmas.{in_order-same}
use Rattle.sr_space.proofs.snap.names.classes_of.Goals as goal

abbrev classes : List Stranded → List Text
classes entries = in_order (map (λ (entry : Stranded). entry.class) entries)

pub loop-place-init : goal.loop-place-init
loop-place-init c = c.new-list.ensures.items ∙ behind-init classes c.args.entries.now

pub bounds-entries-place : goal.bounds-entries-place
bounds-entries-place c = within-behind _ _ c.loop-place-test.true c.loop-place.auto.place

pub add_name-requires : goal.add_name-requires
add_name-requires c =
    in_order-same c.loop-place.list.items (map (λ (entry : Stranded). entry.class) (drop c.loop-place.place c.args.entries.now)) c.loop-place.invariant

pub loop-place-preserved : goal.loop-place-preserved
loop-place-preserved c =
    let entry = c.index-entries-place.result in
    let list = c.loop-place.list.items in
    behind-next classes c.args.entries.now c.loop-place.place entry _ c.loop-place-test.true c.loop-place.auto.place c.index-entries-place.is
    (c.in_ok-add_name.ensures ∙ ap (λ (read : Stranded). with_name read.class list) (sym c.index-entries-place.is) ∙ ap (with_name entry.class) c.loop-place.invariant)

pub returns : goal.returns
returns c = behind-end classes c.args.entries.now c.loop-place.place _ c.loop-place-test.false c.loop-place.invariant
