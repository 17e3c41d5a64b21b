use Rattle.std.proofs.Common.{◌≡◌, false, ap, sym, ◌∙◌, rules}
use Rattle.sr_group.specs.{GroupState, new_group}
use Rattle.sr_stream.specs.Groups.{ByName, has_group, shown_groups, with_group}
use Rattle.sr_stream.specs.Stream.{StreamState, KeptStream, with_groups}
use Rattle.sr_stream.proofs.GroupsLemmas.{AreInOrder-kept, AreInOrder-with_group, has_group-shown, shown-with_group}
use Rattle.sr_stream.proofs.stream.Stream.create_group.Goals as goal

pub put-requires-clause-order : goal.put-requires-clause-order
put-requires-clause-order c = rw c.in_ok-reserve.ensures.items (AreInOrder-kept c.self.inside.groups.items c.self.invariant.in_order)

pub put-requires-clause-missing : goal.put-requires-clause-missing
put-requires-clause-missing c =
    let items = c.self.inside.groups.items in
    let missing : has_group c.args.name.now c.args.self.now.shown.groups ≡ false = sym c.has_group.ensures ∙ c.if-has_group.false in
    let none : has_group c.args.name.now (shown_groups items) ≡ false = rw (← c.self.view_is) at missing in
    rw (c.in_ok-named.ensures.name, c.in_ok-reserve.ensures.items) (sym (has_group-shown c.args.name.now items) ∙ none)

pub invariant_of-self-2 : goal.invariant_of-self-2
invariant_of-self-2 c =
    let items = c.self.inside.groups.items in
    let name = c.args.name.now in
    let group = c.in_ok-named.named.1 in
    let put : c.put.new.groups.items ≡ with_group name group items = rw (c.in_ok-named.ensures.name, c.in_ok-reserve.ensures.items) at c.put.ensures in
    let shown = ap shown_groups put ∙ shown-with_group name group items in
    record {
      rising = c.self.invariant.rising;
      up_to = c.self.invariant.up_to;
      few = c.self.invariant.few;
      in_order = rw shown (AreInOrder-with_group name group.shown (shown_groups items) c.self.invariant.in_order);
    }

pub returns-clause-shown : goal.returns-clause-shown
returns-clause-shown c =
    let inside = c.self.inside in
    let items = inside.groups.items in
    let name = c.args.name.now in
    let group = c.in_ok-named.named.1 in
    let stream : StreamState = record { entries = inside.entries.entries; last = inside.last; added = inside.added; groups = shown_groups items } in
    let put : c.put.new.groups.items ≡ with_group name group items = rw (c.in_ok-named.ensures.name, c.in_ok-reserve.ensures.items) at c.put.ensures in
    let shown = ap shown_groups put ∙ shown-with_group name group items ∙ ap (λ (s : GroupState). with_group name s (shown_groups items)) c.in_ok-named.ensures.group in
    ap (λ (g : ByName GroupState). with_groups g stream) shown ∙ ap (λ (s : KeptStream). with_groups (with_group name (new_group c.args.last) s.shown.groups) s.shown) c.self.view_is

pub returns-then-has_group-clause-shown : goal.returns-then-has_group-clause-shown
returns-then-has_group-clause-shown c = search rules

pub returns-then-has_group-clause-busy : goal.returns-then-has_group-clause-busy
returns-then-has_group-clause-busy c = search rules
