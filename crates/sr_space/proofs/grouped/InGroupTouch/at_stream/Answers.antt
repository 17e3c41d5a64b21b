use Rattle.std.proofs.Common.{◌≡◌, Some, false, ap, sym, ◌∙◌}
use Rattle.std.proofs.lemmas.Result.{on_ok_weaker, on_err_weaker}
use Rattle.sr_group.specs.{GroupState}
use Rattle.sr_stream.specs.{group_with, has_group, with_group, with_groups}
use Rattle.sr_stream.proofs.GroupsLemmas.{group_with-none}
use Rattle.sr_space.proofs.GroupedLemmas.{group-stays, stream-left}
use Rattle.sr_space.proofs.grouped.InGroupTouch.at_stream.Goals as goal

pub returns-then-not-has_group-clause-stream : goal.returns-then-not-has_group-clause-stream
returns-then-not-has_group-clause-stream g c =
    let stream = c.args.stream.now.shown in
    let missing : has_group c.args.self.now.name.now stream.groups ≡ false = sym c.has_group.ensures ∙ c.if-not-has_group.true in
    let none = group_with-none c.args.self.now.name.now stream.groups missing in
    rw none (λ i. stream)

pub returns-then-not-has_group-clause-outcome : goal.returns-then-not-has_group-clause-outcome
returns-then-not-has_group-clause-outcome g c =
    let stream = c.args.stream.now.shown in
    let missing : has_group c.args.self.now.name.now stream.groups ≡ false = sym c.has_group.ensures ∙ c.if-not-has_group.true in
    let none = group_with-none c.args.self.now.name.now stream.groups missing in
    rw none c.without_group.ensures

pub returns-clause-stream : goal.returns-clause-stream
returns-clause-stream g c =
    let stream = c.args.stream.now.shown in
    let name = c.args.self.now.name.now in
    let lent = c.entries_and_group-group.result in
    let f = g.T.TouchGroup.regroups c.args.self.now.command in
    let found : group_with name stream.groups ≡ Some lent.1.now.shown = sym c.entries_and_group-group.ensures.shown in
    on_ok_weaker c.at_group.result (λ is. stream-left c.args.self.now.missing f name stream lent.1.now.shown c.at_group.new.group.shown c.sound.ensures.in_order found (rw c.entries_and_group-group.ensures.entries at is)) c.at_group.ensures.group

pub returns-clause-err : goal.returns-clause-err
returns-clause-err g c =
    let stream = c.args.stream.now.shown in
    let name = c.args.self.now.name.now in
    let lent = c.entries_and_group-group.result in
    let f = g.T.TouchGroup.regroups c.args.self.now.command in
    let found : group_with name stream.groups ≡ Some lent.1.now.shown = sym c.entries_and_group-group.ensures.shown in
    on_err_weaker c.at_group.result (λ same. ap (λ (group : GroupState). with_groups (with_group name group stream.groups) stream) same ∙ group-stays c.args.self.now.missing f name stream lent.1.now.shown c.sound.ensures.in_order found) c.at_group.ensures.err
