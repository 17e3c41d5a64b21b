use Rattle.std.proofs.Common.{◌≡◌, ℕ, ap, sym, ◌∙◌, map}
use Rattle.std.proofs.lemmas.Result.{on_ok_weaker, on_err_weaker}
use Rattle.sr_group.specs.{after_moves, GroupState}
use Rattle.sr_stream.specs.{ByName, with_group, with_groups}
use Rattle.sr_stream.proofs.GroupsLemmas.{with_group-same}
use Rattle.sr_space.specs.steps.Claiming.{move_for}
use Rattle.sr_space.proofs.CommitLemmas.{moves-counts, stream_after-found, stream_after-missing}
use Rattle.sr_space.proofs.commit.claim_in.Goals as goal

pub returns-then-not-has_group-clause-ok : goal.returns-then-not-has_group-clause-ok
returns-then-not-has_group-clause-ok c =
    stream_after-missing c.args.moment c.args.batches.now c.args.name.now c.args.stream.now.shown (sym c.has_group.ensures ∙ c.if-not-has_group.true)

pub move_all-requires-clause-counts : goal.move_all-requires-clause-counts
move_all-requires-clause-counts c =
    moves-counts c.args.batches.now c.as_slice.result.now (c.as_slice.ensures.value ∙ c.in_ok-moves.ensures)

pub returns-clause-ok : goal.returns-clause-ok
returns-clause-ok c =
    let stream = c.args.stream.now.shown in
    let name = c.args.name.now in
    let batches = c.args.batches.now in
    let entries = c.entries_and_group-group.result.0.now.entries in
    let group = c.entries_and_group-group.result.1.now.shown in
    let moves = c.as_slice.result.now in
    let made : moves ≡ map move_for batches = c.as_slice.ensures.value ∙ c.in_ok-moves.ensures in
    on_ok_weaker c.move_all.result (λ is. stream_after-found c.args.moment batches name stream entries moves group c.move_all.new.self.shown c.entries_and_group-group.ensures.entries made
    c.entries_and_group-group.ensures.shown (is ∙ ap (λ (m : ℕ). after_moves m entries moves group) c.in_63_bits.ensures.value)) c.move_all.ensures.ok

pub returns-clause-err : goal.returns-clause-err
returns-clause-err c =
    let stream = c.args.stream.now.shown in
    let name = c.args.name.now in
    let group = c.entries_and_group-group.result.1.now.shown in
    on_err_weaker c.move_all.result (λ same. ap (λ (g : GroupState). with_groups (with_group name g stream.groups) stream) same
    ∙ ap (λ (groups : ByName GroupState). with_groups groups stream) (with_group-same name group stream.groups c.sound.ensures.in_order (sym c.entries_and_group-group.ensures.shown))) c.move_all.ensures.err
