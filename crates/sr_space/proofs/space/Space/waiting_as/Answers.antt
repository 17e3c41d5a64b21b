use Rattle.std.proofs.Common.{None, List, ap, map, ◌∙◌}
use Rattle.std.proofs.lemmas.Result.{IfOk-from_err}
use Rattle.sr_args.specs.{without_block}
use Rattle.sr_args.specs.declared.call.Call.TheVariants as calls
use Rattle.sr_args.specs.declared.call.Position.{Position}
use Rattle.sr_space.specs.Keys.{Key}
use Rattle.sr_space.specs.Blocking.{fixed_position}
use Rattle.sr_space.proofs.WaitingLemmas.{fixed-different, without-waits}
use Rattle.sr_space.proofs.space.Space.waiting_as.Goals as goal

pub new-requires : goal.new-requires
new-requires c =
    let keys = c.args.self.now in
    let list = c.in_ok-list-in-Xread.list.items in
    fixed-different keys c.in-Xread.read.streams list c.as_slice.ensures.once (c.in_ok-list-in-Xread.ensures ∙ ap (map (fixed_position keys)) c.as_slice.ensures.value)

pub returns-in_err-list-in-Xread : goal.returns-in_err-list-in-Xread
returns-in_err-list-in-Xread c = IfOk-from_err _ _ c.from_residual.ensures.0

pub returns-in_err-again-in_default : goal.returns-in_err-again-in_default
returns-in_err-again-in_default c = IfOk-from_err _ _ c.from_residual-in_err-again-in_default.ensures.0

pub returns-in_ok-list-in-Xread : goal.returns-in_ok-list-in-Xread
returns-in_ok-list-in-Xread c =
    let keys = c.args.self.now in
    rw c.in-Xread.is (ap (λ (streams : List (Key × Position)). calls.Xread (record c.in-Xread.read { block = None; streams = streams })) (c.new.ensures ∙ c.in_ok-list-in-Xread.ensures ∙ ap (map (fixed_position keys)) c.as_slice.ensures.value))

pub returns-in_ok-again-in_default : goal.returns-in_ok-again-in_default
returns-in_ok-again-in_default c =
    c.without_block.ensures ∙ ap without_block c.in_ok-again-in_default.ensures ∙ without-waits c.args.self.now c.args.call.now c.in_default.not-Xread
