use Rattle.std.proofs.Common.{◌∙◌}
use Rattle.std.proofs.lemmas.Result.{IfOk-from_err}
use Rattle.sr_args.proofs.reads.Streams.copy.Goals as goal

pub new-requires : goal.new-requires
new-requires g c = rw (c.in_ok-list.ensures, c.as_slice.ensures.value) c.as_slice.ensures.once

pub returns-in_err-list : goal.returns-in_err-list
returns-in_err-list g c = IfOk-from_err _ _ c.from_residual.ensures.0

pub returns : goal.returns
returns g c = c.new.ensures ∙ c.in_ok-list.ensures ∙ c.as_slice.ensures.value
