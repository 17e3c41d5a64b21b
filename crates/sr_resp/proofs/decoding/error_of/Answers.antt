use Rattle.std.proofs.Common.{arith}
use Rattle.sr_resp.proofs.DecodingLemmas.{no_error}
use Rattle.sr_resp.proofs.decoding.error_of.Goals as goal

pub returns-clause-none : goal.returns-clause-none
returns-clause-none c = no_error c.args.text.now (λ k few. c.loop-code.invariant k (omega arith))
