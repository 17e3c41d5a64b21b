use Rattle.std.proofs.Common.{rules, arith}
use Rattle.sr_peer.proofs.FormLemmas.{end-none, end-one}
use Rattle.sr_peer.proofs.first.end_of.Goals as goal

pub returns-in-empty : goal.returns-in-empty
returns-in-empty c = end-none c.args.bytes.now (omega (arith, c.in-empty.len_below))

pub returns-in-13 : goal.returns-in-13
returns-in-13 c = let h = c.in-13 in end-one c.args.bytes.now (search rules) (search rules) (search rules)
