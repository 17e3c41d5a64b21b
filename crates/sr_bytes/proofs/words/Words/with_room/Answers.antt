use Rattle.std.proofs.Common.{length, sym, ap}
use Rattle.sr_bytes.proofs.WordsLemmas.{words-none}
use Rattle.sr_bytes.proofs.words.Words.with_room.Goals as goal

pub invariant_of-result-2 : goal.invariant_of-result-2
invariant_of-result-2 c = sym (ap length (words-none _ _ c.in_ok-with_capacity.ensures.items))

pub returns : goal.returns
returns c = words-none _ _ c.in_ok-with_capacity.ensures.items
