use Rattle.sr_resp.proofs.StreamLemmas.{Stands-nothing}
use Rattle.sr_resp.proofs.TakeLemmas.{reader_new}
use Rattle.sr_resp.proofs.reader.Reader.new.Goals as goal

pub invariant_of-result : goal.invariant_of-result
invariant_of-result c = rw (c.new-2.ensures.items, c.new-3.ensures.items) reader_new

pub returns-clause-stands : goal.returns-clause-stands
returns-clause-stands c = rw (c.new.ensures.items, c.new-2.ensures.items) Stands-nothing
