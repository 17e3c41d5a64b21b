use Rattle.std.proofs.Common.{Option, Some, None, refl}
use Rattle.std.specs.Prelude.{IfNone}
use Rattle.std.proofs.lemmas.Option.{IfSome_then}
use Rattle.sr_args.proofs.commands.xrange.read_bound.Goals as goal

if_none : {X P Q : Type 0} (found : Option X) → IfNone found P → (P → Q) → IfNone found Q
if_none (Some x) p f = tt
if_none None p f = f p

pub returns-in-Start-clause-found : goal.returns-in-Start-clause-found
returns-in-Start-clause-found c = rw c.in-Start.is (IfSome_then c.parse_start.result c.parse_start.ensures.found (λ id p. (id, p, refl)))

pub returns-in-Start-clause-none : goal.returns-in-Start-clause-none
returns-in-Start-clause-none c = rw c.in-Start.is (if_none c.parse_start.result c.parse_start.ensures.none (λ none h. none h.0 h.1))

pub returns-in-End-clause-found : goal.returns-in-End-clause-found
returns-in-End-clause-found c = rw c.in-End.is (IfSome_then c.parse_end.result c.parse_end.ensures.found (λ id p. (id, p, refl)))

pub returns-in-End-clause-none : goal.returns-in-End-clause-none
returns-in-End-clause-none c = rw c.in-End.is (if_none c.parse_end.result c.parse_end.ensures.none (λ none h. none h.0 h.1))
