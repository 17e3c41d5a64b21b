use Rattle.std.proofs.Common.{ap, ◌∙◌}
use Rattle.slab.specs.Slab.{Slab, get}
use Rattle.sr_book.specs.{BookState}
use Rattle.sr_hub.specs.Line.{ConnectionState}
use Rattle.sr_hub.specs.steps.Calls.{hub_of}
use Rattle.sr_hub.proofs.GoingLemmas.{comes-at}
use Rattle.sr_hub.proofs.placed.connect_at.Goals as goal

pub returns-then-is_err-clause-err : goal.returns-then-is_err-clause-err
returns-then-is_err-clause-err c = record {
  same = ap (λ (s : Slab ConnectionState). hub_of c.args.book.now s) c.reserve.ensures.rest_kept;
  refused = c.lacking.ensures;
}

pub returns-in-Ok-clause-ok : goal.returns-in-Ok-clause-ok
returns-in-Ok-clause-ok c =
    comes-at c.args.connections.now c.reserve.new.self c.insert_reserved.new.self c.args.book.now c.join.new.book c.insert_reserved.result c.args.moment c.new.result
    (λ at. ap (λ (s : Slab ConnectionState). get s at) c.reserve.ensures.rest_kept) c.insert_reserved.ensures.was_vacant c.insert_reserved.ensures.updates c.in-Ok.ensures.ok
    (c.new.ensures.session ∙ c.in-Ok.ensures.number) c.new.ensures.stands c.new.ensures.unsent c.new.ensures.stage

pub returns-in-Err-clause-err : goal.returns-in-Err-clause-err
returns-in-Err-clause-err c = record {
  same = ap (λ (b : BookState). hub_of b c.reserve.new.self) c.in-Err.ensures.err.1 ∙ ap (λ (s : Slab ConnectionState). hub_of c.args.book.now s) c.reserve.ensures.rest_kept;
  refused = c.in-Err.ensures.err.0;
}
