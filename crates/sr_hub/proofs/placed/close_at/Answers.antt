use Rattle.std.proofs.Common.{ℕ, ap, refl, subst, sym}
use Rattle.sr_book.specs.Server.{refusal}
use Rattle.sr_book.specs.{BookState, next_index}
use Rattle.sr_book.specs.Records.{IsRefusal}
use Rattle.sr_book.specs.declared.event.Event.TheVariants as events
use Rattle.sr_hub.specs.steps.Calls.{hub_of, no_one}
use Rattle.sr_hub.specs.steps.Telling.{Happens}
use Rattle.sr_hub.proofs.GoingLemmas.{goes-at}
use Rattle.sr_hub.proofs.placed.close_at.Goals as goal

pub returns-in_default-clause-ok : goal.returns-in_default-clause-ok
returns-in_default-clause-ok c = no_one (sym c.in_default.ensures) refl

pub returns-in-Ok-clause-ok : goal.returns-in-Ok-clause-ok
returns-in-Ok-clause-ok c =
    goes-at c.args.connections.now c.try_remove.new.self c.args.book.now c.leave.new.book c.args.token c.args.moment c.in-Some.connection.now c.in-Some.ensures
    (subst (λ (n : ℕ). Happens c.args.book.now c.args.moment (events.Leave n) c.leave.new.book) c.session.ensures c.in-Ok.ensures.ok) c.try_remove.ensures.updates

pub returns-in-Err-clause-err : goal.returns-in-Err-clause-err
returns-in-Err-clause-err c = record {
  gone = c.in-Some.connection.now;
  was = sym c.in-Some.ensures;
  same = ap (λ (b : BookState). hub_of b c.args.connections.now) c.in-Err.ensures.err.1;
  refused = subst (λ (n : ℕ). IsRefusal (refusal c.args.book.now.server (next_index c.args.book.now) (events.Leave n)) c.in-Err.fault) c.session.ensures c.in-Err.ensures.err.0;
}
