use Rattle.std.proofs.Common.{◌≡◌, true, false, Ok, Err, refl, ap, sym, ◌∙◌}
use Rattle.std.proofs.lemmas.Result.{IfOk-from_err}
use Rattle.sr_policy.specs.{same, SnapshotState}
use Rattle.sr_book.specs.Server.{fresh_snapshot}
use Rattle.sr_book.proofs.SnapLemmas.{concluded-again, concluded-failed, concluded-holds, concluded-stale, fresh-found, on_err_always, on_ok_none, snap-failed}
use Rattle.sr_book.proofs.machine.Machine.conclude.Goals as goal

pub returns-then-still_holds : goal.returns-then-still_holds
returns-then-still_holds c =
    let a = c.args in
    let found : fresh_snapshot a.self.now a.verdict.now.snapshot ≡ Ok c.in-Ok.fresh = fresh-found _ _ _ _ _ _ _ _ c.self.view_is c.snapshot-made.ensures c.key.ensures c.group.ensures c.dead.ensures c.in-Ok.ensures.ok in
    let holds : same c.in-Ok.fresh a.verdict.now.snapshot ≡ true = ap (λ (m : SnapshotState). same c.in-Ok.fresh m) (sym c.snapshot-made.ensures) ∙ sym c.still_holds.ensures ∙ c.if-still_holds.true in
    let is = concluded-holds a.session a.moment a.apply a.last a.verdict.now a.self.now _ c.in-Ok.fresh found holds in
    record {
      server = rw is c.carry_out.ensures.server;
      out = rw is c.carry_out.ensures.out;
      sent = rw is c.carry_out.ensures.sent;
      err = c.carry_out.ensures.err;
    }

pub returns-then-last : goal.returns-then-last
returns-then-last c =
    let a = c.args in
    let found : fresh_snapshot a.self.now a.verdict.now.snapshot ≡ Ok c.in-Ok.fresh = fresh-found _ _ _ _ _ _ _ _ c.self.view_is c.snapshot-made.ensures c.key.ensures c.group.ensures c.dead.ensures c.in-Ok.ensures.ok in
    let fails : same c.in-Ok.fresh a.verdict.now.snapshot ≡ false = ap (λ (m : SnapshotState). same c.in-Ok.fresh m) (sym c.snapshot-made.ensures) ∙ sym c.still_holds.ensures ∙ c.if-still_holds.false in
    let is = concluded-stale a.session a.moment a.apply a.last a.verdict.now a.self.now _ c.in-Ok.fresh found fails c.if-last.true in
    record {
      server = rw is c.reply.ensures.server;
      out = rw (is, ← c.error.ensures) c.reply.ensures.out;
      sent = rw (is, ← c.error.ensures) c.reply.ensures.sent;
      err = c.reply.ensures.err;
    }

pub returns-else-last : goal.returns-else-last
returns-else-last c =
    let a = c.args in
    let found : fresh_snapshot a.self.now a.verdict.now.snapshot ≡ Ok c.in-Ok.fresh = fresh-found _ _ _ _ _ _ _ _ c.self.view_is c.snapshot-made.ensures c.key.ensures c.group.ensures c.dead.ensures c.in-Ok.ensures.ok in
    let fails : same c.in-Ok.fresh a.verdict.now.snapshot ≡ false = ap (λ (m : SnapshotState). same c.in-Ok.fresh m) (sym c.snapshot-made.ensures) ∙ sym c.still_holds.ensures ∙ c.if-still_holds.false in
    let is = concluded-again a.session a.moment a.apply a.last a.verdict.now a.self.now _ c.in-Ok.fresh found fails c.if-last.false in
    record {
      server = rw is c.unreplied.ensures.server;
      out = rw is c.unreplied.ensures.out;
      sent = rw is c.unreplied.ensures.sent;
      err = tt;
    }

pub returns-in_ok-reply-in-Err : goal.returns-in_ok-reply-in-Err
returns-in_ok-reply-in-Err c =
    let a = c.args in
    let reply = c.in_ok-reply-in-Err.ensures in
    let found : fresh_snapshot a.self.now a.verdict.now.snapshot ≡ Err c.in-Err.fault = fresh-found _ _ _ _ _ _ _ _ c.self.view_is c.snapshot-made.ensures c.key.ensures c.group.ensures c.dead.ensures (snap-failed _ _ c.in-Err.ensures.err reply.told) in
    let is = concluded-failed a.session a.moment a.apply a.last a.verdict.now a.self.now _ c.in-Err.fault found in
    record {
      server = rw is c.reply-in-Err.ensures.server;
      out = rw (is, ← reply.reply) c.reply-in-Err.ensures.out;
      sent = rw (is, ← reply.reply) c.reply-in-Err.ensures.sent;
      err = c.reply-in-Err.ensures.err;
    }

pub returns-in_err-reply-in-Err : goal.returns-in_err-reply-in-Err
returns-in_err-reply-in-Err c =
    let failed = c.from_residual.ensures.0 in
    record {
      server = on_ok_none _ _ failed;
      out = IfOk-from_err _ _ failed;
      sent = IfOk-from_err _ _ failed;
      err = on_err_always _ refl;
    }
