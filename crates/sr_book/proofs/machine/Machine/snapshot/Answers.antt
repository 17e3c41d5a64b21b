use Rattle.std.proofs.Common.{◌≡◌, Ok, Err, refl}
use Rattle.std.proofs.lemmas.Result.{IfOk-from_err}
use Rattle.sr_space.specs.{snapped}
use Rattle.sr_book.proofs.SnapLemmas.{found-in, on_err_always, on_ok_none, snap-failed}
use Rattle.sr_book.proofs.machine.Machine.snapshot.Goals as goal

pub returns-in-Ok : goal.returns-in-Ok
returns-in-Ok c =
    let a = c.args in
    let found : snapped a.self.now.rules a.self.now.keys a.key.now a.group.now a.dead.now ≡ Ok c.in-Ok.snapshot = found-in _ _ _ _ _ _ _ c.self.view_is c.as_slice.ensures c.in-Ok.ensures.ok in
    record {
      server = rw found c.unreplied.ensures.server;
      out = rw found c.unreplied.ensures.out;
      sent = rw found c.unreplied.ensures.sent;
      err = tt;
    }

pub returns-in_ok-reply-in-Err : goal.returns-in_ok-reply-in-Err
returns-in_ok-reply-in-Err c =
    let a = c.args in
    let reply = c.in_ok-reply-in-Err.ensures in
    let found : snapped a.self.now.rules a.self.now.keys a.key.now a.group.now a.dead.now ≡ Err c.in-Err.fault = found-in _ _ _ _ _ _ _ c.self.view_is c.as_slice.ensures (snap-failed _ _ c.in-Err.ensures.err reply.told) in
    record {
      server = rw found c.reply.ensures.server;
      out = rw (found, ← reply.reply) c.reply.ensures.out;
      sent = rw (found, ← reply.reply) c.reply.ensures.sent;
      err = c.reply.ensures.err;
    }

pub returns-in_err-reply-in-Err : goal.returns-in_err-reply-in-Err
returns-in_err-reply-in-Err c =
    let failed = c.from_residual.ensures.0 in
    record {
      server = on_ok_none _ _ failed;
      out = IfOk-from_err _ _ failed;
      sent = IfOk-from_err _ _ failed;
      err = on_err_always _ refl;
    }
