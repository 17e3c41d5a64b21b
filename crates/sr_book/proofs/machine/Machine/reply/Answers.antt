use Rattle.std.proofs.Common.{refl}
use Rattle.std.proofs.lemmas.Result.{IfOk-from_err}
use Rattle.sr_book.proofs.ActLemmas.{one_sent}
use Rattle.sr_book.proofs.SnapLemmas.{on_err_always, on_ok_none}
use Rattle.sr_book.proofs.machine.Machine.reply.Goals as goal

pub returns-in_err-keep : goal.returns-in_err-keep
returns-in_err-keep c =
    let failed = c.from_residual.ensures.0 in
    record {
      server = on_ok_none _ _ failed;
      out = IfOk-from_err _ _ failed;
      sent = IfOk-from_err _ _ failed;
      err = on_err_always _ refl;
    }

pub hear-requires : goal.hear-requires
hear-requires c = c.requires

pub returns : goal.returns
returns c = record {
  server = c.hear.ensures;
  out = refl;
  sent = one_sent c.args.session _ _ _ c.in_ok-keep.ensures c.one.ensures;
  err = tt;
}
