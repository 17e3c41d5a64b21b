use Rattle.std.proofs.KnownBytes.{Appends-trans}
use Rattle.std.proofs.lemmas.Result.{IfErr-weaker, err_from_is_err_and, on_ok_weaker}
use Rattle.sr_start.proofs.listen.announce.Goals as goal

pub returns-in_err-send_all-2-clause-err : goal.returns-in_err-send_all-2-clause-err
returns-in_err-send_all-2-clause-err g c =
    let p = err_from_is_err_and c.from_residual-in_err-send_all-2.result c.from_residual-in_err-send_all-2.ensures.1 in
    rw p.1 (_, Appends-trans _ _ _ _ _ c.in_ok-send_all.ensures.ok c.in_err-send_all-2.ensures.err.1)

pub returns-clause-ok : goal.returns-clause-ok
returns-clause-ok g c =
    let second = rw c.as_bytes.ensures.value at c.in_ok-send_all-2.ensures.ok in
    on_ok_weaker c.send_all-3.result
    (λ third. Appends-trans _ _ _ _ _ c.in_ok-send_all.ensures.ok (Appends-trans _ _ _ _ _ second third))
    c.send_all-3.ensures.ok

pub returns-clause-err : goal.returns-clause-err
returns-clause-err g c =
    IfErr-weaker c.send_all-3.result _ _
    (λ fault third. (
      _,
      Appends-trans _ _ _ _ _ c.in_ok-send_all.ensures.ok
          (Appends-trans _ _ _ _ _ c.in_ok-send_all-2.ensures.ok third.1),
    ))
    c.send_all-3.ensures.err
