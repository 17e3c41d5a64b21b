use Rattle.std.proofs.Common.{arith}
use Rattle.std.proofs.lemmas.Result.{err_from_is_err_and}
use Rattle.sr_resp.proofs.EncodingLemmas.{cut_again}
use Rattle.sr_resp.proofs.encoding.append_parts.Goals as goal

pub returns-in_err-append_piece-clause-err : goal.returns-in_err-append_piece-clause-err
returns-in_err-append_piece-clause-err c =
    let p = err_from_is_err_and c.from_residual.result c.from_residual.ensures.1 in
    rw p.1 c.in_err-append_piece.ensures.err

pub returns-then-is_err-clause-err : goal.returns-then-is_err-clause-err
returns-then-is_err-clause-err c =
    cut_again c.extend_from_slice-appended.result c.args.out.now.items _ _ c.args.rest.now _ _ _ c.in_ok-append_piece.ensures.ok c.extend_from_slice-appended.ensures.items c.truncate.ensures.items (omega (arith, c.len-start.ensures, c.args.out.now.ok))
