use Rattle.std.proofs.Common.{rules, ◌^◌, ◌<◌}
use Rattle.sr_resp.proofs.DecodingLemmas.{no_string}
use Rattle.sr_resp.proofs.decoding.string_of.Goals as goal

pub returns-in_err-string-in_default-clause-none :
    goal.returns-in_err-string-in_default-clause-none
returns-in_err-string-in_default-clause-none c = rw c.from_residual-in_err-string-in_default.ensures (λ part others form.
    let n = c.in_ok-number_of-in_default.field-0 in
    let small : n < 2 ^ 64 = search rules in
    no_string c.args.line.now c.args.after.now n part others small c.in_ok-number_of-in_default.ensures.found c.in_err-string-in_default.ensures.none form)
