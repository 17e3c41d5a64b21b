use Rattle.std.proofs.Common.{rules, ◌≡◌, ◌∙◌, ap, ap₂, codes}
use Rattle.std.proofs.lemmas.Result.{IfOk-weaker}
use Rattle.clap.specs.Words.{AddsArg, app_of, rule_of, with_rule}
use Rattle.sr_options.specs.steps.Server.{valued_rule}
use Rattle.sr_options.proofs.options.loop_options.Goals as goal

pub returns : goal.returns
returns c =
    let keep_bytes_is : rule_of c.valued.result ≡ valued_rule (codes "keep-bytes") = search rules in
    let idle_is : rule_of c.valued-2.result ≡ valued_rule (codes "idle") = search rules in
    let idle_waiting_is : rule_of c.valued-3.result ≡ valued_rule (codes "idle-waiting") = search rules in
    let unfinished_is : rule_of c.valued-4.result ≡ valued_rule (codes "unfinished") = search rules in
    let one_is : app_of c.in_ok-arg.field-0 ≡ with_rule (app_of c.args.command) (valued_rule (codes "keep-bytes"))
    = c.in_ok-arg.ensures.shape (search rules) ∙ ap (with_rule (app_of c.args.command)) keep_bytes_is in
    let two_is : app_of c.in_ok-arg-2.field-0
    ≡ with_rule (with_rule (app_of c.args.command) (valued_rule (codes "keep-bytes"))) (valued_rule (codes "idle"))
    = c.in_ok-arg-2.ensures.shape (search rules) ∙ ap₂ with_rule one_is idle_is in
    let three_is : app_of c.in_ok-arg-3.field-0
    ≡ with_rule (with_rule (with_rule (app_of c.args.command) (valued_rule (codes "keep-bytes"))) (valued_rule (codes "idle")))
    (valued_rule (codes "idle-waiting"))
    = c.in_ok-arg-3.ensures.shape (search rules) ∙ ap₂ with_rule two_is idle_waiting_is in
    IfOk-weaker c.arg-4.result (AddsArg c.in_ok-arg-3.field-0 c.valued-4.result) _
    (λ command adds. adds.shape c.valued-4.ensures.local ∙ ap₂ with_rule three_is unfinished_is) c.arg-4.ensures
