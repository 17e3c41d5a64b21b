use Rattle.std.proofs.Common.{rules, ◌≡◌, ◌∙◌, ap, ap₂, codes}
use Rattle.std.proofs.lemmas.Result.{IfOk-weaker}
use Rattle.clap.specs.Simple.{app_of_fields}
use Rattle.clap.specs.Words.{AddsArg, App, app_of, new_app, rule_of, with_rule}
use Rattle.sr_options.specs.steps.Server.{plain_rule, valued_rule}
use Rattle.sr_options.proofs.options.general_options.Goals as goal

abbrev one : App
one = with_rule (new_app (codes "sr_server")) (plain_rule (codes "stdio"))

abbrev two : App
two = with_rule one (valued_rule (codes "listen"))

abbrev three : App
three = with_rule two (valued_rule (codes "connections"))

abbrev four : App
four = with_rule three (valued_rule (codes "policy"))

abbrev five : App
five = with_rule four (valued_rule (codes "workers"))

pub returns : goal.returns
returns c =
    let stdio_is : rule_of c.plain.result ≡ plain_rule (codes "stdio") = search rules in
    let listen_is : rule_of c.valued.result ≡ valued_rule (codes "listen") = search rules in
    let connections_is : rule_of c.valued-2.result ≡ valued_rule (codes "connections") = search rules in
    let policy_is : rule_of c.valued-3.result ≡ valued_rule (codes "policy") = search rules in
    let workers_is : rule_of c.valued-4.result ≡ valued_rule (codes "workers") = search rules in
    let keep_is : rule_of c.valued-5.result ≡ valued_rule (codes "keep") = search rules in
    let none_is : app_of c.after_help.result ≡ new_app (codes "sr_server")
    = ap app_of_fields c.after_help.ensures ∙ ap app_of_fields c.about.ensures ∙ c.new.ensures.app in
    let one_is : app_of c.in_ok-arg.field-0 ≡ one = c.in_ok-arg.ensures.shape (search rules) ∙ ap₂ with_rule none_is stdio_is in
    let two_is : app_of c.in_ok-arg-2.field-0 ≡ two = c.in_ok-arg-2.ensures.shape (search rules) ∙ ap₂ with_rule one_is listen_is in
    let three_is : app_of c.in_ok-arg-3.field-0 ≡ three
    = c.in_ok-arg-3.ensures.shape (search rules) ∙ ap₂ with_rule two_is connections_is in
    let four_is : app_of c.in_ok-arg-4.field-0 ≡ four = c.in_ok-arg-4.ensures.shape (search rules) ∙ ap₂ with_rule three_is policy_is in
    let five_is : app_of c.in_ok-arg-5.field-0 ≡ five = c.in_ok-arg-5.ensures.shape (search rules) ∙ ap₂ with_rule four_is workers_is in
    IfOk-weaker c.arg-6.result (AddsArg c.in_ok-arg-5.field-0 c.valued-5.result) _
    (λ command adds. adds.shape c.valued-5.ensures.local ∙ ap₂ with_rule five_is keep_is) c.arg-6.ensures
