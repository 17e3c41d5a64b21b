use Rattle.std.proofs.Common.{◌≡◌, ◌∙◌, ap, ap₂, codes, refl}
use Rattle.clap.specs.Words.{found_of, is_simple, matches_of, one_of, rows_of, takes}
use Rattle.clap.proofs.TakesLemmas.{passed_up}
use Rattle.clap.proofs.WalkLemmas.{one_text-rows}
use Rattle.sr_options.specs.Options.{asked_by, is_given}
use Rattle.sr_options.proofs.OptionsLemmas.{asked_is_taken, asked_rows, asked_stdio, flag_read, read_value, rows_of_all, same_asked, server_is_simple}
use Rattle.sr_options.proofs.options.read_options.Goals as goal

pub returns-in_err-matches-clause-err : goal.returns-in_err-matches-clause-err
returns-in_err-matches-clause-err g c = λ name flags words_are once.
    passed_up _ _ _ c.from_residual-in_err-matches.ensures.1
    (c.in_err-matches.ensures.passes (ap₂ takes c.in_ok-command.ensures words_are ∙ asked_is_taken name flags once))

pub returns-clause-ok : goal.returns-clause-ok
returns-clause-ok g c = λ name flags words_are once.
    let server_is = c.in_ok-command.ensures in
    let found = found_of c.in_ok-matches.matches in
    let rows_are : rows_of found ≡ rows_of_all flags
    = (c.in_ok-matches.ensures.matches (ap is_simple server_is ∙ server_is_simple)).0 ∙ ap₂ matches_of server_is words_are ∙ asked_rows name flags once in
    let text_is = one_text-rows found (codes "stdio") ∙ ap (one_of (codes "stdio")) rows_are ∙ asked_stdio flags in
    let stdio_is = flag_read c.get_flag.result (is_given flags (codes "stdio")) _ text_is c.get_flag.ensures.value c.get_flag.ensures.other in
    let listen_is = c.get_str.ensures ∙ read_value found (codes "listen") flags rows_are refl in
    let policy_is = c.get_str-2.ensures ∙ read_value found (codes "policy") flags rows_are refl in
    let workers_is = c.get_str-3.ensures ∙ read_value found (codes "workers") flags rows_are refl in
    let keep_is = c.get_str-4.ensures ∙ read_value found (codes "keep") flags rows_are refl in
    let connections_is = c.get_str-5.ensures ∙ read_value found (codes "connections") flags rows_are refl in
    let idle_is = c.get_str-6.ensures ∙ read_value found (codes "idle") flags rows_are refl in
    let unfinished_is = c.get_str-7.ensures ∙ read_value found (codes "unfinished") flags rows_are refl in
    let keep_bytes_is = c.get_str-8.ensures ∙ read_value found (codes "keep-bytes") flags rows_are refl in
    let idle_waiting_is = c.get_str-9.ensures ∙ read_value found (codes "idle-waiting") flags rows_are refl in
    same_asked _ (asked_by flags) stdio_is listen_is policy_is workers_is keep_is connections_is idle_is unfinished_is keep_bytes_is idle_waiting_is
