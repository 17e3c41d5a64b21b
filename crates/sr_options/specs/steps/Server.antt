-- What clap is told of the options. Cited by private clauses alone.

use Rattle.std.specs.Prelude.{Some, codes}
use Rattle.clap.specs.Words.{App, Rule, Text, new_app, new_rule, with_rule}
use Rattle.clap.specs.declared.builder.action.ArgAction.TheVariants.{Set, SetTrue}

-- an option without a value, and one with a value
abbrev pub plain_rule : Text → Rule
plain_rule name = record (new_rule name) { long = Some name; action = Some SetTrue }

abbrev pub valued_rule : Text → Rule
valued_rule name = record (new_rule name) { long = Some name; action = Some Set; value_names = 1 }

-- the options of a session and of each server
abbrev pub general : App
general = with_rule (with_rule (with_rule
    (with_rule (with_rule (with_rule (new_app (codes "sr_server")) (plain_rule (codes "stdio")))
    (valued_rule (codes "listen"))) (valued_rule (codes "connections"))) (valued_rule (codes "policy")))
    (valued_rule (codes "workers"))) (valued_rule (codes "keep"))

-- those of a loop beside these
abbrev pub with_loop : App → App
with_loop app = with_rule (with_rule (with_rule (with_rule app (valued_rule (codes "keep-bytes")))
    (valued_rule (codes "idle"))) (valued_rule (codes "idle-waiting"))) (valued_rule (codes "unfinished"))

abbrev pub server : App
server = with_loop general
