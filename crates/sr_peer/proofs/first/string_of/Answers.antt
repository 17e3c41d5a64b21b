use Rattle.std.proofs.Common.{rules, ◌<◌, ◌≤◌, ◌+◌, ◌^◌, length, arith}
use Rattle.sr_peer.proofs.FormLemmas.{string-missing, string-ending, string-wrong}
use Rattle.sr_peer.proofs.first.string_of.Goals as goal

pub returns-then-bytes-len : goal.returns-then-bytes-len
returns-then-bytes-len c =
    let small : c.args.len < 2 ^ 64 = search rules in
    let some : 0 < c.saturating_add.result = grind arith in
    let few : c.saturating_add.result + length c.args.bytes.now ≤ c.args.len + 2 = grind arith in
    string-missing c.args.len c.args.bytes.now _ small c.if-bytes-len.true some few

pub returns-in-Begun : goal.returns-in-Begun
returns-in-Begun c =
    let small : c.args.len < 2 ^ 64 = search rules in
    string-ending c.args.len c.args.bytes.now c.split_at.result.0.now c.split_at.result.1.now _ small (search rules)
    (search rules) c.in-Begun.ensures

pub returns-in-Wrong : goal.returns-in-Wrong
returns-in-Wrong c =
    let small : c.args.len < 2 ^ 64 = search rules in
    string-wrong c.args.len c.args.bytes.now c.split_at.result.0.now c.split_at.result.1.now small (search rules)
    (search rules) c.in-Wrong.ensures
