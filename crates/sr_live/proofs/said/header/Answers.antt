use Rattle.std.proofs.Common.{rules, ◌≡◌, ◌∷◌, []}
use Rattle.sr_peer.specs.Reply as wire
use Rattle.sr_live.proofs.said.header.Goals as goal

pub returns-in_ok-name_of-in-Some-Error-clause-told : goal.returns-in_ok-name_of-in-Some-Error-clause-told
returns-in_ok-name_of-in-Some-Error-clause-told c =
    let rest = c.next.new.self in
    let is : c.args.parts.now ≡ wire.Error c.in_ok-name_of-in-Some-Error.field-0 ∷ rest = search rules in
    ([], rest, is)
