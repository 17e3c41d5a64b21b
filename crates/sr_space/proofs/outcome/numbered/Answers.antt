use Rattle.std.proofs.Common.{◌≡◌, pos, ap, ◌∙◌, to_z, w64, sym}
use Rattle.std.proofs.lemmas.Int.{to_z_pos}
use Rattle.sr_resp.specs.{integer}
use Rattle.sr_space.proofs.outcome.numbered.Goals as goal

pub returns : goal.returns
returns c =
    let number : to_z w64 c.args.n ≡ pos c.args.n = to_z_pos w64 c.args.n c.requires in
    c.of.ensures ∙ c.int.ensures ∙ ap integer number
