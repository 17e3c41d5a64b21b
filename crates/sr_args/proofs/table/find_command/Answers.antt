use Rattle.std.proofs.Common.{◌≡◌, ◌∷◌, List, sym, subst, ◌∙◌}
use Rattle.sr_args.specs.FormWord.{Word}
use Rattle.sr_args.specs.steps.Names.{IsFound}
use Rattle.sr_args.proofs.NameLemmas.{IsFound-from_among}
use Rattle.sr_args.proofs.table.find_command.Goals as goal

pub returns : goal.returns
returns c =
    let words : List Word = c.in-Some.word.now ∷ c.next.new.self in
    let same : words ≡ c.args.words.now = sym c.in-Some.ensures.some ∙ c.again-rest.ensures in
    subst (λ (w : List Word). IsFound w c.find_among.result) same (IsFound-from_among words c.find_among.result c.find_among.ensures)
