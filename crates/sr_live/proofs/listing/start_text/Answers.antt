use Rattle.std.proofs.Common.{◌++◌, ◌∙◌, ℕ, List, ◌∷◌, take, ap, sym}
use Rattle.sr_live.specs.Looking.{start_after}
use Rattle.sr_live.proofs.listing.start_text.Goals as goal

pub returns : goal.returns
returns c =
    c.in_ok-extend_from_slice.ensures.items
    ∙ ap (λ (text : List ℕ). text ++ take c.write_id-len.result c.write_id-len.new.out) c.in_ok-start.ensures.items
    ∙ ap (λ (text : List ℕ). 40 ∷ text) c.write_id-len.ensures.text
    ∙ ap start_after (sym c.in-Some.is)
