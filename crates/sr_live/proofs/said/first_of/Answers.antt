use Rattle.std.proofs.Common.{◌≡◌, Option, Some, None, option_map, refl, sym, ap, ◌∙◌}
use Rattle.std.specs.Option.{option_or}
use Rattle.sr_peer.specs.declared.part.Part as declared
use Rattle.sr_peer.specs.{part_of}
use Rattle.sr_live.proofs.SaidLemmas.{first-named, first-other}
use Rattle.sr_live.proofs.said.first_of.Goals as goal

shown : (before : Option declared.Part) (value : declared.Part)
    → option_map part_of (option_or before (Some value)) ≡ option_or (option_map part_of before) (Some (part_of value))
shown None value = refl
shown (Some part) value = refl

pub returns-then-eq : goal.returns-then-eq
returns-then-eq c = λ fields before.
    ap (option_map part_of) c.or.ensures ∙ shown c.args.before c.args.value
    ∙ first-named c.args.name.now fields c.args.field.now (part_of c.args.value) (option_map part_of c.args.before)
    before (sym c.eq.ensures ∙ c.if-eq.true)

pub returns-else-eq : goal.returns-else-eq
returns-else-eq c = λ fields before.
    first-other c.args.name.now fields c.args.field.now (part_of c.args.value) (option_map part_of c.args.before)
    before (sym c.eq.ensures ∙ c.if-eq.false)
