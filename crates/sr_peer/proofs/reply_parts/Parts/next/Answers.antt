use Rattle.std.proofs.Common.{ap, length, arith}
use Rattle.sr_peer.specs.Shown.{part_of}
use Rattle.sr_peer.proofs.SpelledLemmas.{after-spelled, parts-after}
use Rattle.sr_peer.proofs.ReadLemmas.{no-front}
use Rattle.sr_peer.proofs.reply_parts.Parts.next.Goals as goal

pub invariant_of-self-inside : goal.invariant_of-self-inside
invariant_of-self-inside c = (
  after-spelled c.self.inside.text.now c.in-Whole.after.now (part_of c.in-Whole.part) c.in-Whole.ensures
      c.self.inside.spelled,
  tt,
)

pub returns-in-Whole-clause-some : goal.returns-in-Whole-clause-some
returns-in-Whole-clause-some c =
    rw (← c.self.view_is)
    (parts-after c.self.inside.text.now c.in-Whole.after.now (part_of c.in-Whole.part) c.self.inside.spelled _
    c.in-Whole.ensures)

pub returns-in-Whole-clause-shorter : goal.returns-in-Whole-clause-shorter
returns-in-Whole-clause-shorter c = omega (arith, ap length (returns-in-Whole-clause-some c))

pub returns-in_default : goal.returns-in_default
returns-in_default c =
    let none = no-front c.self.inside.text.now c.self.inside.spelled c.first_part.result c.first_part.ensures
    c.in_default.not-Whole in
    rw (← c.self.view_is) (record { some = tt; none = none; same = none; shorter = tt })
