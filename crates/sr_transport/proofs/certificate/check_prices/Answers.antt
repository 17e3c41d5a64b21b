use Rattle.sr_transport.proofs.CallerLemmas.{prices_show_cheapest}
use Rattle.sr_transport.proofs.certificate.check_prices.Goals as goal

pub returns-then-is_assignment-clause-cheapest : goal.returns-then-is_assignment-clause-cheapest
returns-then-is_assignment-clause-cheapest c =
    let assigned = c.is_assignment.ensures.0 c.if-is_assignment.true in
    λ yes. (
      assigned,
      prices_show_cheapest c.args.problem.now c.args.assign.now c.args.prices.now c.sound.ensures.are_tiers assigned
          (c.shows_cheapest.ensures.0 yes),
    )
