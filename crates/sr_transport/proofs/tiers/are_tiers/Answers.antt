use Rattle.sr_transport.proofs.tiers.are_tiers.Goals as goal

pub returns-then-have_first : goal.returns-then-have_first
returns-then-have_first c = (
  λ near. record { first = c.have_first.ensures.0 c.if-have_first.true; near = c.are_near.ensures.0 near },
  λ are. c.are_near.ensures.1 are.near,
)
