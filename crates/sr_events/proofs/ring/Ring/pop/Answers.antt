use Rattle.std.proofs.Common.{◌<◌, length, arith}
use Rattle.sr_events.proofs.RingLemmas.{IsRing-pop, first_below}
use Rattle.sr_events.proofs.ring.Ring.pop.Goals as goal

pub index_mut-requires : goal.index_mut-requires
index_mut-requires c =
    let within : c.in_ok-token.token < length c.self.inside.waits.items =
    first_below c.self.inside.tokens c.self.inside.waits.items c.self.invariant c.in_ok-token.token
    c.in_ok-token.ensures.value in
    omega (arith, c.self.inside.waits.ok.0)

pub invariant_of-self-2 : goal.invariant_of-self-2
invariant_of-self-2 c = IsRing-pop c.self.inside.tokens c.self.inside.waits.items c.self.invariant c.in_ok-token.token
    c.in_ok-token.ensures.value c.pop_front.new.self c.pop_front.ensures.items
