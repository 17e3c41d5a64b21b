use Rattle.sr_events.proofs.RingLemmas.{IsRing-push_front, with_first_turn-push_front}
use Rattle.sr_events.proofs.ring.Ring.push_front.Goals as goal

pub invariant_of-self : goal.invariant_of-self
invariant_of-self c = IsRing-push_front c.args.token c.self.inside.tokens.items c.self.inside.tokens.capacity
    c.self.inside.waits.items c.self.invariant c.if-begin_to_wait.ensures.value
    c.push_front.new.self c.push_front.ensures.items c.begin_to_wait.new.waits.items c.if-begin_to_wait.ensures.flags

pub returns-then-begin_to_wait : goal.returns-then-begin_to_wait
returns-then-begin_to_wait c = rw (← c.self.view_is) (
    with_first_turn-push_front c.args.token c.self.inside.tokens.items c.self.inside.tokens.capacity
    c.self.inside.waits.items c.self.invariant c.if-begin_to_wait.ensures.value
    c.push_front.new.self c.push_front.ensures.items c.begin_to_wait.new.waits.items c.if-begin_to_wait.ensures.flags
    c.self.inside.waits.len c.begin_to_wait.new.waits.len
    c.self.inside.waits.ok.0 c.begin_to_wait.new.waits.ok.0)
