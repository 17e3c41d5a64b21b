use Rattle.std.proofs.Common.{◌∙◌}
use Rattle.sr_events.proofs.BytesLemmas.{bytes_told, bytes_untold}
use Rattle.sr_events.proofs.ConnectionsLemmas.{IsKept-told, same_length, told_within}
use Rattle.sr_events.proofs.connections.Connections.next.Goals as goal

pub invariant_of-self-then-is_some : goal.invariant_of-self-then-is_some
invariant_of-self-then-is_some g c = IsKept-told c.in_ok-token.token c.tell_of-heard.new.buffer
    c.loop-self.self-inside.slots.items c.tell_of-heard.new.slots.items c.loop-self.self-inside.taken
    c.tell_of-heard.result c.loop-self.self-inside.ring c.pop.new.self c.settle.new.ring c.loop-self.invariant.kept
    c.in_ok-token.ensures.some c.tell_of-heard.ensures (rw c.deref.ensures.value at c.settle.ensures)

pub returns-then-is_some-clause-told : goal.returns-then-is_some-clause-told
returns-then-is_some-clause-told g c = told_within c.in_ok-token.token c.tell_of-heard.new.buffer
    c.loop-self.self-inside.slots.items c.tell_of-heard.new.slots.items c.tell_of-heard.result c.tell_of-heard.ensures

pub returns-then-is_some-clause-bytes : goal.returns-then-is_some-clause-bytes
returns-then-is_some-clause-bytes g c = λ taken given may. bytes_told c.in_ok-token.token c.tell_of-heard.new.buffer
    c.loop-self.self-inside.slots.items c.tell_of-heard.new.slots.items c.tell_of-heard.result c.tell_of-heard.ensures
    taken given (c.loop-self.invariant.bytes taken given may)

pub returns-in_err-token-clause-bytes : goal.returns-in_err-token-clause-bytes
returns-in_err-token-clause-bytes g c = rw c.from_residual.ensures c.loop-self.invariant.bytes

pub returns-then-is_some-clause-count : goal.returns-then-is_some-clause-count
returns-then-is_some-clause-count g c =
    same_length c.in_ok-token.token c.loop-self.self-inside.slots.items c.tell_of-heard.new.slots.items
    c.tell_of-heard.ensures.others
    ∙ c.loop-self.invariant.count

pub loop-self-preserved : goal.loop-self-preserved
loop-self-preserved g c = record {
  kept = IsKept-told c.in_ok-token.token c.tell_of-heard.new.buffer
      c.loop-self.self-inside.slots.items c.tell_of-heard.new.slots.items c.loop-self.self-inside.taken
      c.tell_of-heard.result c.loop-self.self-inside.ring c.pop.new.self c.settle.new.ring c.loop-self.invariant.kept
      c.in_ok-token.ensures.some c.tell_of-heard.ensures (rw c.deref.ensures.value at c.settle.ensures);
  count = same_length c.in_ok-token.token c.loop-self.self-inside.slots.items c.tell_of-heard.new.slots.items
      c.tell_of-heard.ensures.others
      ∙ c.loop-self.invariant.count;
  bytes = λ taken given may. bytes_untold c.in_ok-token.token c.tell_of-heard.new.buffer
      c.loop-self.self-inside.slots.items c.tell_of-heard.new.slots.items c.tell_of-heard.result
      c.tell_of-heard.ensures c.if-is_some.ensures taken given (c.loop-self.invariant.bytes taken given may);
}
