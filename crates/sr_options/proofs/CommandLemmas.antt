-- Options never ask for two things, and for nothing if there is a fault.
use Rattle.std.proofs.Common.{◌≡◌, ◌∙◌, ℕ, List, [], Option, None, Some, is_some, unwrap_or, true, ap, refl, subst, sym, true≢false}
use Rattle.std.specs.Net.Grammar.{IsSocketText}
use Rattle.sr_options.specs.Command.{AreNumbers, AsksForAddress, AsksForNothing, AsksForStdio, IsFaultOf, IsWay}
use Rattle.sr_options.specs.Numbers.{IsConnections, IsIdle, IsKeep, IsKeepBytes, IsUnfinished, IsWorkers}
use Rattle.sr_options.specs.Options.{Asked}
use Rattle.sr_options.specs.declared.command.UsageFault.{UsageFault}
use Rattle.sr_options.specs.declared.command.UsageFault.TheVariants as faults
use Rattle.sr_options.specs.declared.way.Way.{Way}
use Rattle.sr_options.specs.declared.way.Way.TheVariants as ways

pub not_both : (asked : Asked) → AsksForStdio asked → AsksForAddress asked → ⊥
not_both asked stdio (text, address, way, keep, asks) = true≢false (sym stdio.over_stdio ∙ asks.alone)

-- ---- what is asked for has its numbers

no_keep : (written : Option (List ℕ)) → written ≡ None → IsKeep written None
no_keep written none = subst (λ w. IsKeep w None) (sym none) refl

no_connections : (written : Option (List ℕ)) → written ≡ None → IsConnections written None
no_connections written none = subst (λ w. IsConnections w None) (sym none) refl

no_idle : (written : Option (List ℕ)) → written ≡ None → IsIdle written None
no_idle written none = subst (λ w. IsIdle w None) (sym none) refl

no_unfinished : (written : Option (List ℕ)) → written ≡ None → IsUnfinished written 1073741824
no_unfinished written none = subst (λ w. IsUnfinished w 1073741824) (sym none) refl

no_keep_bytes : (written : Option (List ℕ)) → written ≡ None → IsKeepBytes written 67108864
no_keep_bytes written none = subst (λ w. IsKeepBytes w 67108864) (sym none) refl

no_workers : (written : Option (List ℕ)) → written ≡ None → IsWorkers written 64
no_workers written none = subst (λ w. IsWorkers w 64) (sym none) refl

numbers_of_stdio : (asked : Asked) → AsksForStdio asked → AreNumbers asked
numbers_of_stdio asked asks = record {
  workers = asks.workers;
  keep = (None, no_keep _ asks.unkept);
  connections = (None, no_connections _ asks.no_loop);
  idle = (None, no_idle _ asks.no_pause);
  unfinished = (1073741824, no_unfinished _ asks.no_bound);
  keep_bytes = (67108864, no_keep_bytes _ asks.no_bytes);
  idle_waiting = (None, no_idle _ asks.no_wait);
}

numbers_of_way : (asked : Asked) (way : Way) (keep : Option ℕ) → IsWay asked way → IsKeep asked.keep keep → AreNumbers asked
numbers_of_way asked (ways.Workers working) keep served kept = record {
  workers = (working.workers, served.0);
  keep = (keep, kept);
  connections = (None, no_connections _ served.1);
  idle = (None, no_idle _ served.2);
  unfinished = (1073741824, no_unfinished _ served.3);
  keep_bytes = (working.keep_bytes, served.4);
  idle_waiting = (None, no_idle _ served.5);
}
numbers_of_way asked (ways.Loop looping) keep served kept = record {
  workers = (64, no_workers _ served.0);
  keep = (keep, kept);
  connections = (Some looping.connections, served.1);
  idle = (looping.idle, served.2);
  unfinished = (looping.unfinished, served.3);
  keep_bytes = (looping.keep_bytes, served.4);
  idle_waiting = (looping.idle_waiting, served.5);
}

-- without them nothing is asked for
not_numbers : (asked : Asked) → (AreNumbers asked → ⊥) → AsksForNothing asked
not_numbers asked none = record {
  no_stdio = λ asks. none (numbers_of_stdio asked asks);
  no_address = λ asks. none (numbers_of_way asked asks.2 asks.3 asks.4.served asks.4.kept);
}

-- ---- each fault leaves nothing that is asked for

is_given : {T : Type 0} (written : Option T) → is_some written ≡ true → written ≡ None → ⊥
is_given written some none = true≢false (sym some ∙ ap is_some none)

no_loop : (written : Option (List ℕ)) (number : ℕ) → written ≡ None → IsConnections written (Some number) → ⊥
no_loop written number none is = true≢false (ap is_some (subst (λ w. IsConnections w (Some number)) none is))

-- beside a loop, workers
not_beside : (asked : Asked) (way : Way) → is_some asked.connections ≡ true → is_some asked.workers ≡ true → IsWay asked way → ⊥
not_beside asked (ways.Workers working) connections workers served = is_given _ connections served.1
not_beside asked (ways.Loop looping) connections workers served = is_given _ workers served.0

-- without a loop, nothing that it alone has
without_loop : (asked : Asked) (way : Way) → asked.connections ≡ None → IsWay asked way
    → (asked.idle ≡ None) × (asked.unfinished ≡ None) × (asked.idle_waiting ≡ None)
without_loop asked (ways.Workers working) none served = (served.2, served.3, served.5)
without_loop asked (ways.Loop looping) none served = absurd (no_loop _ _ none served.1)

-- what one session does not have
not_stdio : (asked : Asked) → asked.stdio ≡ true → (AsksForStdio asked → ⊥) → AsksForNothing asked
not_stdio asked stdio none = record { no_stdio = none; no_address = λ asks. true≢false (sym stdio ∙ asks.4.alone) }

same_text : (written : Option (List ℕ)) (a b : List ℕ) → written ≡ Some a → written ≡ Some b → a ≡ b
same_text written a b is_a is_b = ap (λ w. unwrap_or w []) (sym is_a ∙ is_b)

pub fault_asks_for_nothing : (asked : Asked) (fault : UsageFault) → IsFaultOf asked fault → AsksForNothing asked
fault_asks_for_nothing asked faults.Workers is = not_numbers asked (λ n. is n.workers.0 n.workers.1)
fault_asks_for_nothing asked faults.Keep is = not_numbers asked (λ n. is.1 n.keep.0 n.keep.1)
fault_asks_for_nothing asked faults.Connections is = not_numbers asked (λ n. is.2 n.connections.0 n.connections.1)
fault_asks_for_nothing asked faults.Idle is = not_numbers asked (λ n. is.3 n.idle.0 n.idle.1)
fault_asks_for_nothing asked faults.Unfinished is = not_numbers asked (λ n. is.4 n.unfinished.0 n.unfinished.1)
fault_asks_for_nothing asked faults.KeepBytes is = not_numbers asked (λ n. is.5 n.keep_bytes.0 n.keep_bytes.1)
fault_asks_for_nothing asked faults.IdleWaiting is = not_numbers asked (λ n. is.6 n.idle_waiting.0 n.idle_waiting.1)
fault_asks_for_nothing asked faults.Address is = record {
  no_stdio = λ asks. true≢false (sym asks.over_stdio ∙ is.1);
  no_address = λ asks. is.2.2 asks.1
      (subst (λ text. IsSocketText text asks.1) (same_text _ _ _ asks.4.given is.2.1) asks.4.spelled);
}
fault_asks_for_nothing asked faults.Mode is = record {
  no_stdio = λ asks. true≢false (sym asks.over_stdio ∙ is.1 ∙ ap is_some asks.alone);
  no_address = λ asks. true≢false (sym (sym asks.4.alone ∙ is.1 ∙ ap is_some asks.4.given));
}
fault_asks_for_nothing asked faults.KeepAlone is = not_stdio asked is.1 (λ asks. is_given _ is.2 asks.unkept)
fault_asks_for_nothing asked faults.ConnectionsAlone is = not_stdio asked is.1 (λ asks. is_given _ is.3 asks.no_loop)
fault_asks_for_nothing asked faults.ConnectionsBeside is = record {
  no_stdio = λ asks. true≢false (sym asks.over_stdio ∙ is.1);
  no_address = λ asks. not_beside asked asks.2 is.2 is.3 asks.4.served;
}
fault_asks_for_nothing asked faults.IdleAlone is = record {
  no_stdio = λ asks. is_given _ is.1 asks.no_pause;
  no_address = λ asks. is_given _ is.1 (without_loop asked asks.2 is.0.2 asks.4.served).0;
}
fault_asks_for_nothing asked faults.UnfinishedAlone is = record {
  no_stdio = λ asks. is_given _ is.2 asks.no_bound;
  no_address = λ asks. is_given _ is.2 (without_loop asked asks.2 is.0.2 asks.4.served).1;
}
fault_asks_for_nothing asked faults.KeepBytesAlone is = record {
  no_stdio = λ asks. is_given _ is.0 asks.no_bytes;
  no_address = λ asks. is_given _ is.0 (asks.4.with_keep is.1);
}
fault_asks_for_nothing asked faults.IdleWaitingAlone is = record {
  no_stdio = λ asks. is_given _ is.4 asks.no_wait;
  no_address = λ asks. is_given _ is.4 (without_loop asked asks.2 is.0.2 asks.4.served).2;
}
