use Rattle.std.specs.Prelude.{◌≡◌, ◌+◌, ◌<◌, ◌≤◌, vec_capacity, vec_len}
use Rattle.sr_seats.specs.Held.{new_seats}
use Rattle.sr_seats.proofs.seating.seats_of.Given as goal

abbrev pub invariant-loop-number : goal.invariant-loop-number
invariant-loop-number g l = record {
  parts : l.rest.parts + l.number ≡ l.n;
  first : l.number ≡ 0 → l.rest.amount ≡ l.before;
  others : 0 < l.number → l.rest.amount ≡ 0;
  seats : l.seats.items ≡ new_seats l.before l.number;
  many : vec_len l.seats ≡ l.number;
  room : l.n ≤ vec_capacity l.seats;
}
