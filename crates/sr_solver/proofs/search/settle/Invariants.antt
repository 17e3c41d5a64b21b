use Rattle.std.proofs.Common.{◌≡◌, ◌<◌, false}
use Rattle.sr_solver.specs.Cutoff.{length_of}
use Rattle.sr_solver.specs.Labels.{label_at, open_count, guess_count}
use Rattle.sr_solver.specs.Limits.{far}
use Rattle.sr_solver.specs.Seekers.{IsTableFor, IsFrontBetween}
use Rattle.sr_solver.proofs.OfferLemmas.{AreSettled}
use Rattle.sr_solver.proofs.search.settle.Given as goal

abbrev pub invariant-loop-from : goal.invariant-loop-from
invariant-loop-from l = record {
  table : IsTableFor l.seeker l.table;
  front : IsFrontBetween l.seeker l.front;
  settled : AreSettled l.seeker.problem.now.columns l.seeker.entry l.seeker.placement.now.assign.items
      l.seeker.placement.now.prices.items (length_of l.front.cutoff) l.front.labels.items l.near l.from;
  is_open : (label_at l.front.labels.items l.near).closed ≡ false;
  guess : (label_at l.front.labels.items l.near).guess < far;
  opened : open_count l.front.labels.items ≡ open_count l.fn.front.labels.items;
  guesses : guess_count l.front.labels.items ≡ guess_count l.fn.front.labels.items;
}
