use Rattle.std.specs.Prelude.{◌≡◌, ◌+◌, All, map, take, vec_capacity, vec_len}
use Rattle.sr_run.proofs.worker.call_all.Given as goal

abbrev pub invariant-loop-call : goal.invariant-loop-call
invariant-loop-call g l = record {
  calls : map (λ receipt. receipt.call) l.receipts.items ≡ take l.call-index l.fn.script;
  seats : All (λ receipt. receipt.seat ≡ l.initial.seat.number) l.receipts.items;
  sessions : All (λ receipt. receipt.session ≡ l.session) l.receipts.items;
  number : l.seat.number ≡ l.initial.seat.number;
  share : l.seat.share ≡ l.initial.seat.share + l.call-index;
  before : l.seat.before ≡ l.initial.seat.before;
  many : vec_len l.receipts ≡ l.call-index;
  room : vec_capacity l.receipts ≡ vec_capacity l.initial.receipts;
}
