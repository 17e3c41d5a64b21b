use Rattle.std.proofs.Common.{ℕ, List, ap}
use Rattle.sr_pending.specs.declared.nack.Nack.{Nack}
use Rattle.sr_pending.proofs.nack.Nack.copy.Goals as goal

pub returns : goal.returns
returns c =
    let was = c.args.self.now in
    ap (λ (o : List ℕ). let n : Nack = record { id = was.id; owner = o; time = was.time; count = was.count } in n) c.in_ok-copy.ensures
