use Rattle.std.proofs.Common.{rules, Bool, not}
use Rattle.sr_args.specs.declared.call.Call.{Call}
use Rattle.sr_space.specs.{finds_nothing, read_at}
use Rattle.sr_book.proofs.machine.Machine.first_ready_at.Goals as goal

pub returns : goal.returns
returns c =
    let ready : Call → Bool = λ read. not (finds_nothing c.self.inside.space c.self.inside.last (read_at c.args.key.now read)) in
    rw (← c.self.view_is) (c.first_at.ensures ready (λ read answer post. search rules))
