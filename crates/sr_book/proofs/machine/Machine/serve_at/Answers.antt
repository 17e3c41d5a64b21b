use Rattle.sr_book.proofs.WatchedLemmas.{serves-first, serves-none}
use Rattle.sr_book.proofs.machine.Machine.serve_at.Goals as goal

pub returns-in_default-clause-none : goal.returns-in_default-clause-none
returns-in_default-clause-none c =
    serves-none c.args.key.now c.args.self.now c.first_ready_at.result c.requires c.first_ready_at.ensures c.args.index c.in_default.is

pub serve_session-requires : goal.serve_session-requires
serve_session-requires c =
    serves-first c.args.key.now c.args.self.now c.first_ready_at.result c.requires c.first_ready_at.ensures c.in-Some.session c.in-Some.is
