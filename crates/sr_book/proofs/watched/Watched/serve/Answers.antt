use Rattle.sr_book.proofs.WatchedLemmas.{bound-after}
use Rattle.sr_book.proofs.watched.Watched.serve.Goals as goal

pub see_if_settled-requires : goal.see_if_settled-requires
see_if_settled-requires c =
    let inside = c.self.inside in
    let done = c.serve_ready.ensures in
    bound-after inside.ready inside.machine c.serve_ready.new.machine c.args.index c.serve_ready.result c.self.invariant.bound done.some done.stays done.err
