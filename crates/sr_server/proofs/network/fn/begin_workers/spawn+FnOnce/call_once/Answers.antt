use Rattle.sr_server.proofs.network.fn.begin_workers.spawn+FnOnce.call_once.Goals as goal

pub spawn-requires : goal.spawn-requires
spawn-requires g c = (c.requires.1.1.0, (c.requires.1.1.1, c.requires.1.0))
