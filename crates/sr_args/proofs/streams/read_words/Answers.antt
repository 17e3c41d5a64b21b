use Rattle.std.proofs.Common.{take}
use Rattle.sr_args.proofs.ReadLemmas.{read-reads}
use Rattle.sr_args.proofs.streams.read_words.Goals as goal

pub returns-clause-found : goal.returns-clause-found
returns-clause-found c =
    let read = c.in_ok-judged.ensures.found in
    let streams = c.in_ok-streams.streams in
    (read.0, read.2, λ spelling. read-reads c.args.set spelling c.args.words c.read_options.new.words read.0 (take streams.keys streams.from_keys) streams.ids read.1 (c.in_ok-streams.ensures.found spelling))
