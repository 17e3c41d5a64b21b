use Rattle.std.proofs.Common.{◌≡◌, Some, sym, take}
use Rattle.sr_args.specs.Options.{group_in}
use Rattle.sr_args.proofs.ReadLemmas.{grouped-reads}
use Rattle.sr_args.proofs.streams.read_grouped_words.Goals as goal

pub returns-clause-found : goal.returns-clause-found
returns-clause-found c =
    let read = c.in_ok-given.ensures.found in
    let streams = c.in_ok-streams.streams in
    let group = c.in_ok-group.group in
    let named : group_in read.0 ≡ Some (group.group.now, group.consumer.now) = rw c.in_ok-group.was at (sym read.2.group_is) in
    (read.0, read.2.judged_are, named, λ spelling. grouped-reads c.args.set spelling c.args.words c.read_given.new.words read.0 (take streams.keys streams.from_keys) streams.ids (group.group.now, group.consumer.now) read.1 named (c.in_ok-streams.ensures.found spelling))
