use Rattle.std.proofs.Common.{◌≡◌, List, map, take, Some, Ok, Err, refl}
use Rattle.std.specs.List.{zip}
use Rattle.std.proofs.lemmas.Result.{err_from_is_err_and}
use Rattle.std.proofs.lemmas.Bool.{false≢true}
use Rattle.sr_args.specs.declared.call.Call.{Call}
use Rattle.sr_args.specs.declared.call.Call.TheVariants.{Xreadgroup}
use Rattle.sr_args.specs.declared.name.Choice.{Choice}
use Rattle.sr_args.specs.declared.name.OptionSet.TheVariants as sets
use Rattle.sr_args.specs.declared.reads.ReadAsked.{ReadAsked}
use Rattle.sr_args.specs.FormWord.{Word, HasIds, read_id, spelled}
use Rattle.sr_args.specs.Options.{Written, group_in}
use Rattle.sr_args.specs.Form.{Reads, AreIds}
use Rattle.sr_args.specs.commands.Xreadgroup.{form, call}
use Rattle.sr_args.specs.steps.Gives.{GivesCall}
use Rattle.sr_args.specs.steps.Options.{AreJudged}
use Rattle.sr_args.specs.steps.Streams.{grouped_reading}
use Rattle.sr_args.proofs.FormLemmas.{AreIds-exist}
use Rattle.sr_args.proofs.ReadLemmas.{grouped-fault, read-numbers, read-ids}
use Rattle.sr_args.proofs.StreamsLemmas.{enough-keys, zipped}
use Rattle.sr_args.proofs.commands.xreadgroup.read_xreadgroup.Goals as goal

-- the call of these words
gives : (words : List Word) (written : List Written) (keys ids : List Word) (group consumer : Word) (asked : List ReadAsked) (choice : Choice) → Reads form words (grouped_reading sets.Xreadgroup read_id written keys ids) → group_in written ≡ Some (group, consumer) → AreIds read_id ids asked → AreJudged written (Ok choice) → GivesCall form call words (Xreadgroup (record { group = group; consumer = consumer; count = choice.count; block = choice.block; no_ack = choice.no_ack; streams = zip keys asked }))
gives words written keys ids group consumer asked choice reads named are judged = record {
  reading = grouped_reading sets.Xreadgroup read_id written keys ids;
  reads = reads;
  values = ((group, consumer), (choice, (keys, asked)));
  means = (named, judged, (refl, are));
  is = refl;
}

-- some call is that of these words
some : (words : List Word) (written : List Written) (keys ids : List Word) (group consumer : Word) (choice : Choice) → Reads form words (grouped_reading sets.Xreadgroup read_id written keys ids) → group_in written ≡ Some (group, consumer) → HasIds (map (spelled read_id) ids) → AreJudged written (Ok choice) → (made : Call) × GivesCall form call words made
some words written keys ids group consumer choice reads named has judged =
    let asked = AreIds-exist read_id ids has in
    (_, gives words written keys ids group consumer asked.0 choice reads named asked.1 judged)

pub returns-in_err-choice : goal.returns-in_err-choice
returns-in_err-choice c =
    let p = err_from_is_err_and c.from_residual.result c.from_residual.ensures.1 in
    let read = c.in-Some.read in
    let found = c.in-Some.ensures.found in
    let judged : AreJudged found.0 (Err c.in_err-choice.field-0.0) = rw c.in_err-choice.was at found.1 in
    rw (p.1, p.2) (grouped-fault sets.Xreadgroup read_id call c.args.words found.0 (take read.streams.keys read.streams.from_keys) read.streams.ids c.in_err-choice.field-0.0 (found.3 read_id) judged)

pub returns-then-not-are_asked : goal.returns-then-not-are_asked
returns-then-not-are_asked c =
    let read = c.in-Some.read in
    let found = c.in-Some.ensures.found in
    let judged : AreJudged found.0 (Ok c.in_ok-choice.choice) = rw c.in_ok-choice.was at found.1 in
    let unspelled : HasIds (map (spelled read_id) read.streams.ids) → ⊥ = λ h. false≢true ((rw c.again.ensures at c.if-not-are_asked.ensures).1 h) in
    (grouped_reading sets.Xreadgroup read_id found.0 (take read.streams.keys read.streams.from_keys) read.streams.ids, found.3 read_id, read-numbers sets.Xreadgroup read_id found.0 (take read.streams.keys read.streams.from_keys) read.streams.ids c.in_ok-choice.choice judged, λ h. unspelled (read-ids sets.Xreadgroup read_id found.0 (take read.streams.keys read.streams.from_keys) read.streams.ids h))

pub copy_streams-requires-clause-enough : goal.copy_streams-requires-clause-enough
copy_streams-requires-clause-enough c =
    let streams = c.in-Some.read.streams in
    enough-keys streams.keys streams.from_keys streams.ids (c.in-Some.ensures.found.3 read_id).fit.3

pub returns-in_err-list : goal.returns-in_err-list
returns-in_err-list c =
    let p = err_from_is_err_and c.from_residual-in_err-list.result c.from_residual-in_err-list.ensures.1 in
    let read = c.in-Some.read in
    let found = c.in-Some.ensures.found in
    let judged : AreJudged found.0 (Ok c.in_ok-choice.choice) = rw c.in_ok-choice.was at found.1 in
    let all : HasIds (map (spelled read_id) read.streams.ids) = (rw c.again.ensures at c.if-not-are_asked.ensures).0 refl in
    rw (p.1, p.2) (some c.args.words found.0 (take read.streams.keys read.streams.from_keys) read.streams.ids read.group.group.now read.group.consumer.now c.in_ok-choice.choice (found.3 read_id) found.2 all judged)

pub returns-in_err-group : goal.returns-in_err-group
returns-in_err-group c =
    let p = err_from_is_err_and c.from_residual-in_err-group.result c.from_residual-in_err-group.ensures.1 in
    let read = c.in-Some.read in
    let found = c.in-Some.ensures.found in
    let judged : AreJudged found.0 (Ok c.in_ok-choice.choice) = rw c.in_ok-choice.was at found.1 in
    let all : HasIds (map (spelled read_id) read.streams.ids) = (rw c.again.ensures at c.if-not-are_asked.ensures).0 refl in
    rw (p.1, p.2) (some c.args.words found.0 (take read.streams.keys read.streams.from_keys) read.streams.ids read.group.group.now read.group.consumer.now c.in_ok-choice.choice (found.3 read_id) found.2 all judged)

pub returns-in_err-consumer : goal.returns-in_err-consumer
returns-in_err-consumer c =
    let p = err_from_is_err_and c.from_residual-in_err-consumer.result c.from_residual-in_err-consumer.ensures.1 in
    let read = c.in-Some.read in
    let found = c.in-Some.ensures.found in
    let judged : AreJudged found.0 (Ok c.in_ok-choice.choice) = rw c.in_ok-choice.was at found.1 in
    let all : HasIds (map (spelled read_id) read.streams.ids) = (rw c.again.ensures at c.if-not-are_asked.ensures).0 refl in
    rw (p.1, p.2) (some c.args.words found.0 (take read.streams.keys read.streams.from_keys) read.streams.ids read.group.group.now read.group.consumer.now c.in_ok-choice.choice (found.3 read_id) found.2 all judged)

pub new-requires : goal.new-requires
new-requires c =
    let streams = c.in-Some.read.streams in
    (zipped read_id streams.keys streams.from_keys streams.ids c.in_ok-list.list.items (c.in-Some.ensures.found.3 read_id).fit.3 c.in_ok-list.ensures).once

pub returns : goal.returns
returns c =
    let read = c.in-Some.read in
    let found = c.in-Some.ensures.found in
    let judged : AreJudged found.0 (Ok c.in_ok-choice.choice) = rw c.in_ok-choice.was at found.1 in
    let list = zipped read_id read.streams.keys read.streams.from_keys read.streams.ids c.in_ok-list.list.items (found.3 read_id).fit.3 c.in_ok-list.ensures in
    rw (c.new.ensures, list.is, c.in_ok-group.ensures, c.in_ok-consumer.ensures) (gives c.args.words found.0 (take read.streams.keys read.streams.from_keys) read.streams.ids read.group.group.now read.group.consumer.now list.asked c.in_ok-choice.choice (found.3 read_id) found.2 list.are judged)
