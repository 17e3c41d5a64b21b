use Rattle.std.proofs.Common.{List, map, take, Ok, Err, refl}
use Rattle.std.specs.List.{zip}
use Rattle.std.proofs.lemmas.Result.{err_from_is_err_and}
use Rattle.std.proofs.lemmas.Bool.{false≢true}
use Rattle.sr_args.specs.declared.call.Call.TheVariants.{Xread}
use Rattle.sr_args.specs.declared.call.Position.{Position}
use Rattle.sr_args.specs.declared.name.Choice.{Choice}
use Rattle.sr_args.specs.declared.name.OptionSet.TheVariants as sets
use Rattle.sr_args.specs.FormWord.{Word, HasIds, position, spelled}
use Rattle.sr_args.specs.Options.{Written}
use Rattle.sr_args.specs.Form.{Reads, AreIds}
use Rattle.sr_args.specs.commands.Xread.{form, call}
use Rattle.sr_args.specs.steps.Gives.{GivesCall}
use Rattle.sr_args.specs.steps.Options.{AreJudged}
use Rattle.sr_args.specs.steps.Streams.{streams_reading}
use Rattle.sr_args.proofs.FormLemmas.{AreIds-exist}
use Rattle.sr_args.proofs.ReadLemmas.{read-fault, read-numbers, read-ids}
use Rattle.sr_args.proofs.StreamsLemmas.{enough-keys, zipped}
use Rattle.sr_args.proofs.commands.xread.read_xread.Goals as goal

-- the call of these words
gives : (words : List Word) (written : List Written) (keys ids : List Word) (from : List Position) (choice : Choice) → Reads form words (streams_reading sets.Xread position written keys ids) → AreIds position ids from → AreJudged written (Ok choice) → GivesCall form call words (Xread (record { count = choice.count; block = choice.block; streams = zip keys from }))
gives words written keys ids from choice reads are judged = record {
  reading = streams_reading sets.Xread position written keys ids;
  reads = reads;
  values = (choice, (keys, from));
  means = (judged, (refl, are));
  is = refl;
}

pub returns-in_err-choice : goal.returns-in_err-choice
returns-in_err-choice c =
    let p = err_from_is_err_and c.from_residual.result c.from_residual.ensures.1 in
    let read = c.in-Some.read in
    let found = c.in-Some.ensures.found in
    let judged : AreJudged found.0 (Err c.in_err-choice.field-0.0) = rw c.in_err-choice.was at found.1 in
    rw (p.1, p.2) (read-fault sets.Xread position call c.args.words found.0 (take read.streams.keys read.streams.from_keys) read.streams.ids c.in_err-choice.field-0.0 (found.2 position) judged)

pub returns-then-not-are_positions : goal.returns-then-not-are_positions
returns-then-not-are_positions c =
    let read = c.in-Some.read in
    let found = c.in-Some.ensures.found in
    let judged : AreJudged found.0 (Ok c.in_ok-choice.choice) = rw c.in_ok-choice.was at found.1 in
    let unspelled : HasIds (map (spelled position) read.streams.ids) → ⊥ = λ h. false≢true ((rw c.again.ensures at c.if-not-are_positions.ensures).1 h) in
    (streams_reading sets.Xread position found.0 (take read.streams.keys read.streams.from_keys) read.streams.ids, found.2 position, read-numbers sets.Xread position found.0 (take read.streams.keys read.streams.from_keys) read.streams.ids c.in_ok-choice.choice judged, λ h. unspelled (read-ids sets.Xread position found.0 (take read.streams.keys read.streams.from_keys) read.streams.ids h))

pub copy_streams-requires-clause-enough : goal.copy_streams-requires-clause-enough
copy_streams-requires-clause-enough c =
    let streams = c.in-Some.read.streams in
    enough-keys streams.keys streams.from_keys streams.ids (c.in-Some.ensures.found.2 position).fit.2

pub returns-in_err-list : goal.returns-in_err-list
returns-in_err-list c =
    let p = err_from_is_err_and c.from_residual-in_err-list.result c.from_residual-in_err-list.ensures.1 in
    let read = c.in-Some.read in
    let found = c.in-Some.ensures.found in
    let judged : AreJudged found.0 (Ok c.in_ok-choice.choice) = rw c.in_ok-choice.was at found.1 in
    let all : HasIds (map (spelled position) read.streams.ids) = (rw c.again.ensures at c.if-not-are_positions.ensures).0 refl in
    let from = AreIds-exist position read.streams.ids all in
    rw (p.1, p.2) (_, gives c.args.words found.0 (take read.streams.keys read.streams.from_keys) read.streams.ids from.0 c.in_ok-choice.choice (found.2 position) from.1 judged)

pub new-requires : goal.new-requires
new-requires c =
    let streams = c.in-Some.read.streams in
    (zipped position streams.keys streams.from_keys streams.ids c.in_ok-list.list.items (c.in-Some.ensures.found.2 position).fit.2 c.in_ok-list.ensures).once

pub returns : goal.returns
returns c =
    let read = c.in-Some.read in
    let found = c.in-Some.ensures.found in
    let judged : AreJudged found.0 (Ok c.in_ok-choice.choice) = rw c.in_ok-choice.was at found.1 in
    let list = zipped position read.streams.keys read.streams.from_keys read.streams.ids c.in_ok-list.list.items (found.2 position).fit.2 c.in_ok-list.ensures in
    rw (c.new.ensures, list.is) (gives c.args.words found.0 (take read.streams.keys read.streams.from_keys) read.streams.ids list.asked c.in_ok-choice.choice (found.2 position) list.are judged)
