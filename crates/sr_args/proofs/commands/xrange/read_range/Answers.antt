use Rattle.std.proofs.Common.{◌≡◌, List, Ok, Err, refl}
use Rattle.std.proofs.lemmas.Result.{err_from_is_err_and}
use Rattle.sr_ids.specs.declared.id.Id.{Id}
use Rattle.sr_args.specs.declared.commands.xrange.Bound.{Bound}
use Rattle.sr_args.specs.declared.name.Choice.{Choice}
use Rattle.sr_args.specs.FormWord.{Word, IdOf, Spells}
use Rattle.sr_args.specs.Options.{Written}
use Rattle.sr_args.specs.Form.{Reads}
use Rattle.sr_args.specs.steps.Gives.{GivesCall}
use Rattle.sr_args.specs.steps.Options.{AreJudged}
use Rattle.sr_args.specs.steps.Ranges.{range_form, range_reading, spelling_of, id_at, asked_of}
use Rattle.sr_args.proofs.RangeLemmas.{range-fault, range-numbers}
use Rattle.sr_args.proofs.commands.xrange.read_range.Goals as goal

-- the word spells the id at this end of a range
abbrev pub IsAt : Bound → Word → Id → Type 0
IsAt bound word found = (written : IdOf (spelling_of bound)) × Spells (spelling_of bound) word written × (found ≡ id_at bound written)

gives : (first second : Bound) (words : List Word) (key a b copy : Word) (written : List Written) (i j : Id) (choice : Choice)
    → Reads (range_form (spelling_of first) (spelling_of second)) words (range_reading key a b written (spelling_of first) (spelling_of second)) → copy ≡ key → IsAt first a i → IsAt second b j → AreJudged written (Ok choice)
    → GivesCall (range_form (spelling_of first) (spelling_of second)) (asked_of first second) words (record { key = copy; first = i; second = j; count = choice.count })
gives first second words key a b copy written i j choice reads same s t judged =
    record {
      reading = range_reading key a b written (spelling_of first) (spelling_of second);
      reads = reads;
      values = (copy, (s.0, (t.0, (choice, tt))));
      means = (same, (s.1, (t.1, (judged, tt))));
      is = rw (s.2, t.2) refl;
    }

pub returns-in_err-choice : goal.returns-in_err-choice
returns-in_err-choice c =
    let p = err_from_is_err_and c.from_residual.result c.from_residual.ensures.1 in
    let read = c.in-Some.read in
    let found = c.in-Some.ensures.found in
    let was : read.judged ≡ Err c.in_err-choice.field-0.0 = c.in_err-choice.was in
    let judged = rw was at found.2 in
    rw (p.1, p.2) (range-fault (spelling_of c.args.first) (spelling_of c.args.second) (asked_of c.args.first c.args.second) c.args.words read.key.now read.first.now read.second.now found.0 c.in_err-choice.field-0.0 (found.1 (spelling_of c.args.first) (spelling_of c.args.second)) judged)

pub returns-in_default-read_bound : goal.returns-in_default-read_bound
returns-in_default-read_bound c =
    let read = c.in-Some.read in
    let found = c.in-Some.ensures.found in
    let was : read.judged ≡ Ok c.in_ok-choice.choice = c.in_ok-choice.was in
    let judged = rw was at found.2 in
    let first = spelling_of c.args.first in
    let second = spelling_of c.args.second in
    (range_reading read.key.now read.first.now read.second.now found.0 first second, found.1 first second, range-numbers first second read.key.now read.first.now read.second.now found.0 c.in_ok-choice.choice judged, λ h. c.in_default-read_bound.ensures.none h.1.0)

pub returns-in_default-read_bound-2 : goal.returns-in_default-read_bound-2
returns-in_default-read_bound-2 c =
    let read = c.in-Some.read in
    let found = c.in-Some.ensures.found in
    let was : read.judged ≡ Ok c.in_ok-choice.choice = c.in_ok-choice.was in
    let judged = rw was at found.2 in
    let first = spelling_of c.args.first in
    let second = spelling_of c.args.second in
    (range_reading read.key.now read.first.now read.second.now found.0 first second, found.1 first second, range-numbers first second read.key.now read.first.now read.second.now found.0 c.in_ok-choice.choice judged, λ h. c.in_default-read_bound-2.ensures.none h.1.1.0)

pub returns-in_err-key : goal.returns-in_err-key
returns-in_err-key c =
    let p = err_from_is_err_and c.from_residual-in_err-key.result c.from_residual-in_err-key.ensures.1 in
    let read = c.in-Some.read in
    let found = c.in-Some.ensures.found in
    let was : read.judged ≡ Ok c.in_ok-choice.choice = c.in_ok-choice.was in
    let judged = rw was at found.2 in
    rw (p.1, p.2) (_, gives c.args.first c.args.second c.args.words read.key.now read.first.now read.second.now read.key.now found.0 c.in-Some-read_bound.first c.in-Some-read_bound-2.second c.in_ok-choice.choice (found.1 (spelling_of c.args.first) (spelling_of c.args.second)) refl c.in-Some-read_bound.ensures.found c.in-Some-read_bound-2.ensures.found judged)

pub returns : goal.returns
returns c =
    let read = c.in-Some.read in
    let found = c.in-Some.ensures.found in
    let was : read.judged ≡ Ok c.in_ok-choice.choice = c.in_ok-choice.was in
    let judged = rw was at found.2 in
    gives c.args.first c.args.second c.args.words read.key.now read.first.now read.second.now c.in_ok-key.key found.0 c.in-Some-read_bound.first c.in-Some-read_bound-2.second c.in_ok-choice.choice (found.1 (spelling_of c.args.first) (spelling_of c.args.second)) c.in_ok-key.ensures c.in-Some-read_bound.ensures.found c.in-Some-read_bound-2.ensures.found judged
