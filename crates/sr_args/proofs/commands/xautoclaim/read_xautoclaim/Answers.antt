use Rattle.std.proofs.Common.{Ok, Err, refl}
use Rattle.std.proofs.lemmas.Result.{err_from_is_err_and}
use Rattle.sr_args.specs.steps.Claims.{autoclaim_reading}
use Rattle.sr_args.specs.steps.Options.{AreJudged}
use Rattle.sr_args.proofs.AutoclaimLemmas.{autoclaim-fault, autoclaim-numbers, autoclaim-gives}
use Rattle.sr_args.proofs.commands.xautoclaim.read_xautoclaim.Goals as goal

pub returns-in_default-read_int : goal.returns-in_default-read_int
returns-in_default-read_int c =
    let read = c.in-Some.read in
    let found = c.in-Some.ensures.found in
    (autoclaim_reading read.named.key.now read.named.group.now read.named.consumer.now read.least_idle.now read.start.now found.0, found.2, λ h. c.in_default-read_int.ensures.none h.1.1.1.0.0 h.1.1.1.0.1)

pub returns-in_err-choice : goal.returns-in_err-choice
returns-in_err-choice c =
    let p = err_from_is_err_and c.from_residual.result c.from_residual.ensures.1 in
    let read = c.in-Some.read in
    let found = c.in-Some.ensures.found in
    let judged : AreJudged found.0 (Err c.in_err-choice.field-0.0) = rw c.in_err-choice.was at found.1 in
    rw (p.1, p.2) (autoclaim-fault c.args.words read.named.key.now read.named.group.now read.named.consumer.now read.least_idle.now read.start.now found.0 c.in-Some-read_int.least_idle c.in_err-choice.field-0.0 found.2 c.in-Some-read_int.ensures.found judged)

pub returns-in_default-parse_start : goal.returns-in_default-parse_start
returns-in_default-parse_start c =
    let read = c.in-Some.read in
    let found = c.in-Some.ensures.found in
    let judged : AreJudged found.0 (Ok c.in_ok-choice.choice) = rw c.in_ok-choice.was at found.1 in
    (autoclaim_reading read.named.key.now read.named.group.now read.named.consumer.now read.least_idle.now read.start.now found.0, found.2, autoclaim-numbers read.named.key.now read.named.group.now read.named.consumer.now read.least_idle.now read.start.now found.0 c.in-Some-read_int.least_idle c.in_ok-choice.choice c.in-Some-read_int.ensures.found judged, λ h. c.in_default-parse_start.ensures.none h.1.1.1.1.0.0 h.1.1.1.1.0.1)

pub returns-in_err-named : goal.returns-in_err-named
returns-in_err-named c =
    let p = err_from_is_err_and c.from_residual-in_err-named.result c.from_residual-in_err-named.ensures.1 in
    let read = c.in-Some.read in
    let found = c.in-Some.ensures.found in
    let judged : AreJudged found.0 (Ok c.in_ok-choice.choice) = rw c.in_ok-choice.was at found.1 in
    rw (p.1, p.2) (_, autoclaim-gives c.args.words read.named.key.now read.named.group.now read.named.consumer.now read.least_idle.now read.start.now found.0 (record { key = read.named.key.now; group = read.named.group.now; consumer = read.named.consumer.now }) c.in-Some-read_int.least_idle c.in-Some-parse_start.start c.in_ok-choice.choice found.2 refl refl refl c.in-Some-read_int.ensures.found c.in-Some-parse_start.ensures.found judged)

pub returns : goal.returns
returns c =
    let read = c.in-Some.read in
    let found = c.in-Some.ensures.found in
    let judged : AreJudged found.0 (Ok c.in_ok-choice.choice) = rw c.in_ok-choice.was at found.1 in
    autoclaim-gives c.args.words read.named.key.now read.named.group.now read.named.consumer.now read.least_idle.now read.start.now found.0 c.in_ok-named.named c.in-Some-read_int.least_idle c.in-Some-parse_start.start c.in_ok-choice.choice found.2 c.in_ok-named.ensures.key c.in_ok-named.ensures.group c.in_ok-named.ensures.consumer c.in-Some-read_int.ensures.found c.in-Some-parse_start.ensures.found judged
