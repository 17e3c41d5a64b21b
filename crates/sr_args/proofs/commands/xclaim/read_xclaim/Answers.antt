use Rattle.std.proofs.Common.{Ok, Err, map, take, refl}
use Rattle.std.proofs.lemmas.Result.{err_from_is_err_and}
use Rattle.std.proofs.lemmas.Bool.{false≢true}
use Rattle.sr_args.specs.FormWord.{HasIds, strict_id, spelled}
use Rattle.sr_args.specs.steps.Claims.{claim_reading}
use Rattle.sr_args.specs.steps.Options.{AreJudged}
use Rattle.sr_args.proofs.ClaimLemmas.{claim-fault, claim-numbers, claim-ids, claim-gives}
use Rattle.sr_args.proofs.FormLemmas.{AreIds-exist}
use Rattle.sr_args.proofs.commands.xclaim.read_xclaim.Goals as goal

pub returns-in_default-read_int : goal.returns-in_default-read_int
returns-in_default-read_int c =
    let read = c.in-Some.read in
    let found = c.in-Some.ensures.found in
    (claim_reading read.named.key.now read.named.group.now read.named.consumer.now read.least_idle.now (take read.ids read.from_ids) found.0, found.2, λ h. c.in_default-read_int.ensures.none h.1.1.1.0.0 h.1.1.1.0.1)

pub returns-in_err-choice : goal.returns-in_err-choice
returns-in_err-choice c =
    let p = err_from_is_err_and c.from_residual.result c.from_residual.ensures.1 in
    let read = c.in-Some.read in
    let found = c.in-Some.ensures.found in
    let judged : AreJudged found.0 (Err c.in_err-choice.field-0.0) = rw c.in_err-choice.was at found.1 in
    rw (p.1, p.2) (claim-fault c.args.words read.named.key.now read.named.group.now read.named.consumer.now read.least_idle.now (take read.ids read.from_ids) found.0 c.in-Some-read_int.least_idle c.in_err-choice.field-0.0 found.2 c.in-Some-read_int.ensures.found judged)

pub returns-then-not-are_first_ids : goal.returns-then-not-are_first_ids
returns-then-not-are_first_ids c =
    let read = c.in-Some.read in
    let found = c.in-Some.ensures.found in
    let judged : AreJudged found.0 (Ok c.in_ok-choice.choice) = rw c.in_ok-choice.was at found.1 in
    let unspelled : HasIds (map (spelled strict_id) (take read.ids read.from_ids)) → ⊥ = λ h. false≢true ((rw c.again.ensures at c.if-not-are_first_ids.ensures).1 h) in
    (claim_reading read.named.key.now read.named.group.now read.named.consumer.now read.least_idle.now (take read.ids read.from_ids) found.0, found.2, claim-numbers read.named.key.now read.named.group.now read.named.consumer.now read.least_idle.now (take read.ids read.from_ids) found.0 c.in-Some-read_int.least_idle c.in_ok-choice.choice c.in-Some-read_int.ensures.found judged, λ h. unspelled (claim-ids read.named.key.now read.named.group.now read.named.consumer.now read.least_idle.now (take read.ids read.from_ids) found.0 h))

pub returns-in_err-ids : goal.returns-in_err-ids
returns-in_err-ids c =
    let p = err_from_is_err_and c.from_residual-in_err-ids.result c.from_residual-in_err-ids.ensures.1 in
    let read = c.in-Some.read in
    let found = c.in-Some.ensures.found in
    let judged : AreJudged found.0 (Ok c.in_ok-choice.choice) = rw c.in_ok-choice.was at found.1 in
    let spelled : HasIds (map (spelled strict_id) (take read.ids read.from_ids)) = (rw c.again.ensures at c.if-not-are_first_ids.ensures).0 refl in
    let list = AreIds-exist strict_id (take read.ids read.from_ids) spelled in
    rw (p.1, p.2) (_, claim-gives c.args.words read.named.key.now read.named.group.now read.named.consumer.now read.least_idle.now (take read.ids read.from_ids) found.0 (record { key = read.named.key.now; group = read.named.group.now; consumer = read.named.consumer.now }) c.in-Some-read_int.least_idle list.0 c.in_ok-choice.choice found.2 refl refl refl c.in-Some-read_int.ensures.found list.1 judged)

pub returns-in_err-named : goal.returns-in_err-named
returns-in_err-named c =
    let p = err_from_is_err_and c.from_residual-in_err-named.result c.from_residual-in_err-named.ensures.1 in
    let read = c.in-Some.read in
    let found = c.in-Some.ensures.found in
    let judged : AreJudged found.0 (Ok c.in_ok-choice.choice) = rw c.in_ok-choice.was at found.1 in
    rw (p.1, p.2) (_, claim-gives c.args.words read.named.key.now read.named.group.now read.named.consumer.now read.least_idle.now (take read.ids read.from_ids) found.0 (record { key = read.named.key.now; group = read.named.group.now; consumer = read.named.consumer.now }) c.in-Some-read_int.least_idle c.in_ok-ids.ids c.in_ok-choice.choice found.2 refl refl refl c.in-Some-read_int.ensures.found c.in_ok-ids.ensures judged)

pub returns : goal.returns
returns c =
    let read = c.in-Some.read in
    let found = c.in-Some.ensures.found in
    let judged : AreJudged found.0 (Ok c.in_ok-choice.choice) = rw c.in_ok-choice.was at found.1 in
    claim-gives c.args.words read.named.key.now read.named.group.now read.named.consumer.now read.least_idle.now (take read.ids read.from_ids) found.0 c.in_ok-named.named c.in-Some-read_int.least_idle c.in_ok-ids.ids c.in_ok-choice.choice found.2 c.in_ok-named.ensures.key c.in_ok-named.ensures.group c.in_ok-named.ensures.consumer c.in-Some-read_int.ensures.found c.in_ok-ids.ensures judged
