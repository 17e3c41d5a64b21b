use Rattle.std.proofs.Common.{◌≡◌, refl}
use Rattle.sr_args.specs.Form.{AreNoneOf}
use Rattle.sr_args.specs.commands.Xclaim.{unsupported}
use Rattle.sr_args.proofs.ClaimLemmas.{IsClaimTail, claim-no_ids, claim-no_options, claim-word_left, claim-reads}
use Rattle.sr_args.proofs.NamedLemmas.{consumer-none}
use Rattle.sr_args.proofs.commands.xclaim.claim_words.Goals as goal

pub returns-in_err-named-clause-none : goal.returns-in_err-named-clause-none
returns-in_err-named-clause-none c = rw c.from_residual.ensures (λ reading r. consumer-none c.args.words reading.0 reading.1.0 reading.1.1.0 _ r.fits c.in_err-named.ensures.none)

pub returns-then-ids-eq0-clause-none : goal.returns-then-ids-eq0-clause-none
returns-then-ids-eq0-clause-none c =
    let named = c.in_ok-named.named in
    let tail : IsClaimTail c.next.new.self c.skip_ids-ids.new.words c.skip_ids-ids.result = record { skipped = c.skip_ids-ids.ensures.found; count = c.skip_ids-ids.ensures.count; end = c.skip_ids-ids.ensures.end } in
    claim-no_ids c.args.words c.consumer_words.new.words c.next.new.self c.skip_ids-ids.new.words named.key.now named.group.now named.consumer.now c.in_ok-least_idle.least_idle.now c.skip_ids-ids.result c.in_ok-named.ensures.found c.in_ok-least_idle.ensures.some tail c.if-ids-eq0.true

pub returns-in_err-judged-clause-none : goal.returns-in_err-judged-clause-none
returns-in_err-judged-clause-none c =
    let named = c.in_ok-named.named in
    let tail : IsClaimTail c.next.new.self c.skip_ids-ids.new.words c.skip_ids-ids.result = record { skipped = c.skip_ids-ids.ensures.found; count = c.skip_ids-ids.ensures.count; end = c.skip_ids-ids.ensures.end } in
    rw c.from_residual-in_err-judged.ensures (claim-no_options c.args.words c.consumer_words.new.words c.next.new.self c.skip_ids-ids.new.words named.key.now named.group.now named.consumer.now c.in_ok-least_idle.least_idle.now c.skip_ids-ids.result c.in_ok-named.ensures.found c.in_ok-least_idle.ensures.some tail c.in_err-judged.ensures.none)

pub returns-in-Some-clause-none : goal.returns-in-Some-clause-none
returns-in-Some-clause-none c =
    let named = c.in_ok-named.named in
    let read = c.in_ok-judged.ensures.found in
    let tail : IsClaimTail c.next.new.self c.skip_ids-ids.new.words c.skip_ids-ids.result = record { skipped = c.skip_ids-ids.ensures.found; count = c.skip_ids-ids.ensures.count; end = c.skip_ids-ids.ensures.end } in
    claim-word_left c.args.words c.consumer_words.new.words c.next.new.self c.skip_ids-ids.new.words c.read_options.new.words c.next-2.new.self named.key.now named.group.now named.consumer.now c.in_ok-least_idle.least_idle.now c.in-Some.field-0.now c.skip_ids-ids.result read.0 c.in_ok-named.ensures.found c.in_ok-least_idle.ensures.some tail read.1 c.in-Some.ensures.some

pub returns-clause-found : goal.returns-clause-found
returns-clause-found c =
    let named = c.in_ok-named.named in
    let read = c.in_ok-judged.ensures.found in
    let rest = c.next.new.self in
    let tail : IsClaimTail rest c.skip_ids-ids.new.words c.skip_ids-ids.result = record { skipped = c.skip_ids-ids.ensures.found; count = c.skip_ids-ids.ensures.count; end = c.skip_ids-ids.ensures.end } in
    let supported : AreNoneOf unsupported rest = (rw c.again.ensures at c.if-not-are_supported.ensures).0 refl in
    let some : c.skip_ids-ids.result ≡ 0 → ⊥ = c.if-ids-eq0.false in
    (read.0, read.2, rw c.again-from_ids.ensures (claim-reads c.args.words c.consumer_words.new.words rest c.skip_ids-ids.new.words c.read_options.new.words named.key.now named.group.now named.consumer.now c.in_ok-least_idle.least_idle.now c.skip_ids-ids.result read.0 c.in_ok-named.ensures.found c.in_ok-least_idle.ensures.some supported tail some read.1 c.in_default.ensures.none))
