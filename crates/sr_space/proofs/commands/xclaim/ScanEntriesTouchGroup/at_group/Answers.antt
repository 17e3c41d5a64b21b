use Rattle.std.proofs.Common.{◌≡◌, ℕ, Bool, List, [], ◌∷◌, ap, ◌∙◌}
use Rattle.std.proofs.lemmas.Result.{IfOk-from_err, MatchResult-from_err}
use Rattle.sr_entries.specs.declared.entry.Entry.{Entry}
use Rattle.sr_group.specs.declared.claim.Claim.{Claim}
use Rattle.sr_group.specs.declared.shown.Listed.{Listed}
use Rattle.sr_group.specs.{after_showing}
use Rattle.sr_ids.specs.declared.id.Id.{Id}
use Rattle.sr_ids.specs.{spelling}
use Rattle.sr_resp.specs.{ReplyParts, array_of, bulk_string}
use Rattle.sr_space.specs.Bounds.{in_63_bits}
use Rattle.sr_space.specs.Grouped.{group_left}
use Rattle.sr_space.specs.commands.Xclaim.{autoclaimed, claim_of, claimed_answer, deleted_answer}
use Rattle.sr_space.proofs.commands.xclaim.ScanEntriesTouchGroup.at_group.Goals as goal

-- what is replied, part by part
scan-replied : (just_ids : Bool) (entries : List Entry) (acts listed : List Listed) (next behind : Id) (reply next_reply claimed deleted : ReplyParts) (outcome : ReplyParts)
    → outcome ≡ reply → reply ≡ array_of (next_reply ∷ claimed ∷ deleted ∷ []) → next_reply ≡ bulk_string (spelling next)
    → claimed ≡ claimed_answer just_ids entries acts → deleted ≡ deleted_answer acts → acts ≡ listed → next ≡ behind
    → outcome ≡ (array_of (bulk_string (spelling behind) ∷ claimed_answer just_ids entries listed ∷ deleted_answer listed ∷ []))
scan-replied just_ids entries acts listed next behind reply next_reply claimed deleted outcome out is first second third are at =
    out ∙ (is
    ∙ ap (λ (a : ReplyParts). array_of (a ∷ claimed ∷ deleted ∷ [])) (first ∙ ap (λ (id : Id). bulk_string (spelling id)) at)
    ∙ ap (λ (a : ReplyParts). array_of (bulk_string (spelling behind) ∷ a ∷ deleted ∷ [])) (second ∙ ap (claimed_answer just_ids entries) are)
    ∙ ap (λ (a : ReplyParts). array_of (bulk_string (spelling behind) ∷ claimed_answer just_ids entries listed ∷ a ∷ [])) (third ∙ ap deleted_answer are))

pub returns-clause-group : goal.returns-clause-group
returns-clause-group c =
    let scan = c.args.self.now in
    let group = c.args.group.now.shown in
    let left = λ (moment : ℕ) (claim : Claim). group_left group (autoclaimed moment scan.consumer.now claim scan.start scan.count c.args.entries.now.entries group).written in
    c.show.ensures ∙ ap (after_showing c.in_ok-scan.scan.shown) c.autoclaim.ensures.shown ∙ c.in_ok-scan.ensures.effect
    ∙ ap (λ (moment : ℕ). left moment c.claim_as-claim.result) c.in_63_bits-moment.ensures.value
    ∙ ap (left (in_63_bits scan.moment)) c.claim_as-claim.ensures.value

pub returns-clause-outcome : goal.returns-clause-outcome
returns-clause-outcome c =
    let scan = c.args.self.now in
    let led = λ (moment : ℕ) (claim : Claim). (autoclaimed moment scan.consumer.now claim scan.start scan.count c.args.entries.now.entries c.args.group.now.shown).outcome in
    scan-replied _ _ _ _ _ _ _ _ _ _ _ c.in_ok-outcome.ensures c.in_ok-reply.ensures c.id_reply.ensures c.in_ok-claimed.ensures c.in_ok-deleted.ensures c.in_ok-scan.ensures.listed c.in_ok-scan.ensures.next
    ∙ ap (λ (moment : ℕ). led moment c.claim_as-claim.result) c.in_63_bits-moment.ensures.value
    ∙ ap (led (in_63_bits scan.moment)) c.claim_as-claim.ensures.value

pub returns-in_err-scan : goal.returns-in_err-scan
returns-in_err-scan c =
    let failed = c.from_residual.ensures.0 in
    record { group = IfOk-from_err _ _ failed; outcome = IfOk-from_err _ _ failed; err = MatchResult-from_err _ _ _ failed (λ _. c.autoclaim.ensures.shown) }

pub returns-in_err-claimed : goal.returns-in_err-claimed
returns-in_err-claimed c =
    let failed = c.from_residual-in_err-claimed.ensures.0 in
    record { group = IfOk-from_err _ _ failed; outcome = IfOk-from_err _ _ failed; err = MatchResult-from_err _ _ _ failed (λ _. c.autoclaim.ensures.shown) }

pub returns-in_err-deleted : goal.returns-in_err-deleted
returns-in_err-deleted c =
    let failed = c.from_residual-in_err-deleted.ensures.0 in
    record { group = IfOk-from_err _ _ failed; outcome = IfOk-from_err _ _ failed; err = MatchResult-from_err _ _ _ failed (λ _. c.autoclaim.ensures.shown) }

pub returns-in_err-reply : goal.returns-in_err-reply
returns-in_err-reply c =
    let failed = c.from_residual-in_err-reply.ensures.0 in
    record { group = IfOk-from_err _ _ failed; outcome = IfOk-from_err _ _ failed; err = MatchResult-from_err _ _ _ failed (λ _. c.autoclaim.ensures.shown) }

pub returns-in_err-outcome : goal.returns-in_err-outcome
returns-in_err-outcome c =
    let failed = c.from_residual-in_err-outcome.ensures.0 in
    record { group = IfOk-from_err _ _ failed; outcome = IfOk-from_err _ _ failed; err = MatchResult-from_err _ _ _ failed (λ _. c.autoclaim.ensures.shown) }
