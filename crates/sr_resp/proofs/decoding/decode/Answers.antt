use Rattle.std.proofs.Common.{◌≡◌, ◌∷◌, ◌∙◌, ℕ, List, ap, sym, subst, Some, true}
use Rattle.sr_resp.specs.Reply.{Part}
use Rattle.sr_resp.specs.steps.Decoding.{HasPart, AreSpelledReplies}
use Rattle.sr_resp.specs.steps.Pieces.{part_of}
use Rattle.sr_resp.proofs.DecodingLemmas.{no_reply, reply-split}
use Rattle.sr_resp.proofs.decoding.decode.Goals as goal

pub returns-in_default-clause-back : goal.returns-in_default-clause-back
returns-in_default-clause-back c = λ reply one fit e.
    let none : (part : Part) (after : List ℕ) → HasPart c.args.bytes.now part after → ⊥ = c.in_default.ensures.none in
    absurd (no_reply c.args.bytes.now none reply one fit e)

pub returns-in_default-clause-none : goal.returns-in_default-clause-none
returns-in_default-clause-none c = λ reply one fit e.
    let none : (part : Part) (after : List ℕ) → HasPart c.args.bytes.now part after → ⊥ = c.in_default.ensures.none in
    no_reply c.args.bytes.now none reply one fit e

pub returns-then-not-are_replies-clause-back : goal.returns-then-not-are_replies-clause-back
returns-then-not-are_replies-clause-back c = λ reply one fit e.
    let part = part_of c.in-Some.piece in
    let others = c.in-Some.others.now in
    let has : HasPart c.args.bytes.now part others = c.in-Some.ensures.found in
    let split = reply-split c.args.bytes.now others part has reply one fit e in
    let yes : c.are_replies.result ≡ true = c.are_replies.ensures.1 (subst (λ (n : ℕ). AreSpelledReplies n others) (sym c.items_after.ensures) (split.0, split.1.spells)) in
    absurd (cc (yes, c.if-not-are_replies.true))

pub returns-then-not-are_replies-clause-none : goal.returns-then-not-are_replies-clause-none
returns-then-not-are_replies-clause-none c = λ reply one fit e.
    let part = part_of c.in-Some.piece in
    let others = c.in-Some.others.now in
    let has : HasPart c.args.bytes.now part others = c.in-Some.ensures.found in
    let split = reply-split c.args.bytes.now others part has reply one fit e in
    let yes : c.are_replies.result ≡ true = c.are_replies.ensures.1 (subst (λ (n : ℕ). AreSpelledReplies n others) (sym c.items_after.ensures) (split.0, split.1.spells)) in
    absurd (cc (yes, c.if-not-are_replies.true))

pub returns-clause-back : goal.returns-clause-back
returns-clause-back c = λ reply one fit e.
    let part = part_of c.in-Some.piece in
    let others = c.in-Some.others.now in
    let has : HasPart c.args.bytes.now part others = c.in-Some.ensures.found in
    let split = reply-split c.args.bytes.now others part has reply one fit e in
    let read : c.in_ok-read.field-0 ≡ part ∷ split.0 = c.in_ok-read.ensures split.0 split.1.spells.spells in
    ap Some (read ∙ sym split.1.is)
