use Rattle.std.proofs.Common.{rules, ◌≡◌, ◌∙◌, ◌<◌, ◌^◌, true, length, sym, ap, subst}
use Rattle.sr_transport.specs.Certificate.{IsShortage, places_of}
use Rattle.sr_check.specs.declared.verified.Reason.TheVariants as reasons
use Rattle.sr_check.proofs.VerifiedLemmas.{shortage-unread, shortage-unshown, shortage-shown}
use Rattle.sr_check.proofs.verified.shortage_worth.Goals as goal

pub returns-in-Err : goal.returns-in-Err
returns-in-Err c = λ reply word.
    let bytes = c.args.bytes.now in
    let small : length bytes < 2 ^ 64 = search rules in
    let none = rw c.in-Err.is at c.in_ok-set.ensures.none in
    shortage-unread c.args.snapshot.now c.in_ok-problem.problem reply bytes c.in-Err.reason
    c.in_ok-problem.ensures.ok word
    small none

pub returns-then-not-check_shortage : goal.returns-then-not-check_shortage
returns-then-not-check_shortage c = λ reply word.
    let bytes = c.args.bytes.now in
    let small : length bytes < 2 ^ 64 = search rules in
    let p = c.in_ok-problem.problem in
    let set = c.in-Ok.set.items in
    let same = rw c.in-Ok.is at c.in_ok-set.ensures.same in
    shortage-unshown c.args.snapshot.now p reply bytes set reasons.Places c.in_ok-problem.ensures.ok word small same
    (λ shows.
    let shown : IsShortage p c.as_slice.result.now = subst (IsShortage p) (sym c.as_slice.ensures.value) shows in
    let yes : c.check_shortage.result ≡ true = c.check_shortage.ensures.exact.1 shown in
    absurd (cc (yes, c.if-not-check_shortage.true)))

pub returns : goal.returns
returns c = λ reply word.
    let p = c.in_ok-problem.problem in
    let set = c.in-Ok.set.items in
    let found = rw c.in-Ok.is at c.in_ok-set.ensures.found in
    let shows : IsShortage p set = subst (IsShortage p) c.as_slice.ensures.value (c.check_shortage.ensures.exact.0
    c.if-not-check_shortage.false) in
    let count : c.places.result ≡ places_of p set =
    c.places.ensures.value ∙ ap (places_of p) c.as_slice-2.ensures.value in
    shortage-shown c.args.snapshot.now p reply c.args.bytes.now set c.places.result
    c.in_ok-problem.ensures.ok word found
    shows count
