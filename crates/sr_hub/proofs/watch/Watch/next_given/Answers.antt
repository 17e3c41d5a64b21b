use Rattle.std.proofs.Common.{◌≡◌, ◌+◌, ◌-◌, ◌<◌, ◌≤◌, ◌∷◌, min, length, drop, length-drop, take, arith}
use Rattle.std.proofs.lemmas.List.{take_rest}
use Rattle.sr_hub.specs.steps.Letters.{lettered_after}
use Rattle.sr_hub.proofs.LetterLemmas.{unseen-next}
use Rattle.sr_hub.proofs.watch.Watch.next_given.Goals as goal

pub returns-in-Some-clause-some : goal.returns-in-Some-clause-some
returns-in-Some-clause-some c = λ le.
    let book = c.args.book.now in
    let next = c.in-Some.next in
    let looked = c.args.self.now.looked in
    let replies = c.args.self.now.replies in
    let seen = c.min-seen.result in
    let from : c.base-base.result.index ≤ looked = rw c.base-base.ensures le in
    let same : c.begin_at.new.self.looked ≡ looked = c.begin_at.ensures.looked from in
    let passed : c.begin_at.new.self.replies ≡ replies = c.begin_at.ensures.replies from in
    let is : seen ≡ min (length book.records) (looked - book.base.index) = rw (c.records-records.ensures, same, c.base-base.ensures) at c.min-seen.ensures in
    let left : length (drop seen book.records) ≡ length book.records - seen = length-drop seen book.records in
    let rest : take (length book.records - seen) (drop seen book.records) ≡ drop seen book.records = take_rest book.records seen in
    let within : next.records < length (drop seen book.records) = rw (c.records-records.ensures, rest) at c.in-Some.ensures.within in
    let some : lettered_after replies (drop seen book.records) ≡ next.session ∷ lettered_after (next.before + 1) (drop next.records (drop seen book.records)) =
    rw (c.records-records.ensures, rest, passed) at c.in-Some.ensures.some in
    let here : c.saturating_add-self.result ≡ looked + next.records =
    omega (arith, c.saturating_add-self.ensures, same, le, is, within, left, c.last_index-last.ensures.value, c.last_index-last.ensures.bound) in
    let after : c.saturating_add-self-in-Some.result ≡ next.before + 1 = omega (arith, c.saturating_add-self-in-Some.ensures, c.in-Some.ensures.fits) in
    rw (here, after) (unseen-next book.base.index looked replies seen next.records (next.before + 1) next.session book.records le is within some)
