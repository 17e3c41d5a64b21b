use Rattle.std.proofs.Common.{◌≡◌, ◌/◌, ◌%◌, ℕ, ap, length, take, arith, refl}
use Rattle.std.proofs.lemmas.Bool.{false≢true}
use Rattle.sr_args.specs.declared.name.OptionName.TheVariants.{Streams}
use Rattle.sr_args.specs.Name.{IsSameName, option_text}
use Rattle.sr_args.specs.Different.{AreDifferent}
use Rattle.sr_args.proofs.StreamsLemmas.{halves, no_halves-none, no_halves-odd, no_halves-twice, streams-reads}
use Rattle.sr_args.proofs.streams.streams_words.Goals as goal

pub returns-then-keys-eq0-clause-none : goal.returns-then-keys-eq0-clause-none
returns-then-keys-eq0-clause-none c = λ spelling reading r.
    no_halves-none c.next.new.self (c.len-keys.result / 2) (ap (λ (n : ℕ). n / 2) c.len-keys.ensures) c.if-keys-eq0.true (halves spelling c.args.words c.next.new.self c.in_ok-next.field-0.now c.in_ok-next.ensures.some reading r).1

pub returns-then-len-ne0-clause-none : goal.returns-then-len-ne0-clause-none
returns-then-len-ne0-clause-none c = λ spelling reading r.
    let odd : length c.next.new.self % 2 ≡ 0 → ⊥ = rw c.len.ensures at c.if-len-ne0.true in
    no_halves-odd c.next.new.self odd (halves spelling c.args.words c.next.new.self c.in_ok-next.field-0.now c.in_ok-next.ensures.some reading r).1

pub returns-then-not-are_different-clause-none : goal.returns-then-not-are_different-clause-none
returns-then-not-are_different-clause-none c = λ spelling reading r.
    let twice : AreDifferent (take (c.len-keys.result / 2) c.next.new.self) → ⊥ = λ d. false≢true ((rw c.again.ensures at c.if-not-are_different.ensures).1 d) in
    no_halves-twice c.next.new.self (c.len-keys.result / 2) (ap (λ (n : ℕ). n / 2) c.len-keys.ensures) twice (halves spelling c.args.words c.next.new.self c.in_ok-next.field-0.now c.in_ok-next.ensures.some reading r).1

pub returns-clause-found : goal.returns-clause-found
returns-clause-found c = λ spelling.
    let rest = c.next.new.self in
    let same : IsSameName c.in_ok-next.field-0.now (option_text Streams) = c.if-not-is_named.ensures.yes refl in
    let some : c.len-keys.result / 2 ≡ 0 → ⊥ = c.if-keys-eq0.false in
    let even : length rest % 2 ≡ 0 = omega (arith, c.len.ensures, c.if-len-ne0.false) in
    let once : AreDifferent (take (c.len-keys.result / 2) rest) = (rw c.again.ensures at c.if-not-are_different.ensures).0 refl in
    rw (c.after-ids.ensures, c.again-2.ensures) (streams-reads spelling c.args.words rest c.in_ok-next.field-0.now (c.len-keys.result / 2) c.in_ok-next.ensures.some same (ap (λ (n : ℕ). n / 2) c.len-keys.ensures) some even once)
