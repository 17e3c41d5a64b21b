use Rattle.std.proofs.Common.{◌≡◌, ◌∷◌, ℕ, List, Some, None, true, false, ap, sym, ◌∙◌}
use Rattle.std.specs.Map.{keys_of}
use Rattle.sr_waiters.specs.Index.{reads_of}
use Rattle.sr_waiters.specs.Layout.{shown_reads}
use Rattle.sr_waiters.specs.Waiters.{call_of, first_that, read_of, session_of}
use Rattle.sr_waiters.proofs.IndexLemmas.{among-failed, among-found, among-missing, session-found}
use Rattle.sr_waiters.proofs.ReadLemmas.{call_of_shown, stored_call}
use Rattle.sr_waiters.proofs.waiters.first_among.Goals as goal

pub loop-session-init : goal.loop-session-init
loop-session-init g c = λ test computes.
    ap (λ (l : List (ℕ × Unit {0})). first_that test (reads_of (keys_of l) (shown_reads c.args.reads.now.entries)))
    (c.into_iter-session-iterator.ensures.into_iter_gives ∙ c.iter-session-items.ensures)

pub returns-then-passes : goal.returns-then-passes
returns-then-passes g c = λ test computes.
    let stored = c.args.reads.now.entries in
    let shown = shown_reads stored in
    let session = c.in-Some.session.now in
    let left = keys_of c.next.new.self in
    let next : keys_of c.loop-session.session-iterator ≡ session ∷ left = ap keys_of c.in-Some.ensures.steps in
    let call = c.in-Some-get.found.now.call in
    let is : call_of (read_of session shown) ≡ Some call = sym (call_of_shown session stored) ∙ ap stored_call (sym c.in-Some-get.ensures) in
    let passes : test call ≡ true = sym (computes _ _ c.passes.ensures) ∙ c.if-passes.true in
    sym (session-found session shown call is)
    ∙ sym (among-found test session left shown call is passes)
    ∙ ap (λ (l : List ℕ). session_of (first_that test (reads_of l shown))) (sym next)
    ∙ ap session_of (c.loop-session.invariant test computes)

pub loop-session-preserved-else-passes : goal.loop-session-preserved-else-passes
loop-session-preserved-else-passes g c = λ test computes.
    let stored = c.args.reads.now.entries in
    let shown = shown_reads stored in
    let session = c.in-Some.session.now in
    let left = keys_of c.next.new.self in
    let next : keys_of c.loop-session.session-iterator ≡ session ∷ left = ap keys_of c.in-Some.ensures.steps in
    let call = c.in-Some-get.found.now.call in
    let is : call_of (read_of session shown) ≡ Some call = sym (call_of_shown session stored) ∙ ap stored_call (sym c.in-Some-get.ensures) in
    let fails : test call ≡ false = sym (computes _ _ c.passes.ensures) ∙ c.if-passes.false in
    sym (among-failed test session left shown call is fails)
    ∙ ap (λ (l : List ℕ). first_that test (reads_of l shown)) (sym next) ∙ c.loop-session.invariant test computes

pub loop-session-preserved : goal.loop-session-preserved
loop-session-preserved g c = λ test computes.
    let stored = c.args.reads.now.entries in
    let shown = shown_reads stored in
    let session = c.in-Some.session.now in
    let left = keys_of c.next.new.self in
    let next : keys_of c.loop-session.session-iterator ≡ session ∷ left = ap keys_of c.in-Some.ensures.steps in
    let is : call_of (read_of session shown) ≡ None = sym (call_of_shown session stored) ∙ ap stored_call (sym c.in_default.ensures) in
    sym (among-missing test session left shown is)
    ∙ ap (λ (l : List ℕ). first_that test (reads_of l shown)) (sym next) ∙ c.loop-session.invariant test computes

pub returns : goal.returns
returns g c = λ test computes.
    sym (ap session_of (sym (c.loop-session.invariant test computes)
    ∙ ap (λ (l : List (ℕ × Unit {0})). first_that test (reads_of (keys_of l) (shown_reads c.args.reads.now.entries))) c.in-None.ensures.steps.0))
