use Rattle.std.proofs.Common.{rules, ◌≡◌, ◌+◌, ◌∷◌, ◌++◌, [], ℕ, List, take, refl, sym, subst}
use Rattle.std.proofs.lemmas.Result.{IfOk-from_err}
use Rattle.sr_check.specs.steps.Read.{AreRead, HasMove}
use Rattle.sr_check.proofs.AreReadLemmas.{AreRead-more, AreRead-all, HasArray-stuck}
use Rattle.sr_check.proofs.MoveLemmas.{HasMove-one}
use Rattle.sr_check.proofs.plan.moves_of.Goals as goal

pub returns-in-Err-clause-none : goal.returns-in-Err-clause-none
returns-in-Err-clause-none c = λ assign after has.
    let live = c.args.live.now in
    HasArray-stuck (HasMove live) (HasMove-one live c.requires) c.args.stranded.now c.loop-entry.entry-index
    c.entry-item.result c.args.bytes.now c.in-Some.items.now
    c.loop-entry.assign.items assign c.loop-entry.left.now after c.in-Some.ensures.found
    c.loop-entry-test.true c.entry-item.is
    c.loop-entry.invariant c.in-Err.ensures.none has

pub loop-entry-preserved : goal.loop-entry-preserved
loop-entry-preserved c =
    let live = c.args.live.now in
    let stranded = c.args.stranded.now in
    let i = c.loop-entry.entry-index in
    let start = c.in-Some.items.now in
    let next = c.in-Ok.after.now in
    let grown : c.push.new.self.items ≡ c.loop-entry.assign.items ++ c.in-Ok.consumer ∷ [] = search rules in
    let more = AreRead-more (HasMove live) stranded i start c.loop-entry.assign.items c.loop-entry.left.now next
    c.entry-item.result c.in-Ok.consumer
    c.loop-entry-test.true c.entry-item.is c.loop-entry.invariant c.in-Ok.ensures.found in
    subst (λ (vs : List ℕ). AreRead (HasMove live) (take (i + 1) stranded) start vs next) (sym grown) more

pub returns-in_default-clause-found : goal.returns-in_default-clause-found
returns-in_default-clause-found c = tt

pub returns-in_default-clause-none : goal.returns-in_default-clause-none
returns-in_default-clause-none c = λ assign after has. c.in_default.ensures.none has.items has.header

pub returns-in_err-assign-clause-found : goal.returns-in_err-assign-clause-found
returns-in_err-assign-clause-found c = IfOk-from_err _ _ c.from_residual.ensures.0

pub returns-in_err-assign-clause-none : goal.returns-in_err-assign-clause-none
returns-in_err-assign-clause-none c = IfOk-from_err _ _ c.from_residual.ensures.0

pub returns-in_err-push-in-Ok-clause-found : goal.returns-in_err-push-in-Ok-clause-found
returns-in_err-push-in-Ok-clause-found c = IfOk-from_err _ _ c.from_residual-in_err-push-in-Ok.ensures.0

pub returns-in_err-push-in-Ok-clause-none : goal.returns-in_err-push-in-Ok-clause-none
returns-in_err-push-in-Ok-clause-none c = IfOk-from_err _ _ c.from_residual-in_err-push-in-Ok.ensures.0

pub returns-in-Err-clause-found : goal.returns-in-Err-clause-found
returns-in-Err-clause-found c = tt

pub loop-entry-init : goal.loop-entry-init
loop-entry-init c =
    let start = c.in-Some.items.now in
    subst (λ (vs : List ℕ). AreRead (HasMove c.args.live.now) [] start vs start) (sym c.in_ok-assign.ensures.items) refl

pub returns-clause-found : goal.returns-clause-found
returns-clause-found c = record {
  items = c.in-Some.items.now;
  header = c.in-Some.ensures.found;
  read = AreRead-all (HasMove c.args.live.now) c.args.stranded.now c.loop-entry.entry-index c.in-Some.items.now
      c.loop-entry.assign.items c.loop-entry.left.now
      c.loop-entry-test.false c.loop-entry.invariant;
}

pub returns-clause-none : goal.returns-clause-none
returns-clause-none c = tt
