use Rattle.std.proofs.Common.{rules, ◌≡◌, ◌+◌, ◌<◌, ◌^◌, ◌∷◌, ◌++◌, [], length}
use Rattle.sr_check.proofs.ChosenLemmas.{IsWalked-found, IsWalked-passed, IsWalked-same, IsWalked-ids, IsWalked-within}
use Rattle.sr_check.proofs.ChosenLemmas.{IsWalked-one}
use Rattle.sr_check.proofs.shortage.chosen.Goals as goal
use Rattle.sr_check.proofs.shortage.chosen.Goals.{in-Some+in_ok-push, in_default}

pub loop-number-preserved : goal.loop-number-preserved
loop-number-preserved c =
    let stranded = c.args.stranded.now in
    let n = c.loop-number.number in
    let set = c.loop-number.set.items in
    let left = c.loop-number.left.now in
    let entry = c.index-stranded-number.result in
    elim c.match-after_id.branch [
      | in-Some+in_ok-push w ↦
          let next = w.in-Some.after.now in
          let grown : c.match-after_id.set.items ≡ set ++ n ∷ [] = search rules in
          let moved : c.match-after_id.left.now ≡ next = search rules in
          IsWalked-same stranded (n + 1) c.args.bytes.now (set ++ n ∷ []) c.match-after_id.set.items next
          c.match-after_id.left.now grown moved
          (IsWalked-found stranded n c.args.bytes.now set left next entry c.loop-number-test.true
          c.index-stranded-number.is c.after_id.ensures.valid c.loop-number.invariant w.in-Some.ensures.found)
      | in_default w ↦
          let kept : c.match-after_id.set.items ≡ set = search rules in
          let stayed : c.match-after_id.left.now ≡ left = search rules in
          IsWalked-same stranded (n + 1) c.args.bytes.now set c.match-after_id.set.items left
          c.match-after_id.left.now kept
          stayed
          (IsWalked-passed stranded n c.args.bytes.now set left entry c.loop-number-test.true c.index-stranded-number.is
          c.after_id.ensures.valid c.loop-number.invariant w.in_default.ensures.none)
    ]

pub returns-clause-found : goal.returns-clause-found
returns-clause-found c =
    IsWalked-ids c.args.stranded.now c.loop-number.number c.args.bytes.now c.loop-number.set.items
    c.loop-number.left.now
    c.loop-number-test.false c.loop-number.invariant

pub returns-clause-same : goal.returns-clause-same
returns-clause-same c = λ set after has.
    let small : length c.args.bytes.now < 2 ^ 64 = search rules in
    IsWalked-one c.args.stranded.now c.requires c.loop-number.number c.args.bytes.now c.loop-number.set.items
    c.loop-number.left.now c.loop-number-test.false small c.loop-number.invariant set after has

pub returns-clause-within : goal.returns-clause-within
returns-clause-within c =
    IsWalked-within c.args.stranded.now c.loop-number.number c.args.bytes.now c.loop-number.set.items
    c.loop-number.left.now
    c.loop-number-test.false c.loop-number.invariant
