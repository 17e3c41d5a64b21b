use Rattle.std.proofs.lemmas.Result.{IfOk-from_err}
use Rattle.std.proofs.Common.{◌≡◌, ◌<◌, [], take, rules, append-nil, sym, subst, List}
use Rattle.sr_ids.specs.{SpellsId}
use Rattle.sr_args.specs.FormWord.{Word, strict_id}
use Rattle.sr_args.specs.Form.{AreIds}
use Rattle.sr_args.proofs.IdsLemmas.{HasIds-next, AreIds-more, take-none}
use Rattle.sr_args.proofs.value.copy_first_ids.Goals.{else-loop-left-test, then-loop-left-test+in_default}
use Rattle.sr_args.proofs.value.copy_first_ids.Goals as goal

pub unwrap-id-requires : goal.unwrap-id-requires
unwrap-id-requires c =
    let more : 0 < c.loop-left.left = c.loop-left-test.true in
    let next = HasIds-next c.loop-left.left c.loop-left.words c.next.new.self c.in-Some.word.now more c.in-Some.ensures.some c.loop-left.invariant.left in
    search (rules, next.0)

pub loop-left-preserved : goal.loop-left-preserved
loop-left-preserved c =
    let more : 0 < c.loop-left.left = c.loop-left-test.true in
    let next = HasIds-next c.loop-left.left c.loop-left.words c.next.new.self c.in-Some.word.now more c.in-Some.ensures.some c.loop-left.invariant.left in
    let spells : SpellsId 0 c.in-Some.word.now c.unwrap-id.result = rw c.unwrap-id.ensures at c.parse_strict.ensures.found in
    record {
      left = next.1;
      whole = λ list are. rw c.in_ok-push.ensures.items (AreIds-more c.loop-left.left c.loop-left.words c.next.new.self (take c.args.many c.args.words) c.in-Some.word.now c.loop-left.ids.items c.unwrap-id.result more c.in-Some.ensures.some spells c.loop-left.invariant.whole list are);
    }

pub returns : goal.returns
returns c =
    let done : take c.loop-left.left c.loop-left.words ≡ [] = elim c.loop-left-test.branch [
      | else-loop-left-test w ↦ search rules
      | then-loop-left-test+in_default w ↦ take-none c.loop-left.left c.loop-left.words w.in_default.ensures.none
    ] in
    let none : AreIds strict_id (take c.loop-left.left c.loop-left.words) [] = subst (λ (ws : List Word). AreIds strict_id ws []) (sym done) tt in
    rw c.new.ensures (rw append-nil at (c.loop-left.invariant.whole [] none))

pub returns-in_err-ids : goal.returns-in_err-ids
returns-in_err-ids c = IfOk-from_err _ _ c.from_residual.ensures.0

pub returns-in_err-push : goal.returns-in_err-push
returns-in_err-push c = IfOk-from_err _ _ c.from_residual-in_err-push.ensures.0
