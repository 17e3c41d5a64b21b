use Rattle.std.proofs.Common.{◌≡◌, ◌∙◌, ℕ, List, [], ◌∷◌, ◌++◌, get_or, set, Option, true, false, ap, sym, subst}
use Rattle.sr_args.specs.FormWord.{Word}
use Rattle.std.specs.Option.{option_or}
use Rattle.sr_args.specs.Options.{kind, group_in_one}
use Rattle.sr_args.specs.steps.Options.{AreSeen, BeginsOptions, index_of, written_of}
use Rattle.sr_args.proofs.LoopLemmas.{IsNamedNext, BeginsNoOptions-from_none, BeginsNoOptions-from_twice, BeginsOptions-more, EndsOptions-from_begins, AreSeen-more, IsUnderway-start, group_in-last}
use Rattle.sr_args.proofs.options.read_given.Goals as goal

pub returns-in_err-option-clause-none : goal.returns-in_err-option-clause-none
returns-in_err-option-clause-none c =
    let u = c.loop-name.invariant in
    let found = c.in-Some.ensures.found in
    let next : IsNamedNext c.args.set c.in-Some.name c.loop-name.words c.next_name.new.words = record { word = found.0; are = found.1; of_set = c.in-Some.ensures.of_set; same = found.2 } in
    rw c.from_residual.ensures (BeginsNoOptions-from_none c.args.set c.args.words.now u.written c.loop-name.words c.in-Some.name c.next_name.new.words u.begins next c.in_err-option.ensures.none)

pub returns-then-seen-kind-clause-none : goal.returns-then-seen-kind-clause-none
returns-then-seen-kind-clause-none c =
    let u = c.loop-name.invariant in
    let found = c.in-Some.ensures.found in
    let next : IsNamedNext c.args.set c.in-Some.name c.loop-name.words c.next_name.new.words = record { word = found.0; are = found.1; of_set = c.in-Some.ensures.of_set; same = found.2 } in
    let o = written_of c.in_ok-option.option in
    let place : c.index_of_kind-kind.result ≡ index_of (kind o) = c.index_of_kind-kind.ensures.value ∙ ap index_of c.kind_of.ensures in
    let seen : get_or c.loop-name.seen (index_of (kind o)) false ≡ true = subst (λ (i : ℕ). get_or c.loop-name.seen i false ≡ true) place c.if-seen-kind.true in
    BeginsNoOptions-from_twice c.args.set c.args.words.now u.written c.loop-name.words c.in-Some.name c.next_name.new.words c.operand_words.new.words o u.begins next c.in_ok-option.ensures.found (u.seen_are.yes (kind o) seen)

pub loop-name-init : goal.loop-name-init
loop-name-init c = IsUnderway-start c.args.set c.args.words.now c.nothing.result c.nothing.ensures

pub loop-name-preserved : goal.loop-name-preserved
loop-name-preserved c =
    let u = c.loop-name.invariant in
    let found = c.in-Some.ensures.found in
    let next : IsNamedNext c.args.set c.in-Some.name c.loop-name.words c.next_name.new.words = record { word = found.0; are = found.1; of_set = c.in-Some.ensures.of_set; same = found.2 } in
    let o = written_of c.in_ok-option.option in
    let place : c.index_of_kind-kind.result ≡ index_of (kind o) = c.index_of_kind-kind.ensures.value ∙ ap index_of c.kind_of.ensures in
    let unseen : get_or c.loop-name.seen (index_of (kind o)) false ≡ false = subst (λ (i : ℕ). get_or c.loop-name.seen i false ≡ false) place c.if-seen-kind.false in
    record {
      written = u.written ++ o ∷ [];
      begins = BeginsOptions-more c.args.set c.args.words.now u.written c.loop-name.words c.in-Some.name c.next_name.new.words c.operand_words.new.words o u.begins next c.in_ok-option.ensures.found (u.seen_are.no (kind o) unseen);
      seen_are = subst (λ (i : ℕ). AreSeen (set c.loop-name.seen i true) (u.written ++ o ∷ [])) (sym place) (AreSeen-more c.loop-name.seen u.written o u.seen_are);
      judged_are = c.judge_next-judged.ensures u.written u.judged_are;
      group_is = c.first_group-group.ensures ∙ ap (λ (named : Option (Word × Word)). option_or named (group_in_one o)) u.group_is ∙ sym (group_in-last u.written o);
    }

pub returns-clause-found : goal.returns-clause-found
returns-clause-found c =
    let u = c.loop-name.invariant in
    let same = c.in_default.ensures.same in
    let begins = subst (λ (left : List Word). BeginsOptions c.args.set c.args.words.now u.written left) (sym same) u.begins in
    (u.written, EndsOptions-from_begins c.args.set c.args.words.now u.written c.next_name.new.words begins (λ word rest e. c.in_default.ensures.none word rest (sym same ∙ e)), record { judged_are = u.judged_are; group_is = u.group_is })
