use Rattle.std.proofs.Common.{◌≡◌, List, [], ◌∷◌, Option, Some, None, length, arith, ap}
use Rattle.std.specs.Prelude.{IfSome, IfNone}
use Rattle.sr_args.specs.declared.name.OptionSet.TheVariants.{Xclaim}
use Rattle.sr_args.specs.FormWord.{Word}
use Rattle.sr_args.proofs.ClaimLemmas.{IsSkipped-more}
use Rattle.sr_args.proofs.commands.xclaim.skip_ids.Goals as goal

-- the word that is read is the one that was looked at
after : {X : Type 0} (now : X → Word) (read : Option X) (left new rest : List Word) (word : Word) → left ≡ word ∷ rest → IfSome read (λ x. left ≡ now x ∷ new) → IfNone read (left ≡ []) → left ≡ word ∷ new
after now (Some x) left new rest word e f g = cc
after now None left new rest word e f g = cc

pub loop-word-preserved : goal.loop-word-preserved
loop-word-preserved c =
    let left = c.loop-word.words in
    let e : left ≡ c.in-Some.word.now ∷ c.next.new.self = after (λ b. b.now) c.next.result left c.next.new.self c.in-Some.ensures.some.0 c.in-Some.word.now c.in-Some.ensures.some.1 c.next.ensures.some c.next.ensures.none in
    record {
      skipped = IsSkipped-more Xclaim c.args.words.now left c.next.new.self c.in-Some.word.now c.loop-word.invariant.skipped e (c.names_option.ensures.no c.if-names_option.false);
      within = omega (arith, c.loop-word.invariant.within, ap length e);
    }
