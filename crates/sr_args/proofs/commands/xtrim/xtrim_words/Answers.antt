use Rattle.std.proofs.Common.{◌∙◌, sym}
use Rattle.std.proofs.lemmas.Bool.{false≢true}
use Rattle.sr_args.specs.steps.Options.{trim_reading}
use Rattle.sr_args.proofs.XtrimLemmas.{xtrim-no_trim, xtrim-word_left, xtrim-reads}
use Rattle.sr_args.proofs.commands.xtrim.xtrim_words.Goals as goal

pub returns-in_err-trim-clause-none : goal.returns-in_err-trim-clause-none
returns-in_err-trim-clause-none c =
    rw c.from_residual-in_err-trim.ensures (xtrim-no_trim c.args.words c.in_ok-key.key.now c.next.new.self c.in_ok-next.field-0.now c.next-2.new.self c.in_ok-by.by c.in_ok-key.ensures.some c.in_ok-next.ensures.some c.in_ok-by.ensures.found c.in_err-trim.ensures.none)

pub returns-then-not-is_empty-clause-none : goal.returns-then-not-is_empty-clause-none
returns-then-not-is_empty-clause-none c =
    xtrim-word_left c.args.words c.in_ok-key.key.now c.next.new.self c.in_ok-next.field-0.now c.next-2.new.self c.in_ok-by.by (trim_reading c.in_ok-trim.trim) c.trim_words.new.words c.in_ok-key.ensures.some c.in_ok-next.ensures.some c.in_ok-by.ensures.found c.in_ok-trim.ensures.found (λ e. false≢true (sym c.if-not-is_empty.true ∙ c.is_empty.ensures.1 e))

pub returns-clause-found : goal.returns-clause-found
returns-clause-found c =
    xtrim-reads c.args.words c.in_ok-key.key.now c.next.new.self c.in_ok-next.field-0.now c.next-2.new.self c.in_ok-by.by (trim_reading c.in_ok-trim.trim) c.trim_words.new.words c.in_ok-key.ensures.some c.in_ok-next.ensures.some c.in_ok-by.ensures.found c.in_ok-trim.ensures.found (c.is_empty.ensures.0 c.if-not-is_empty.false)
