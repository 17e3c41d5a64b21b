use Rattle.std.proofs.Common.{◌≡◌, ◌≢◌, [], refl}
use Rattle.std.proofs.lemmas.Bool.{false≢true}
use Rattle.sr_args.specs.declared.name.OptionName.TheVariants.{Dead}
use Rattle.sr_args.specs.Name.{IsSameName, option_text}
use Rattle.sr_args.proofs.RoundsLemmas.{dead-reads, dead-none_left}
use Rattle.sr_args.proofs.commands.recover.dead_words.Goals as goal

pub returns-then-is_empty-clause-none : goal.returns-then-is_empty-clause-none
returns-then-is_empty-clause-none c =
    let none : c.next.new.self ≡ [] = c.if-is_empty.ensures.0 refl in
    dead-none_left c.args.words c.next.new.self c.in_ok-next.field-0.now c.in_ok-next.ensures.some none

pub returns-clause-found : goal.returns-clause-found
returns-clause-found c =
    let same : IsSameName c.in_ok-next.field-0.now (option_text Dead) = c.if-not-is_named.ensures.yes refl in
    let some : c.next.new.self ≢ [] = λ e. false≢true (c.if-is_empty.ensures.1 e) in
    dead-reads c.args.words c.next.new.self c.in_ok-next.field-0.now c.in_ok-next.ensures.some same some
