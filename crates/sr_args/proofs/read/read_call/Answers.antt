use Rattle.std.proofs.Common.{inl, inr, length, Err, refl}
use Rattle.std.proofs.lemmas.Bool.{false≢true}
use Rattle.sr_args.specs.declared.fault.CallFault.TheVariants.{Arity, Unknown}
use Rattle.sr_args.specs.declared.table.CommandName.{CommandName}
use Rattle.sr_args.specs.Table.{IsCounted, IsHalfNamed, IsNamed}
use Rattle.sr_args.specs.Command.{IsWellCounted, Refuses}
use Rattle.sr_args.proofs.AnswerLemmas.{Answers-from_gives, Answers-only, IsCommand-from_answers, Refuses-from_answers}
use Rattle.sr_args.specs.commands.{row_of}
use Rattle.sr_args.specs.steps.Names.{IsOther}
use Rattle.sr_args.proofs.read.read_call.Goals as goal

pub returns-else-not-is_counted-clause-ok : goal.returns-else-not-is_counted-clause-ok
returns-else-not-is_counted-clause-ok c =
    let words = c.args.words.now in
    let command = c.in-Command.command in
    let operands = c.in-Command.operands in
    let named : IsNamed command words operands = rw c.unread.ensures at c.in-Command.ensures in
    let counted : IsCounted command (length words) = (rw c.len.ensures at c.if-not-is_counted.ensures).0 refl in
    let right : IsWellCounted words command operands = record { named = named; counted = counted } in
    let right_answer = Answers-from_gives words operands command c.read_operands.result right c.read_operands.ensures in
    IsCommand-from_answers words c.read_operands.result right_answer

pub returns-else-not-is_counted-clause-err : goal.returns-else-not-is_counted-clause-err
returns-else-not-is_counted-clause-err c =
    let words = c.args.words.now in
    let command = c.in-Command.command in
    let operands = c.in-Command.operands in
    let named : IsNamed command words operands = rw c.unread.ensures at c.in-Command.ensures in
    let counted : IsCounted command (length words) = (rw c.len.ensures at c.if-not-is_counted.ensures).0 refl in
    let right : IsWellCounted words command operands = record { named = named; counted = counted } in
    let right_answer = Answers-from_gives words operands command c.read_operands.result right c.read_operands.ensures in
    Refuses-from_answers words c.read_operands.result right_answer

pub returns-else-not-is_counted-clause-only : goal.returns-else-not-is_counted-clause-only
returns-else-not-is_counted-clause-only c = λ answer n other.
    let words = c.args.words.now in
    let command = c.in-Command.command in
    let operands = c.in-Command.operands in
    let named : IsNamed command words operands = rw c.unread.ensures at c.in-Command.ensures in
    let counted : IsCounted command (length words) = (rw c.len.ensures at c.if-not-is_counted.ensures).0 refl in
    let right : IsWellCounted words command operands = record { named = named; counted = counted } in
    let right_answer = Answers-from_gives words operands command c.read_operands.result right c.read_operands.ensures in
    Answers-only words c.read_operands.result answer right_answer n other

-- the search finds this by trying commands one by one, and gives up when there are more of them
pub returns-then-not-is_counted-clause-only : goal.returns-then-not-is_counted-clause-only
returns-then-not-is_counted-clause-only c = λ answer n other.
    let words = c.args.words.now in
    let command = c.in-Command.command in
    let operands = c.in-Command.operands in
    let named : IsNamed command words operands = rw c.unread.ensures at c.in-Command.ensures in
    let uncounted : IsCounted command (length words) → ⊥ = λ i. false≢true ((rw c.len.ensures at c.if-not-is_counted.ensures).1 i) in
    let refused : Refuses words Arity = inl (record { name = command; operands = operands; named = named; uncounted = uncounted }) in
    Answers-only words (Err Arity) answer refused n other

pub returns-in-HalfNamed-clause-only : goal.returns-in-HalfNamed-clause-only
returns-in-HalfNamed-clause-only c = λ answer n other.
    let words = c.args.words.now in
    let half : IsHalfNamed words = rw c.unread.ensures at c.in-HalfNamed.ensures in
    let refused : Refuses words Arity = inr half in
    Answers-only words (Err Arity) answer refused n other

pub returns-in-Unknown-clause-only : goal.returns-in-Unknown-clause-only
returns-in-Unknown-clause-only c = λ answer n other.
    let words = c.args.words.now in
    let others : (command : CommandName) → IsOther (row_of command).name words = rw c.unread.ensures at c.in-Unknown.ensures in
    let refused : Refuses words Unknown = (λ named. (others named.name).unnamed named.operands named.named, λ half. (others half.0).uncut half.1) in
    Answers-only words (Err Unknown) answer refused n other
