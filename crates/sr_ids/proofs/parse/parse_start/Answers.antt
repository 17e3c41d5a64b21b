use Rattle.std.proofs.Common.{rules, ◌≡◌, ◌-◌, length, get_or, arith, take, drop}
use Rattle.std.proofs.lemmas.Grind.{common_steps}
use Rattle.std.proofs.lemmas.Option.{IfSome_then}
use Rattle.sr_ids.specs.Spelling.IsStart.{after_written}
use Rattle.sr_ids.proofs.ReadingLemmas.{from_first_byte, IfNone_then}
use Rattle.sr_ids.proofs.SpellingLemmas.{SpellsId-one}
use Rattle.sr_ids.proofs.StartLemmas.{IsStart-after_written}
use Rattle.sr_ids.proofs.parse.parse_start.Goals as goal

pub returns-in_ok-parse_written-in-40-clause-found : goal.returns-in_ok-parse_written-in-40-clause-found
returns-in_ok-parse_written-in-40-clause-found c =
    let text = c.args.text.now in
    let digits = take (length text - 1) (drop 1 text) in
    let begins : get_or text 0 0 ≡ 40 = search rules in
    let whole = from_first_byte text 40 (omega arith) begins in
    IfSome_then c.succ.result c.succ.ensures.found (λ next p. after_written digits c.in_ok-parse_written-in-40.field-0 whole c.in_ok-parse_written-in-40.ensures.found p)

pub returns-in_ok-parse_written-in-40-clause-none : goal.returns-in_ok-parse_written-in-40-clause-none
returns-in_ok-parse_written-in-40-clause-none c =
    let text = c.args.text.now in
    let digits = take (length text - 1) (drop 1 text) in
    let written = c.in_ok-parse_written-in-40.field-0 in
    let begins : get_or text 0 0 ≡ 40 = search rules in
    let whole = from_first_byte text 40 (omega arith) begins in
    IfNone_then c.succ.result c.succ.ensures.none (λ none id start.
    let other = IsStart-after_written text digits id whole start in
    let same = SpellsId-one 0 digits other.0 written other.1 c.in_ok-parse_written-in-40.ensures.found in
    none id other.2.valid (rw same at other.2.above))

pub returns-in-45-clause-found : goal.returns-in-45-clause-found
returns-in-45-clause-found c = grind (arith, common_steps)

pub returns-in-43-clause-found : goal.returns-in-43-clause-found
returns-in-43-clause-found c = grind (arith, common_steps)
