use Rattle.std.proofs.Common.{rules, ◌≡◌, ◌-◌, length, get_or, arith, take, drop}
use Rattle.std.proofs.lemmas.Grind.{common_steps}
use Rattle.sr_ids.specs.Spelling.IsEnd.{before_written}
use Rattle.sr_ids.proofs.ReadingLemmas.{from_first_byte, IfSome_both, IfNone_then}
use Rattle.sr_ids.proofs.SpellingLemmas.{SpellsId-one}
use Rattle.sr_ids.proofs.EndLemmas.{IsEnd-before_written}
use Rattle.sr_ids.proofs.parse.parse_end.Goals as goal

pub returns-in_err-parse_written-in-40-clause-none : goal.returns-in_err-parse_written-in-40-clause-none
returns-in_err-parse_written-in-40-clause-none c = rw c.from_residual.ensures (λ id end.
    let text = c.args.text.now in
    let digits = take (length text - 1) (drop 1 text) in
    let begins : get_or text 0 0 ≡ 40 = search rules in
    let written = IsEnd-before_written text digits id (from_first_byte text 40 (omega arith) begins) end in
    c.in_err-parse_written-in-40.ensures.none written.0 written.1)

pub returns-in_ok-parse_written-in-40-clause-found : goal.returns-in_ok-parse_written-in-40-clause-found
returns-in_ok-parse_written-in-40-clause-found c =
    let text = c.args.text.now in
    let digits = take (length text - 1) (drop 1 text) in
    let begins : get_or text 0 0 ≡ 40 = search rules in
    let whole = from_first_byte text 40 (omega arith) begins in
    IfSome_both c.id_before.result c.id_before.ensures.valid c.id_before.ensures.found (λ before valid next. before_written digits c.in_ok-parse_written-in-40.field-0 whole c.in_ok-parse_written-in-40.ensures.found valid next)

pub returns-in_ok-parse_written-in-40-clause-none : goal.returns-in_ok-parse_written-in-40-clause-none
returns-in_ok-parse_written-in-40-clause-none c =
    let text = c.args.text.now in
    let digits = take (length text - 1) (drop 1 text) in
    let written = c.in_ok-parse_written-in-40.field-0 in
    let begins : get_or text 0 0 ≡ 40 = search rules in
    let whole = from_first_byte text 40 (omega arith) begins in
    IfNone_then c.id_before.result c.id_before.ensures.none (λ none id end.
    let other = IsEnd-before_written text digits id whole end in
    let same = SpellsId-one 0xffff_ffff_ffff_ffff digits other.0 written other.1 c.in_ok-parse_written-in-40.ensures.found in
    none id other.2 (rw same at other.3))

pub returns-in-45-clause-found : goal.returns-in-45-clause-found
returns-in-45-clause-found c = grind (arith, common_steps)

pub returns-in-43-clause-found : goal.returns-in-43-clause-found
returns-in-43-clause-found c = grind (arith, common_steps)

pub returns-in_default-clause-found : goal.returns-in_default-clause-found
returns-in_default-clause-found c = search rules

pub returns-in_default-clause-none : goal.returns-in_default-clause-none
returns-in_default-clause-none c = search rules
