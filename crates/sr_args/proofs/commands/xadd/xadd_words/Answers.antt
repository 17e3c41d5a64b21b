use Rattle.std.proofs.Common.{◌≡◌, ◌-◌, ◌/◌, [], length, ◌∙◌, sym, ap, arith}
use Rattle.std.proofs.lemmas.Bool.{false≢true}
use Rattle.sr_args.proofs.XaddLemmas.{xadd-rest, fields-paired, even-some, xadd-reads}
use Rattle.sr_args.proofs.commands.xadd.xadd_words.Goals as goal
use Rattle.sr_args.proofs.commands.xadd.xadd_words.Goals.{then-is_empty-via-then-is_empty, then-is_empty-via-else-is_empty+then-len-ne0}

pub returns-then-is_empty-clause-none : goal.returns-then-is_empty-clause-none
returns-then-is_empty-clause-none c = λ reading r.
    let read = c.in_ok-judged.ensures.found in
    let left = xadd-rest c.args.words c.in_ok-key.key.now c.next.new.self read.0 c.read_options.new.words c.in_ok-key.ensures.some read.1 reading r in
    let even = fields-paired c.read_options.new.words c.in_ok-id.id.now c.next-2.new.self c.in_ok-id.ensures.some left in
    elim c.then-is_empty.branch [
      | then-is_empty-via-then-is_empty w ↦ let none : c.next-2.new.self ≡ [] = c.is_empty.ensures.0 w.if-is_empty.true in omega (arith, ap length none, even.1)
      | then-is_empty-via-else-is_empty+then-len-ne0 w ↦ omega (arith, even.1, w.len.ensures)
    ]

pub returns-clause-found : goal.returns-clause-found
returns-clause-found c =
    let read = c.in_ok-judged.ensures.found in
    let words = c.next-2.new.self in
    let paired = even-some words c.len.result (λ e. false≢true (sym c.if-is_empty.false ∙ c.is_empty.ensures.1 e)) c.len.ensures c.if-len-ne0.false in
    (read.0, read.2, xadd-reads c.args.words c.in_ok-key.key.now c.next.new.self read.0 c.read_options.new.words c.in_ok-id.id.now words (length words / 2 - 1) c.in_ok-key.ensures.some read.1 c.in_ok-id.ensures.some paired)
