use Rattle.std.proofs.Common.{ap, not, List, sym, ◌∙◌, rules}
use Rattle.sr_args.specs.declared.call.Call.{Call}
use Rattle.sr_args.specs.declared.reads.ReadAsked.{ReadAsked}
use Rattle.sr_space.specs.Blocking.{finds_nothing}
use Rattle.sr_space.specs.Bounds.{in_63_bits}
use Rattle.sr_space.specs.Keys.{Key}
use Rattle.sr_space.specs.steps.Waiting.{any_after, has_answer}
use Rattle.sr_space.proofs.WaitingLemmas.{any_after-read, answers, has_answer-read}
use Rattle.sr_space.proofs.space.Space.ready.Goals as goal

pub returns-in-Xread : goal.returns-in-Xread
returns-in-Xread c = λ moment.
    let keys = c.args.self.now in
    let read = c.in-Xread.read in
    c.any_after.ensures
    ∙ ap (any_after keys) c.as_slice.ensures.value
    ∙ sym (any_after-read read.count keys read.streams)
    ∙ ap (λ (call : Call). not (finds_nothing keys moment call)) (sym c.in-Xread.is)

pub returns-else-not-have_group : goal.returns-else-not-have_group
returns-else-not-have_group c = λ moment.
    let keys = c.args.self.now in
    let read = c.in-Xreadgroup.read in
    let name = read.group in
    let streams = read.streams in
    let there = sym c.have_group.ensures ∙ c.if-not-have_group.false in
    answers name keys c.as_slice-streams.result.now c.lists_any.result there c.lists_any.ensures
    ∙ ap (λ (l : List (Key × ReadAsked)). has_answer name keys l) c.as_slice-streams.ensures.value
    ∙ sym (has_answer-read (in_63_bits moment) name read.consumer read.count read.no_ack keys streams)
    ∙ ap (λ (call : Call). not (finds_nothing keys moment call)) (sym c.in-Xreadgroup.is)

pub returns-then-not-have_group : goal.returns-then-not-have_group
returns-then-not-have_group c = search rules
