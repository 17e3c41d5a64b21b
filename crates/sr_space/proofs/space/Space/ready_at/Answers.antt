use Rattle.std.proofs.Common.{ap, not, List, sym, ◌∙◌}
use Rattle.sr_args.specs.declared.call.Call.{Call}
use Rattle.sr_args.specs.declared.call.Position.{Position}
use Rattle.sr_args.specs.declared.commands.xread.Xread.{Xread}
use Rattle.sr_args.specs.declared.commands.xreadgroup.Xreadgroup.{Xreadgroup}
use Rattle.sr_args.specs.declared.reads.ReadAsked.{ReadAsked}
use Rattle.sr_space.specs.Blocking.{finds_nothing}
use Rattle.sr_space.specs.Keys.{Key}
use Rattle.sr_space.specs.Readers.{read_at, streams_at}
use Rattle.sr_space.specs.steps.Waiting.{any_after, any_answers}
use Rattle.sr_space.proofs.ApartLaws.{gives-grouped, gives-read}
use Rattle.sr_space.proofs.space.Space.ready_at.Goals as goal

pub returns-in-Xread : goal.returns-in-Xread
returns-in-Xread c = λ moment.
    let keys = c.args.self.now in
    let key = c.args.key.now in
    let read = c.in-Xread.read in
    let at : Xread = record read { streams = streams_at key read.streams } in
    c.any_after_at.ensures
    ∙ ap (λ (l : List (Key × Position)). any_after keys (streams_at key l)) c.as_slice.ensures.value
    ∙ sym (gives-read keys moment at)
    ∙ ap (λ (call : Call). not (finds_nothing keys moment (read_at key call))) (sym c.in-Xread.is)

pub returns-in-Xreadgroup : goal.returns-in-Xreadgroup
returns-in-Xreadgroup c = λ moment.
    let keys = c.args.self.now in
    let key = c.args.key.now in
    let read = c.in-Xreadgroup.read in
    let at : Xreadgroup = record read { streams = streams_at key read.streams } in
    c.any_answers_at.ensures
    ∙ ap (λ (l : List (Key × ReadAsked)). any_answers read.group keys (streams_at key l)) c.as_slice-in-Xreadgroup.ensures.value
    ∙ sym (gives-grouped keys moment at)
    ∙ ap (λ (call : Call). not (finds_nothing keys moment (read_at key call))) (sym c.in-Xreadgroup.is)
