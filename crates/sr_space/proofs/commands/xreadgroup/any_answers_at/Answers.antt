use Rattle.std.proofs.Common.{rules, tests, ◌∙◌, ◌&&◌, Bool, nat_eq}
use Rattle.std.proofs.lemmas.Iterator.Search.{any_from_yields_List}
use Rattle.std.proofs.lemmas.Iterator.{YieldsList-from_slice}
use Rattle.std.specs.Cmp.Lexicographic.{pointwise}
use Rattle.sr_args.specs.declared.reads.ReadAsked.{ReadAsked}
use Rattle.sr_space.specs.Keys.{Key, stream_at}
use Rattle.sr_space.specs.steps.Waiting.{answers_stream}
use Rattle.sr_space.proofs.ApartLaws.{any-filter}
use Rattle.sr_space.proofs.commands.xreadgroup.any_answers_at.Goals as goal

pub returns : goal.returns
returns c =
    let keys = c.args.space.now in
    let name = c.args.name.now in
    let has : Key × ReadAsked → Bool = λ stream. pointwise nat_eq stream.0 c.args.key.now in
    let gives : Key × ReadAsked → Bool = λ stream. answers_stream name stream.1 (stream_at keys stream.0) in
    any_from_yields_List (λ (stream : Key × ReadAsked). has stream && gives stream) _ _ c.any.result c.any.ensures.ran (YieldsList-from_slice c.args.streams.now cc) (λ x b q k. search (rules, tests))
    ∙ any-filter gives has c.args.streams.now
