use Rattle.std.proofs.Common.{◌≡◌, ℕ, ◌+◌, ◌++◌, ◌∷◌, [], List, Option, option_map, take, sym, ap, ◌∙◌, arith}
use Rattle.std.proofs.lemmas.List.{flat_map_more, take_all, take_more}
use Rattle.std.proofs.lemmas.Result.{IfOk-from_err}
use Rattle.sr_policy.specs.{Text}
use Rattle.sr_policy.specs.Rules.{has_tiers}
use Rattle.sr_group.specs.Group.{consumer_with}
use Rattle.sr_dash.specs.Board.{line, row_of, since}
use Rattle.sr_dash.specs.steps.Names.{lines_of}
use Rattle.sr_dash.proofs.LineLemmas.{since-seen}
use Rattle.sr_dash.proofs.line.write_lines.Goals as goal

pub returns-in_err-write_line : goal.returns-in_err-write_line
returns-in_err-write_line c = IfOk-from_err _ _ c.from_residual.ensures.0

pub loop-name-preserved : goal.loop-name-preserved
loop-name-preserved c =
    let start = c.args.out.now.items in
    let group = c.args.view.now.group.now.shown in
    let moment = c.args.view.now.moment in
    let policy = c.args.view.now.policy.now in
    let names = c.args.names.now in
    let read = c.loop-name.name-index in
    let name = c.name-item.result in
    let written : Text → List ℕ = λ name. line (has_tiers policy) (row_of group moment policy name) in
    let more : take (read + 1) names ≡ take read names ++ name ∷ [] = take_more names read name c.loop-name-test.true ∙ ap (λ (n : Text). take read names ++ n ∷ []) (sym c.name-item.is) in
    let with_idle : Option ℕ → List ℕ = λ idle. c.loop-name.out.items ++ line (has_tiers policy) (record (row_of group moment policy name) { idle = idle }) in
    let seen = ap (option_map (since moment)) c.seen.ensures ∙ since-seen moment (consumer_with name group.consumers) in
    let as_seen : c.write_line.new.out.items ≡ with_idle (option_map (since moment) c.seen.result) = rw c.requires at c.in_ok-write_line.ensures in
    let wrote : c.write_line.new.out.items ≡ c.loop-name.out.items ++ written name = as_seen ∙ ap with_idle seen in
    wrote
    ∙ ap (λ (l : List ℕ). l ++ written name) c.loop-name.invariant
    ∙ flat_map_more written start (take read names) name
    ∙ ap (λ (l : List Text). start ++ lines_of group moment policy l) (sym more)

pub returns : goal.returns
returns c =
    c.loop-name.invariant
    ∙ ap (λ (l : List Text). c.args.out.now.items ++ lines_of c.args.view.now.group.now.shown c.args.view.now.moment c.args.view.now.policy.now l) (take_all c.loop-name.name-index c.args.names.now (omega arith))
