use Rattle.std.proofs.Common.{◌≡◌, ◌+◌, ◌∷◌, ℕ, List, drop, subst, sym, ap, refl, ◌∙◌}
use Rattle.std.proofs.lemmas.List.{drop_all, drop_more}
use Rattle.sr_waiters.specs.Index.{Changes, changed, sessions_by, with_session}
use Rattle.sr_waiters.specs.Waiters.{Key, has_key}
use Rattle.sr_waiters.proofs.IndexLemmas.{changes-next}
use Rattle.sr_waiters.proofs.index.put_all.Goals as goal

pub loop-stream-init : goal.loop-stream-init
loop-stream-init g c = record { sessions = λ key. refl; different = c.requires }

pub loop-stream-preserved : goal.loop-stream-preserved
loop-stream-preserved g c =
    let streams = c.args.streams.now in
    let i = c.loop-stream.stream-index in
    let stream = c.stream-item.result in
    let left = drop (i + 1) streams in
    let final : Key → List ℕ = λ key. changed (with_session c.args.session) (has_key key streams) (sessions_by c.args.index.now key) in
    let next : drop i streams ≡ stream ∷ left = drop_more streams i stream c.loop-stream-test.true ∙ ap (λ (s : Key × _). s ∷ left) (sym c.stream-item.is) in
    let old = c.loop-stream.index in
    let changes = subst (λ (l : List (Key × _)). Changes (with_session c.args.session) l final old) next c.loop-stream.invariant in
    changes-next (with_session c.args.session) final stream left old c.put.new.index changes c.in_ok-put.ensures

pub returns : goal.returns
returns g c = λ key.
    let streams = c.args.streams.now in
    let final : Key → List ℕ = λ key. changed (with_session c.args.session) (has_key key streams) (sessions_by c.args.index.now key) in
    let all = drop_all c.loop-stream.stream-index streams c.loop-stream-test.false in
    (subst (λ (l : List (Key × _)). Changes (with_session c.args.session) l final c.loop-stream.index) all c.loop-stream.invariant).sessions key
