use Rattle.std.proofs.Common.{◌≡◌, false, List, [], ◌∷◌, ◌++◌, ap, subst, sym, ◌∙◌}
use Rattle.std.specs.List.{All}
use Rattle.std.proofs.lemmas.List.{append_assoc}
use Rattle.sr_pending.specs.declared.nack.Nack.{Nack}
use Rattle.sr_pending.specs.Pending.{AreRising, IsCountable, has_id, with_nack}
use Rattle.sr_pending.proofs.ChangeLemmas.{All-at, fresh-behind, with_nack-behind}
use Rattle.sr_pending.proofs.pending.Pending.copy.Goals as goal

pub put-requires-clause-fresh : goal.put-requires-clause-fresh
put-requires-clause-fresh c =
    let nack = c.in-Some.nack.now in
    let rest = c.next.new.self in
    let done = c.loop-nack.copy.nacks in
    let all : done ++ nack ∷ rest ≡ c.args.self.now.nacks = ap (λ (l : List Nack). done ++ l) (sym c.in-Some.ensures.some) ∙ c.loop-nack.invariant in
    ap (λ (n : Nack). has_id n.id c.reserve.new.self.nacks) c.in_ok-copy.ensures
    ∙ ap (has_id nack.id) c.reserve.ensures.nacks
    ∙ fresh-behind nack rest done (subst AreRising (sym all) c.sound.ensures.rising)

pub put-requires-clause-countable : goal.put-requires-clause-countable
put-requires-clause-countable c =
    let nack = c.in-Some.nack.now in
    let rest = c.next.new.self in
    let done = c.loop-nack.copy.nacks in
    let all : done ++ nack ∷ rest ≡ c.args.self.now.nacks = ap (λ (l : List Nack). done ++ l) (sym c.in-Some.ensures.some) ∙ c.loop-nack.invariant in
    subst IsCountable (sym c.in_ok-copy.ensures) (All-at nack rest IsCountable done (subst (λ (l : List Nack). All IsCountable l) (sym all) c.sound.ensures.countable))

pub loop-nack-preserved : goal.loop-nack-preserved
loop-nack-preserved c =
    let nack = c.in-Some.nack.now in
    let rest = c.next.new.self in
    let done = c.loop-nack.copy.nacks in
    let all : done ++ nack ∷ rest ≡ c.args.self.now.nacks = ap (λ (l : List Nack). done ++ l) (sym c.in-Some.ensures.some) ∙ c.loop-nack.invariant in
    let added : c.put.new.self.nacks ≡ done ++ nack ∷ [] =
    c.put.ensures.nacks
    ∙ ap (λ (n : Nack). with_nack n c.reserve.new.self.nacks) c.in_ok-copy.ensures
    ∙ ap (with_nack nack) c.reserve.ensures.nacks
    ∙ with_nack-behind nack rest done (subst AreRising (sym all) c.sound.ensures.rising) in
    ap (λ (l : List Nack). l ++ rest) added ∙ append_assoc done (nack ∷ []) rest ∙ all
