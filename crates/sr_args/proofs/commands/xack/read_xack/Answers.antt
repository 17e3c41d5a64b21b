use Rattle.std.proofs.Common.{◌≡◌, ◌≢◌, List, [], ◌∷◌, map, refl}
use Rattle.std.proofs.lemmas.Result.{err_from_is_err_and}
use Rattle.sr_ids.specs.declared.id.Id.{Id}
use Rattle.std.proofs.lemmas.Bool.{false≢true}
use Rattle.sr_args.specs.declared.call.Call.TheVariants.{Xack}
use Rattle.sr_args.specs.FormWord.{Word, HasIds, strict_id, spelled}
use Rattle.sr_args.specs.Form.{Reading, Reads, AreIds}
use Rattle.sr_args.specs.commands.Xack.{form, call}
use Rattle.sr_args.specs.steps.Gives.{GivesCall}
use Rattle.sr_args.proofs.FormLemmas.{Fits-ids, ids-numbers, AreIds-exist}
use Rattle.sr_args.proofs.commands.xack.read_xack.Goals as goal

reads : (words after rest : List Word) (key group : Word) → words ≡ key ∷ after → after ≡ group ∷ rest → rest ≢ [] → Reads form words (key, (group, rest))
reads words after rest key group d e some = record { fits = rw d (refl, (rw e (refl, Fits-ids strict_id rest))); fit = some }

gives : (words after rest : List Word) (key group key′ group′ : Word) (list : List Id) → words ≡ key ∷ after → after ≡ group ∷ rest → rest ≢ [] → AreIds strict_id rest list → key′ ≡ key → group′ ≡ group → GivesCall form call words (Xack (record { key = key′; group = group′; ids = list }))
gives words after rest key group key′ group′ list d e some p same_key same_group = record {
  reading = (key, (group, rest));
  reads = reads words after rest key group d e some;
  values = (key′, (group′, list));
  means = (same_key, (same_group, p));
  is = refl;
}

no_ids : (words after : List Word) (key group : Word) → words ≡ key ∷ after → after ≡ group ∷ [] → (reading : Reading form) → Reads form words reading → ⊥
no_ids words after key group d e (k, (g, [])) r = r.fit refl
no_ids words after key group d e (k, (g, word ∷ rest)) r = (rw e at (rw d at r.fits).1).1

pub returns-then-is_empty : goal.returns-then-is_empty
returns-then-is_empty c =
    let none : c.next-2.new.self ≡ [] = c.if-is_empty.ensures.0 refl in
    let all = rw none at c.in-Some-next.ensures.some in
    no_ids c.args.words c.next.new.self c.in-Some.key.now c.in-Some-next.group.now c.in-Some.ensures.some all

pub returns-then-not-are_ids : goal.returns-then-not-are_ids
returns-then-not-are_ids c =
    let rest = c.next-2.new.self in
    let some : rest ≢ [] = λ e. false≢true (c.if-is_empty.ensures.1 e) in
    let unspelled : HasIds (map (spelled strict_id) rest) → ⊥ = λ h. false≢true ((rw c.again.ensures at c.if-not-are_ids.ensures).1 h) in
    ((c.in-Some.key.now, (c.in-Some-next.group.now, rest)), reads c.args.words c.next.new.self rest c.in-Some.key.now c.in-Some-next.group.now c.in-Some.ensures.some c.in-Some-next.ensures.some some, (tt, (tt, ids-numbers strict_id rest)), λ h. unspelled h.1.1)

pub returns-in_err-ids : goal.returns-in_err-ids
returns-in_err-ids c =
    let p = err_from_is_err_and c.from_residual.result c.from_residual.ensures.1 in
    let rest = c.next-2.new.self in
    let some : rest ≢ [] = λ e. false≢true (c.if-is_empty.ensures.1 e) in
    let spelled : HasIds (map (spelled strict_id) rest) = (rw c.again.ensures at c.if-not-are_ids.ensures).0 refl in
    let list = AreIds-exist strict_id rest spelled in
    rw (p.1, p.2) (_, gives c.args.words c.next.new.self rest c.in-Some.key.now c.in-Some-next.group.now c.in-Some.key.now c.in-Some-next.group.now list.0 c.in-Some.ensures.some c.in-Some-next.ensures.some some list.1 refl refl)

pub returns-in_err-key : goal.returns-in_err-key
returns-in_err-key c =
    let p = err_from_is_err_and c.from_residual-in_err-key.result c.from_residual-in_err-key.ensures.1 in
    let rest = c.next-2.new.self in
    let some : rest ≢ [] = λ e. false≢true (c.if-is_empty.ensures.1 e) in
    rw (p.1, p.2) (_, gives c.args.words c.next.new.self rest c.in-Some.key.now c.in-Some-next.group.now c.in-Some.key.now c.in-Some-next.group.now c.in_ok-ids.ids c.in-Some.ensures.some c.in-Some-next.ensures.some some c.in_ok-ids.ensures refl refl)

pub returns-in_err-group : goal.returns-in_err-group
returns-in_err-group c =
    let p = err_from_is_err_and c.from_residual-in_err-group.result c.from_residual-in_err-group.ensures.1 in
    let rest = c.next-2.new.self in
    let some : rest ≢ [] = λ e. false≢true (c.if-is_empty.ensures.1 e) in
    rw (p.1, p.2) (_, gives c.args.words c.next.new.self rest c.in-Some.key.now c.in-Some-next.group.now c.in_ok-key.key c.in-Some-next.group.now c.in_ok-ids.ids c.in-Some.ensures.some c.in-Some-next.ensures.some some c.in_ok-ids.ensures c.in_ok-key.ensures refl)

pub returns : goal.returns
returns c =
    let rest = c.next-2.new.self in
    let some : rest ≢ [] = λ e. false≢true (c.if-is_empty.ensures.1 e) in
    gives c.args.words c.next.new.self rest c.in-Some.key.now c.in-Some-next.group.now c.in_ok-key.key c.in_ok-group.group c.in_ok-ids.ids c.in-Some.ensures.some c.in-Some-next.ensures.some some c.in_ok-ids.ensures c.in_ok-key.ensures c.in_ok-group.ensures
