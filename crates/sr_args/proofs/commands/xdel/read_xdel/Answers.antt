use Rattle.std.proofs.Common.{◌≡◌, ◌≢◌, List, [], ◌∷◌, map, refl}
use Rattle.std.proofs.lemmas.Result.{err_from_is_err_and}
use Rattle.sr_ids.specs.declared.id.Id.{Id}
use Rattle.std.proofs.lemmas.Bool.{false≢true}
use Rattle.sr_args.specs.declared.call.Call.TheVariants.{Xdel}
use Rattle.sr_args.specs.FormWord.{Word, HasIds, strict_id, spelled}
use Rattle.sr_args.specs.Form.{Reading, Reads, AreIds}
use Rattle.sr_args.specs.commands.Xdel.{form, call}
use Rattle.sr_args.specs.steps.Gives.{GivesCall}
use Rattle.sr_args.proofs.FormLemmas.{Fits-ids, ids-numbers, AreIds-exist}
use Rattle.sr_args.proofs.commands.xdel.read_xdel.Goals as goal

reads : (words rest : List Word) (key : Word) → words ≡ key ∷ rest → rest ≢ [] → Reads form words (key, rest)
reads words rest key e some = record { fits = rw e (refl, Fits-ids strict_id rest); fit = some }

gives : (words rest : List Word) (key copy : Word) (list : List Id) → words ≡ key ∷ rest → rest ≢ [] → AreIds strict_id rest list → copy ≡ key → GivesCall form call words (Xdel (record { key = copy; ids = list }))
gives words rest key copy list e some p same =
    record { reading = (key, rest); reads = reads words rest key e some; values = (copy, list); means = (same, p); is = refl }

no_ids : (key : Word) (reading : Reading form) → Reads form (key ∷ []) reading → ⊥
no_ids key (other, []) r = r.fit refl
no_ids key (other, word ∷ rest) r = r.fits.1

pub returns-then-is_empty : goal.returns-then-is_empty
returns-then-is_empty c =
    let none : c.next.new.self ≡ [] = c.if-is_empty.ensures.0 refl in
    let all = rw none at c.in-Some.ensures.some in
    λ reading r. no_ids c.in-Some.key.now reading (rw all at r)

pub returns-then-not-are_ids : goal.returns-then-not-are_ids
returns-then-not-are_ids c =
    let rest = c.next.new.self in
    let some : rest ≢ [] = λ e. false≢true (c.if-is_empty.ensures.1 e) in
    let unspelled : HasIds (map (spelled strict_id) rest) → ⊥ = λ h. false≢true ((rw c.again.ensures at c.if-not-are_ids.ensures).1 h) in
    ((c.in-Some.key.now, rest), reads c.args.words rest c.in-Some.key.now c.in-Some.ensures.some some, (tt, ids-numbers strict_id rest), λ h. unspelled h.1)

pub returns-in_err-ids : goal.returns-in_err-ids
returns-in_err-ids c =
    let p = err_from_is_err_and c.from_residual.result c.from_residual.ensures.1 in
    let rest = c.next.new.self in
    let key = c.in-Some.key.now in
    let some : rest ≢ [] = λ e. false≢true (c.if-is_empty.ensures.1 e) in
    let spelled : HasIds (map (spelled strict_id) rest) = (rw c.again.ensures at c.if-not-are_ids.ensures).0 refl in
    let list = AreIds-exist strict_id rest spelled in
    rw (p.1, p.2) (Xdel (record { key = key; ids = list.0 }), gives c.args.words rest key key list.0 c.in-Some.ensures.some some list.1 refl)

pub returns-in_err-key : goal.returns-in_err-key
returns-in_err-key c =
    let p = err_from_is_err_and c.from_residual-in_err-key.result c.from_residual-in_err-key.ensures.1 in
    let rest = c.next.new.self in
    let key = c.in-Some.key.now in
    let some : rest ≢ [] = λ e. false≢true (c.if-is_empty.ensures.1 e) in
    rw (p.1, p.2) (Xdel (record { key = key; ids = c.in_ok-ids.ids }), gives c.args.words rest key key c.in_ok-ids.ids c.in-Some.ensures.some some c.in_ok-ids.ensures refl)

pub returns : goal.returns
returns c =
    let rest = c.next.new.self in
    let some : rest ≢ [] = λ e. false≢true (c.if-is_empty.ensures.1 e) in
    gives c.args.words rest c.in-Some.key.now c.in_ok-key.key c.in_ok-ids.ids c.in-Some.ensures.some some c.in_ok-ids.ensures c.in_ok-key.ensures
