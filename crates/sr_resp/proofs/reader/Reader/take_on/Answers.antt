use Rattle.std.proofs.Common.{◌≡◌, drop, arith, refl, sym, ap, ◌∙◌}
use Rattle.std.proofs.lemmas.Result.{err_from_is_err_and}
use Rattle.sr_resp.specs.Stream.{Progress}
use Rattle.sr_resp.proofs.TakeLemmas.{reader_stands, sorts_out, reader_still, view_still, looks_once, cut_back, piece_cut}
use Rattle.sr_resp.proofs.reader.Reader.take_on.Goals as goal

pub invariant_of-self : goal.invariant_of-self
invariant_of-self c = reader_still _ _ _ _ _ _ c.in_err-append.ensures.err refl c.self.invariant

pub returns-in_err-append-clause-err : goal.returns-in_err-append-clause-err
returns-in_err-append-clause-err c =
    let p = err_from_is_err_and c.from_residual.result c.from_residual.ensures.1 in
    rw p.1 (view_still _ _ _ _ _ _ _ _ refl c.in_err-append.ensures.err c.self.view_is)

pub sort_out-requires : goal.sort_out-requires
sort_out-requires c =
    reader_stands _ _ c.args.piece.now _ _ _ _ c.self.invariant (ap (λ (p : Progress). p.failed) c.self.view_is ∙ c.requires) (c.as_slice.ensures.value ∙ c.in_ok-append.ensures.ok) (omega (arith, c.len-bytes.ensures, c.self.inside.rest.ok))

pub drop_front-requires : goal.drop_front-requires
drop_front-requires c = omega (arith, c.in-Ok.ensures.ok.start, c.as_slice.ensures.len)

pub drop_front-requires-in-Ok : goal.drop_front-requires-in-Ok
drop_front-requires-in-Ok c = omega (arith, c.in-Ok.ensures.ok.first, c.sort_out.new.places.ok)

pub invariant_of-self-in-Ok : goal.invariant_of-self-in-Ok
invariant_of-self-in-Ok c =
    reader_still _ _ _ _ _ _ (c.drop_front.ensures ∙ ap (drop c.in-Ok.reached.start) (sym c.as_slice.ensures.value)) c.drop_front-in-Ok.ensures c.in-Ok.ensures.ok.stands

pub invariant_of-self-in-Err : goal.invariant_of-self-in-Err
invariant_of-self-in-Err c =
    let rest : c.truncate.new.self.items ≡ c.self.inside.rest.items = piece_cut _ _ _ _ _ c.truncate.ensures.items (omega (arith, c.len-bytes.ensures, c.self.inside.rest.ok)) c.in_ok-append.ensures.ok in
    let places = cut_back _ _ _ _ c.truncate-in-Err.ensures.items (omega (arith, c.len-words.ensures, c.self.inside.places.ok)) c.in-Err.ensures.places in
    reader_still _ _ _ _ _ _ rest places c.self.invariant

pub returns-in-Ok-clause-ok : goal.returns-in-Ok-clause-ok
returns-in-Ok-clause-ok c =
    sorts_out _ _ _ _ c.args.piece.now _ _ _ _ _ _ c.in-Ok.reached c.self.view_is (c.as_slice.ensures.value ∙ c.in_ok-append.ensures.ok) c.in-Ok.ensures.ok (c.drop_front.ensures ∙ ap (drop c.in-Ok.reached.start) (sym c.as_slice.ensures.value))

pub returns-in-Err-clause-err : goal.returns-in-Err-clause-err
returns-in-Err-clause-err c =
    let rest : c.truncate.new.self.items ≡ c.self.inside.rest.items = piece_cut _ _ _ _ _ c.truncate.ensures.items (omega (arith, c.len-bytes.ensures, c.self.inside.rest.ok)) c.in_ok-append.ensures.ok in
    let waiting = cut_back _ _ _ _ c.truncate-in-Err-2.ensures.items (omega (arith, c.len-requests.ensures, c.self.inside.waiting.ok)) c.in-Err.ensures.waiting in
    view_still _ _ _ _ _ _ _ _ waiting rest c.self.view_is

pub returns-in_err-append-clause-looked : goal.returns-in_err-append-clause-looked
returns-in_err-append-clause-looked c =
    let old = ap (λ (p : Progress). p.looked) c.self.view_is in
    (omega (arith, old), omega (arith, old))

pub returns-in-Ok-clause-looked : goal.returns-in-Ok-clause-looked
returns-in-Ok-clause-looked c =
    looks_once _ _ _ c.args.piece.now _ _ _ _ _ c.self.view_is (c.as_slice.ensures.value ∙ c.in_ok-append.ensures.ok) (omega (arith, c.len-bytes.ensures, c.self.inside.rest.ok)) c.in-Ok.ensures.looked

pub returns-in-Err-clause-looked : goal.returns-in-Err-clause-looked
returns-in-Err-clause-looked c =
    looks_once _ _ _ c.args.piece.now _ _ _ _ _ c.self.view_is (c.as_slice.ensures.value ∙ c.in_ok-append.ensures.ok) (omega (arith, c.len-bytes.ensures, c.self.inside.rest.ok)) c.in-Err.ensures.looked
