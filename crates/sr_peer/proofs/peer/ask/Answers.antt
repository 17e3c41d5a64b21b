use Rattle.std.proofs.Common.{rules, ◌≡◌, ◌++◌, ◌∙◌, List, [], Option, ℕ, ap, append-nil, subst, sym}
use Rattle.std.proofs.lemmas.Result.{err_from_is_err_and}
use Rattle.std.specs.Io.KnownBytes.{Appends}
use Rattle.std.proofs.KnownBytes.{Appends-trans}
use Rattle.sr_peer.specs.Arriving.{CannotBecome, Outgrows}
use Rattle.sr_peer.proofs.peer.ask.Goals as goal

pub returns-in-Err-Malformed-clause-malformed : goal.returns-in-Err-Malformed-clause-malformed
returns-in-Err-Malformed-clause-malformed g c = λ _.
    let piece : c.as_slice.result.now ≡ c.in_ok-piece.piece.items = c.as_slice.ensures.value in
    let cannot : CannotBecome c.loop-alloc.answers.count (c.loop-alloc.answers.text ++ c.as_slice.result.now) =
    c.take.ensures.malformed (search rules) in (
      c.loop-alloc.answers.text ++ c.in_ok-piece.piece.items,
      Appends-trans _ _ _ c.loop-alloc.answers.text c.in_ok-piece.piece.items c.loop-alloc.invariant.got
          c.in_ok-piece.ensures.ok,
      subst (λ (t : List ℕ). CannotBecome c.args.count (c.loop-alloc.answers.text ++ t)) piece
          (subst (λ (n : ℕ). CannotBecome n (c.loop-alloc.answers.text ++ c.as_slice.result.now))
          c.loop-alloc.invariant.count
          cannot),
    )

pub returns-in-Err-TooLong-clause-too_long : goal.returns-in-Err-TooLong-clause-too_long
returns-in-Err-TooLong-clause-too_long g c = λ _.
    let piece : c.as_slice.result.now ≡ c.in_ok-piece.piece.items = c.as_slice.ensures.value in
    let outgrows : Outgrows c.loop-alloc.answers.count (c.loop-alloc.answers.text ++ c.as_slice.result.now) =
    c.take.ensures.too_long (search rules) in (
      c.loop-alloc.answers.text ++ c.in_ok-piece.piece.items,
      Appends-trans _ _ _ c.loop-alloc.answers.text c.in_ok-piece.piece.items c.loop-alloc.invariant.got
          c.in_ok-piece.ensures.ok,
      subst (λ (t : List ℕ). Outgrows c.args.count (c.loop-alloc.answers.text ++ t)) piece
          (subst (λ (n : ℕ). Outgrows n (c.loop-alloc.answers.text ++ c.as_slice.result.now))
          c.loop-alloc.invariant.count
          outgrows),
    )

pub loop-alloc-preserved : goal.loop-alloc-preserved
loop-alloc-preserved g c =
    let piece : c.as_slice.result.now ≡ c.in_ok-piece.piece.items = c.as_slice.ensures.value in
    record {
      sent = subst (λ (s : Option (List ℕ)). Appends (g.P.Peer.sent c.args.peer.now) s c.args.requests.now)
          (sym c.receive.ensures.sent) c.loop-alloc.invariant.sent;
      got = subst (λ (t : List ℕ). Appends (g.P.Peer.got c.args.peer.now) (g.P.Peer.got c.receive.new.self) t)
          (sym (ap (λ a. a.text) c.in-Ok.ensures.ok ∙ ap (λ (t : List ℕ). c.loop-alloc.answers.text ++ t) piece))
          (Appends-trans _ _ _ c.loop-alloc.answers.text c.in_ok-piece.piece.items c.loop-alloc.invariant.got
          c.in_ok-piece.ensures.ok);
      count = ap (λ a. a.count) c.in-Ok.ensures.ok ∙ c.loop-alloc.invariant.count;
      short = search rules;
    }

-- the requests were sent as a whole, and then nothing came
pub returns-in_err-piece-clause-err : goal.returns-in_err-piece-clause-err
returns-in_err-piece-clause-err g c =
    let told = err_from_is_err_and c.from_residual-in_err-piece.result c.from_residual-in_err-piece.ensures.1 in
    rw told.1 (record {
      front = c.args.requests.now;
      rest = [];
      splits = sym (append-nil c.args.requests.now);
      sends = subst (λ (s : Option (List ℕ)). Appends (g.P.Peer.sent c.args.peer.now) s c.args.requests.now)
          (sym c.receive.ensures.sent) c.loop-alloc.invariant.sent;
    })
