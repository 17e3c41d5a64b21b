use Rattle.std.proofs.Common.{◌≡◌, ℕ, Bool, true, false, refl, ap, sym, ◌∙◌}
use Rattle.std.proofs.lemmas.Result.{IfOk-from_err}
use Rattle.sr_resp.specs.{ReplyParts}
use Rattle.sr_plan.specs.{claim_calls, Judged}
use Rattle.sr_space.specs.{after_calls}
use Rattle.sr_space.specs.Keys.{Keys}
use Rattle.sr_book.specs.declared.event.Out.TheVariants as outs
use Rattle.sr_book.specs.Server.{Server, after_call, is_open, keys_after}
use Rattle.sr_book.proofs.ActLemmas.{one_sent, unchanged}
use Rattle.sr_book.proofs.SnapLemmas.{on_err_always, on_ok_none}
use Rattle.sr_book.proofs.machine.Machine.carry_out.Goals as goal
use Rattle.sr_book.proofs.machine.Machine.carry_out.Goals.{then-apply+in_ok-commit, else-apply}

pub returns-in_err-reply : goal.returns-in_err-reply
returns-in_err-reply c =
    let failed = c.from_residual.ensures.0 in
    record {
      server = on_ok_none _ _ failed;
      out = IfOk-from_err _ _ failed;
      sent = IfOk-from_err _ _ failed;
      err = on_err_always _ refl;
    }

pub returns-in_err-keep : goal.returns-in_err-keep
returns-in_err-keep c =
    let failed = c.from_residual-in_err-keep.ensures.0 in
    record {
      server = on_ok_none _ _ failed;
      out = IfOk-from_err _ _ failed;
      sent = IfOk-from_err _ _ failed;
      err = on_err_always _ refl;
    }

pub returns-in_err-commit : goal.returns-in_err-commit
returns-in_err-commit c =
    let failed = c.from_residual-in_err-commit.ensures.0 in
    record {
      server = on_ok_none _ _ failed;
      out = IfOk-from_err _ _ failed;
      sent = IfOk-from_err _ _ failed;
      err = on_err_always _ (unchanged _ c.args.self.now _ _ c.in_err-commit.ensures.err refl c.self.view_is);
    }

pub hear-requires : goal.hear-requires
hear-requires c =
    let there : Server → Bool = λ s. is_open c.args.session s.sessions in
    record {
      bound = c.requires.bound;
      there = elim c.if-apply.branch [
        | then-apply+in_ok-commit w ↦ ap there w.self-is ∙ ap there c.self.view_is ∙ c.requires.there
        | else-apply w ↦ ap there w.self-is ∙ c.requires.there
      ];
    }

-- a server that hears a call once its keys are written, and one that writes none
module _ (session moment : ℕ) (judged : Judged) (server now : Server) (apply : Bool) where
  heard-written : (inside : Server) (keys : Keys) → apply ≡ true → inside ≡ server → keys ≡ after_calls moment (claim_calls judged.snapshot judged.answer) inside.keys
      → now ≡ record { sessions = inside.sessions; keys = keys; waiting = inside.waiting; last = inside.last; rules = inside.rules }
      → after_call session moment now.keys now.waiting now ≡ after_call session moment (keys_after apply moment judged server.keys) server.waiting server
  heard-written inside keys asked view writes is =
      ap (λ (s : Server). after_call session moment s.keys s.waiting s) is
      ∙ ap (λ (k : Keys). after_call session moment k inside.waiting inside) writes
      ∙ ap (λ (s : Server). after_call session moment (keys_after true moment judged s.keys) s.waiting s) view
      ∙ ap (λ (b : Bool). after_call session moment (keys_after b moment judged server.keys) server.waiting server) (sym asked)

  heard-kept : apply ≡ false → now ≡ server → after_call session moment now.keys now.waiting now ≡ after_call session moment (keys_after apply moment judged server.keys) server.waiting server
  heard-kept not_asked is =
      ap (λ (s : Server). after_call session moment s.keys s.waiting s) is
      ∙ ap (λ (b : Bool). after_call session moment (keys_after b moment judged server.keys) server.waiting server) (sym not_asked)

pub returns : goal.returns
returns c =
    let a = c.args in
    let now = c.if-apply.self in
    let heard : after_call a.session a.moment now.keys now.waiting now ≡ after_call a.session a.moment (keys_after a.apply a.moment a.verdict.now a.self.now.keys) a.self.now.waiting a.self.now =
    elim c.if-apply.branch [
      | then-apply+in_ok-commit w ↦ heard-written a.session a.moment a.verdict.now a.self.now now a.apply _ _ w.if-apply.true c.self.view_is w.in_ok-commit.ensures.ok w.self-is
      | else-apply w ↦ heard-kept a.session a.moment a.verdict.now a.self.now now a.apply w.if-apply.false w.self-is
    ] in
    record {
      server = c.hear.ensures ∙ heard;
      out = ap (λ (r : ReplyParts). outs.Reply r) c.in_ok-reply.ensures;
      sent = one_sent a.session _ _ _ (c.in_ok-keep.ensures ∙ c.in_ok-reply.ensures) c.one.ensures;
      err = tt;
    }
