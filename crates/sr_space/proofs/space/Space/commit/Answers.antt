use Rattle.std.proofs.Common.{◌≡◌, Some, None, nat_eq, refl, ap, sym, ◌∙◌}
use Rattle.std.proofs.lemmas.Result.{on_ok_weaker, on_err_weaker}
use Rattle.std.specs.Cmp.Lexicographic.{pointwise}
use Rattle.std.specs.Map.{lookup, set_value}
use Rattle.sr_plan.specs.{batches_in, claim_calls}
use Rattle.sr_policy.specs.{SnapshotState}
use Rattle.sr_space.specs.Commit.{after_calls}
use Rattle.sr_space.specs.Keys.{shown_keys, shown_of, stream_at, with_stream}
use Rattle.sr_space.proofs.CommitLemmas.{committed-found, committed-missing}
use Rattle.sr_space.proofs.KeysLemmas.{Stored, shown-set_value, shown-set_value_same, stream_at-shown}
use Rattle.sr_space.proofs.ReadGroupLemmas.{shown-found}
use Rattle.sr_space.proofs.space.Space.commit.Goals as goal

pub returns-in-Some-clause-ok : goal.returns-in-Some-clause-ok
returns-in-Some-clause-ok c =
    let stored : Stored = c.self.inside.keys.entries in
    let verdict = c.args.verdict.now in
    let moment = c.args.moment in
    let key = c.key.result.now in
    let kept = c.in-Some.stream.now in
    let written = c.claim_in.new.stream in
    let found : lookup (pointwise nat_eq key) stored ≡ Some kept = sym c.in-Some.ensures.value in
    let put : (c.get_mut.follows.lender written).entries ≡ set_value (pointwise nat_eq key) stored written = (c.get_mut.follows.holds written).0 in
    let are : c.as_slice.result.now ≡ batches_in verdict.snapshot verdict.answer = c.as_slice.ensures.value ∙ c.in_ok-batches.ensures in
    let key_is : key ≡ verdict.snapshot.key = c.key.ensures ∙ ap (λ (s : SnapshotState). s.key) c.snapshot-snapshot.ensures in
    let name_is : c.group.result.now ≡ verdict.snapshot.group = c.group.ensures ∙ ap (λ (s : SnapshotState). s.group) c.snapshot-snapshot.ensures in
    let there : stream_at (shown_keys stored) key ≡ Some kept.shown = shown-found stored key kept found in
    let left = committed-found verdict.snapshot verdict.answer c.as_slice.result.now are moment (shown_keys stored) key c.group.result.now key_is name_is kept.shown c.sound.ensures.in_order there in
    on_ok_weaker c.claim_in.result (λ is. ap shown_keys put ∙ shown-set_value stored key kept written found ∙ ap (with_stream (shown_keys stored) key) is
    ∙ left ∙ ap (after_calls moment (claim_calls verdict.snapshot verdict.answer)) c.self.view_is) c.claim_in.ensures.ok

pub returns-in-Some-clause-err : goal.returns-in-Some-clause-err
returns-in-Some-clause-err c =
    let stored : Stored = c.self.inside.keys.entries in
    let key = c.key.result.now in
    let kept = c.in-Some.stream.now in
    let written = c.claim_in.new.stream in
    let found : lookup (pointwise nat_eq key) stored ≡ Some kept = sym c.in-Some.ensures.value in
    let put : (c.get_mut.follows.lender written).entries ≡ set_value (pointwise nat_eq key) stored written = (c.get_mut.follows.holds written).0 in
    on_err_weaker c.claim_in.result (λ same. ap shown_keys put ∙ shown-set_value_same stored key kept written found same ∙ c.self.view_is) c.claim_in.ensures.err

pub returns-clause-ok : goal.returns-clause-ok
returns-clause-ok c =
    let stored : Stored = c.self.inside.keys.entries in
    let verdict = c.args.verdict.now in
    let key = c.key.result.now in
    let none : lookup (pointwise nat_eq key) stored ≡ None = sym c.in-None.ensures.value in
    let missing : stream_at (shown_keys stored) key ≡ None = stream_at-shown stored key ∙ ap shown_of none in
    let key_is : key ≡ verdict.snapshot.key = c.key.ensures ∙ ap (λ (s : SnapshotState). s.key) c.snapshot-snapshot.ensures in
    ap (λ m. shown_keys m.entries) c.get_mut.follows.holds-at-none
    ∙ committed-missing verdict.snapshot verdict.answer c.in_ok-batches.batches.items c.in_ok-batches.ensures c.args.moment (shown_keys stored) key verdict.snapshot.group key_is refl missing
    ∙ ap (after_calls c.args.moment (claim_calls verdict.snapshot verdict.answer)) c.self.view_is
