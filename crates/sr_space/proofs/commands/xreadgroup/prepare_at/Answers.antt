use Rattle.std.proofs.Common.{◌≡◌, ◌++◌, Option, Some, None, nat_eq, ap, sym, ◌∙◌, true≢false}
use Rattle.std.proofs.lemmas.Result.{IfOk-weaker, on_ok_weaker}
use Rattle.std.specs.Cmp.Lexicographic.{pointwise}
use Rattle.std.specs.Map.{set_value}
use Rattle.sr_resp.specs.{array_of}
use Rattle.sr_stream.specs.{StreamState}
use Rattle.sr_space.specs.Keys.{shown_keys, shown_of}
use Rattle.sr_space.specs.commands.Xreadgroup.{has_group_in}
use Rattle.sr_space.specs.steps.Reading.{Stored, in_stream, kept_at}
use Rattle.sr_space.proofs.KeysLemmas.{shown-set_value_same, stream_at-shown}
use Rattle.sr_space.proofs.ReadGroupLemmas.{shown-found, writes-at}
use Rattle.sr_space.proofs.commands.xreadgroup.prepare_at.Goals as goal

pub prepare-requires-clause-there : goal.prepare-requires-clause-there
prepare-requires-clause-there c =
    let stored : Stored = c.args.keys.now.entries in
    let key = c.args.key.now in
    let found : kept_at stored key ≡ Some c.in-Some.stream.now = sym c.in-Some.ensures.value in
    rw (shown-found stored key c.in-Some.stream.now found) at c.requires.there

pub unreachable-requires : goal.unreachable-requires
unreachable-requires c =
    let stored : Stored = c.args.keys.now.entries in
    let key = c.args.key.now in
    let none : kept_at stored key ≡ None = sym c.in-None.ensures.value in
    true≢false (sym c.requires.there ∙ ap (has_group_in c.args.read.now.group.now) (stream_at-shown stored key ∙ ap shown_of none))

pub returns-clause-keys : goal.returns-clause-keys
returns-clause-keys c =
    let stored : Stored = c.args.keys.now.entries in
    let key = c.args.key.now in
    let kept = c.in-Some.stream.now in
    let written = c.prepare.new.stream in
    let found : kept_at stored key ≡ Some kept = sym c.in-Some.ensures.value in
    let put : (c.get_mut.follows.lender written).entries ≡ set_value (pointwise nat_eq key) stored written = (c.get_mut.follows.holds written).0 in
    ap shown_keys put ∙ shown-set_value_same stored key kept written found c.prepare.ensures.shown

pub returns-clause-written : goal.returns-clause-written
returns-clause-written c =
    let stored : Stored = c.args.keys.now.entries in
    let key = c.args.key.now in
    let kept = c.in-Some.stream.now in
    let found : kept_at stored key ≡ Some kept = sym c.in-Some.ensures.value in
    IfOk-weaker c.prepare.result _ _ (λ shown writes. writes-at c.args.read.now c.args.asked shown stored key kept found writes) c.prepare.ensures.written

pub returns-clause-listed : goal.returns-clause-listed
returns-clause-listed c =
    let stored : Stored = c.args.keys.now.entries in
    let key = c.args.key.now in
    let kept = c.in-Some.stream.now in
    let found : kept_at stored key ≡ Some kept = sym c.in-Some.ensures.value in
    let same = sym (shown-found stored key kept found) in
    on_ok_weaker c.prepare.result (λ added. λ items is. added items is ∙ ap (λ (s : Option StreamState). array_of (items ++ (in_stream c.args.read.now c.args.asked key s).listed)) same) c.prepare.ensures.listed
