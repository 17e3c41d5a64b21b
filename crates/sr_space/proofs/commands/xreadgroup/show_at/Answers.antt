use Rattle.std.proofs.Common.{◌≡◌, Some, nat_eq, ap, sym, ◌∙◌}
use Rattle.std.specs.Cmp.Lexicographic.{pointwise}
use Rattle.std.specs.Map.{set_value}
use Rattle.sr_space.specs.Keys.{shown_keys, with_stream}
use Rattle.sr_space.specs.steps.Reading.{Stored, after_call, kept_at}
use Rattle.sr_space.proofs.KeysLemmas.{shown-set_value}
use Rattle.sr_space.proofs.ReadGroupLemmas.{same-shown}
use Rattle.sr_space.proofs.commands.xreadgroup.show_at.Goals as goal

pub returns-clause-keys : goal.returns-clause-keys
returns-clause-keys c =
    let stored : Stored = c.args.keys.now.entries in
    let key = c.args.key.now in
    let kept = c.in-Some.stream.now in
    let written = c.show.new.stream in
    let found : kept_at stored key ≡ Some kept = sym c.in-Some.ensures.value in
    let put : (c.get_mut.follows.lender written).entries ≡ set_value (pointwise nat_eq key) stored written = (c.get_mut.follows.holds written).0 in
    λ stream at. ap shown_keys put ∙ shown-set_value stored key kept written found
    ∙ ap (with_stream (shown_keys stored) key) (c.show.ensures ∙ ap (after_call c.args.name.now c.args.shown) (same-shown stored key kept found stream at))
