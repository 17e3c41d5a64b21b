use Rattle.std.proofs.Common.{◌≡◌}
use Rattle.std.specs.List.{list_all}
use Rattle.toml.specs.View.{members_view}
use Rattle.sr_policy.specs.File.{pairs_of, is_known_key}
use Rattle.sr_policy.proofs.shape.has_known_keys.Given as goal

abbrev pub invariant-loop-key : goal.invariant-loop-key
invariant-loop-key l =
    list_all (λ pair. is_known_key pair.0) (pairs_of (members_view l.key-iterator))
    ≡ list_all (λ pair. is_known_key pair.0) (pairs_of (members_view l.file.entries))
