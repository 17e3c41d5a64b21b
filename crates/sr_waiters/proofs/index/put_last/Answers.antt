use Rattle.std.proofs.Common.{[], ◌∷◌, ◌++◌, ℕ, List, is_some, nat_eq, ap, ◌∙◌}
use Rattle.std.specs.Map.{keys_of, lookup}
use Rattle.sr_waiters.specs.Queue.{without_entry}
use Rattle.sr_waiters.proofs.IndexLemmas.{keys-last, keys-left, left-is-gone}
use Rattle.sr_waiters.proofs.index.put_last.Goals as goal

pub push-requires-clause-absent : goal.push-requires-clause-absent
push-requires-clause-absent c =
    ap (λ (l : List (ℕ × Unit {0})). is_some (lookup (nat_eq c.args.session) l)) c.remove.ensures.entries ∙ left-is-gone c.args.session c.reserve.new.self.entries

pub returns : goal.returns
returns c =
    let session = c.args.session in
    let old = c.args.sessions.now.entries in
    ap keys_of c.push.ensures.entries ∙ keys-last session c.remove.new.self.entries
    ∙ ap (λ (l : List (ℕ × Unit {0})). keys_of l ++ session ∷ []) (c.remove.ensures.entries ∙ ap (without_entry session) c.in_ok-reserve.ensures.entries)
    ∙ ap (λ (l : List ℕ). l ++ session ∷ []) (keys-left session old)
