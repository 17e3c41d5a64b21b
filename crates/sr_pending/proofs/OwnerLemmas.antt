-- The first entry of an owner.
use Rattle.std.proofs.Common.{◌≡◌, ℕ, true, List, ◌∷◌, arith}
use Rattle.std.specs.List.{All}
use Rattle.std.specs.Cmp.Lexicographic.{bytes_decides}
use Rattle.std.proofs.lemmas.List.Elements.{filter_passes}
use Rattle.sr_pending.specs.declared.nack.Nack.{Nack}
use Rattle.sr_pending.specs.Pending.{is_same_name, owned_by}

-- the first of an owner's entries is the owner's
pub owned_by-first : (owner : List ℕ) (xs : List Nack) (x : Nack) (rest : List Nack) → owned_by owner xs ≡ x ∷ rest → x.owner ≡ owner
owned_by-first owner xs x rest first =
    let all : All (λ (nack : Nack). is_same_name nack.owner owner ≡ true) (owned_by owner xs) = filter_passes (λ (nack : Nack). is_same_name nack.owner owner) xs in
    let passes : All (λ (nack : Nack). is_same_name nack.owner owner ≡ true) (x ∷ rest) = rw first at all in
    (bytes_decides x.owner owner).0 (passes 0 x (omega arith))
