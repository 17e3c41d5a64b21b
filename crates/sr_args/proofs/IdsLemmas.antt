-- The first words of some, read as ids one after the other.
use Rattle.std.proofs.Common.{◌≡◌, ℕ, ◌<◌, ◌-◌, zero, suc, List, [], ◌∷◌, ◌++◌, map, take, refl, sym, subst, arith}
use Rattle.std.proofs.lemmas.List.{append_assoc}
use Rattle.sr_ids.specs.declared.id.Id.{Id}
use Rattle.sr_ids.specs.{SpellsId}
use Rattle.sr_args.specs.FormWord.{Word, strict_id, spelled, HasId, HasIds}
use Rattle.sr_args.specs.Form.{AreIds}

pub take-next : (n : ℕ) (words rest : List Word) (word : Word) → 0 < n → words ≡ word ∷ rest → take n words ≡ word ∷ take (n - 1) rest
take-next zero words rest word lt e = absurd (omega arith)
take-next (suc n) words rest word lt e = let less : suc n - 1 ≡ n = omega arith in rw (e, less) refl

pub take-none : (n : ℕ) (words : List Word) → words ≡ [] → take n words ≡ []
take-none zero words e = refl
take-none (suc n) words e = rw e refl

-- whether each of the first words spells an id
pub HasIds-next : (n : ℕ) (words rest : List Word) (word : Word) → 0 < n → words ≡ word ∷ rest → HasIds (map (spelled strict_id) (take n words)) → HasId (spelled strict_id word) × HasIds (map (spelled strict_id) (take (n - 1) rest))
HasIds-next n words rest word lt e has =
    subst (λ (ws : List Word). HasIds (map (spelled strict_id) ws)) (take-next n words rest word lt e) has

pub HasIds-with : (n : ℕ) (words rest : List Word) (word : Word) → 0 < n → words ≡ word ∷ rest → HasId (spelled strict_id word) → HasIds (map (spelled strict_id) (take (n - 1) rest)) → HasIds (map (spelled strict_id) (take n words))
HasIds-with n words rest word lt e first has =
    subst (λ (ws : List Word). HasIds (map (spelled strict_id) ws)) (sym (take-next n words rest word lt e)) (first, has)

-- the ids so far, and one more
pub AreIds-more : (n : ℕ) (words rest whole : List Word) (word : Word) (ids : List Id) (found : Id) → 0 < n → words ≡ word ∷ rest → SpellsId 0 word found → ((more : List Id) → AreIds strict_id (take n words) more → AreIds strict_id whole (ids ++ more)) → (more : List Id) → AreIds strict_id (take (n - 1) rest) more → AreIds strict_id whole ((ids ++ found ∷ []) ++ more)
AreIds-more n words rest whole word ids found lt e spells so_far more are =
    let one : AreIds strict_id (take n words) (found ∷ more) = subst (λ (ws : List Word). AreIds strict_id ws (found ∷ more)) (sym (take-next n words rest word lt e)) (spells, are) in
    subst (λ (is : List Id). AreIds strict_id whole is) (sym (append_assoc ids (found ∷ []) more)) (so_far (found ∷ more) one)
