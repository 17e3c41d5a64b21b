-- What a scan looks at, one entry after the other.
use Rattle.std.proofs.Common.{◌≡◌, ℕ, zero, suc, ◌-◌, ◌*◌, ◌/◌, ◌<◌, cond, List, [], ◌∷◌, ◌++◌, length, map, take, drop, slice_get, refl, ap, sym, ◌∙◌, append-nil, append_assoc, length-append, arith}
use Rattle.std.proofs.Math.Seq.{take-nil}
use Rattle.std.proofs.lemmas.List.{length-map}
use Rattle.sr_ids.specs.declared.id.Id.{Id}
use Rattle.sr_entries.specs.declared.entry.Entry.{Entry}
use Rattle.sr_pending.specs.declared.nack.Nack.{Nack}
use Rattle.sr_group.specs.declared.claim.Claim.{Claim}
use Rattle.sr_group.specs.Claim.{id_behind, id_or_least, is_taken, scanned, up_to_taken}
use Rattle.sr_group.specs.steps.Scanning.{IsLooked, IsScan}

module _ {X : Type 0} where
  slice_get-drop : (n : ℕ) (xs : List X) → slice_get (drop n xs) 0 ≡ slice_get xs n
  slice_get-drop zero xs = refl
  slice_get-drop (suc n) [] = refl
  slice_get-drop (suc n) (x ∷ xs) = slice_get-drop n xs

  drop-next : (n : ℕ) (x : X) (xs ys : List X) → drop n xs ≡ x ∷ ys → drop (suc n) xs ≡ ys
  drop-next zero x [] ys is = cc
  drop-next zero x (z ∷ zs) ys is = cc
  drop-next (suc n) x [] ys is = cc
  drop-next (suc n) x (z ∷ zs) ys is = drop-next n x zs ys is

module _ (claim : Claim) (claimer : List ℕ) (moment : ℕ) (entries : List Entry) where
  -- nothing more is looked at where none is wanted, where ten times as many were looked at, and behind the last
  pub up_to_taken-wanted : (left n : ℕ) (rest : List Nack) → left ≡ 0 → up_to_taken claim claimer moment entries left (take n rest) ≡ []
  up_to_taken-wanted left n rest none = rw none refl

  there : (left : ℕ) → up_to_taken claim claimer moment entries left [] ≡ []
  there zero = refl
  there (suc left) = refl

  pub up_to_taken-looked : (left n : ℕ) (rest : List Nack) → n ≡ 0 → up_to_taken claim claimer moment entries left (take n rest) ≡ []
  up_to_taken-looked left n rest none = rw none (there left)

  pub up_to_taken-there : (left n : ℕ) (rest : List Nack) → rest ≡ [] → up_to_taken claim claimer moment entries left (take n rest) ≡ []
  up_to_taken-there left n rest none = rw (none, take-nil n) (there left)

  -- the first one is looked at, and then as many fewer
  up_to_taken-next : (left more n m : ℕ) (nack : Nack) (after : List Nack) → left ≡ suc more → n ≡ suc m
      → up_to_taken claim claimer moment entries left (take n (nack ∷ after)) ≡ nack ∷ up_to_taken claim claimer moment entries (cond (is_taken claim claimer moment entries nack) more left) (take m after)
  up_to_taken-next left more n m nack after p q = rw (p, q) refl

  module _ (count : ℕ) (found : List Nack) where
    pub IsScan-ended : (ids : List Id) (left : ℕ) (rest : List Nack) (next : Id) → IsLooked claim claimer moment entries count found ids left rest
        → up_to_taken claim claimer moment entries left (take (10 * count - length ids) rest) ≡ [] → next ≡ id_behind 0 rest → IsScan claim claimer moment entries count found ids next
    IsScan-ended ids left rest next looked none is =
        let all : ids ≡ map (λ (nack : Nack). nack.id) (scanned claim claimer moment entries count found) =
        sym (append-nil ids) ∙ ap (λ (l : List Nack). ids ++ map (λ (nack : Nack). nack.id) l) (sym none) ∙ looked.all in
        let long : length ids ≡ length (scanned claim claimer moment entries count found) = ap length all ∙ length-map (scanned claim claimer moment entries count found) (λ (nack : Nack). nack.id) in
        record {
          all = all;
          behind = is ∙ ap (id_behind 0) (sym looked.behind) ∙ ap id_or_least (slice_get-drop (length ids) found) ∙ ap (λ (n : ℕ). id_behind n found) long;
        }

    pub IsLooked-next : (ids new : List Id) (left now : ℕ) (rest after : List Nack) (nack : Nack) → 0 < left → length ids / 10 < count → rest ≡ nack ∷ after → new ≡ ids ++ nack.id ∷ []
        → now ≡ cond (is_taken claim claimer moment entries nack) (left - 1) left → IsLooked claim claimer moment entries count found ids left rest → IsLooked claim claimer moment entries count found new now after
    IsLooked-next ids new left now rest after nack wanted within is pushed less looked =
        let long : length new ≡ suc (length ids) = omega (arith, ap length pushed, length-append ids (nack.id ∷ [])) in
        let one_less : left ≡ suc (left - 1) = omega arith in
        let one_fewer : 10 * count - length ids ≡ suc (10 * count - length new) = omega arith in
        let todo = up_to_taken claim claimer moment entries now (take (10 * count - length new) after) in
        let step : up_to_taken claim claimer moment entries left (take (10 * count - length ids) rest) ≡ nack ∷ todo =
        ap (λ (l : List Nack). up_to_taken claim claimer moment entries left (take (10 * count - length ids) l)) is
        ∙ up_to_taken-next left (left - 1) (10 * count - length ids) (10 * count - length new) nack after one_less one_fewer
        ∙ ap (λ (n : ℕ). nack ∷ up_to_taken claim claimer moment entries n (take (10 * count - length new) after)) (sym less) in
        record {
          all = ap (λ (l : List Id). l ++ map (λ (nack : Nack). nack.id) todo) pushed
              ∙ append_assoc ids (nack.id ∷ []) (map (λ (nack : Nack). nack.id) todo)
              ∙ ap (λ (l : List Nack). ids ++ map (λ (nack : Nack). nack.id) l) (sym step)
              ∙ looked.all;
          behind = ap (λ (n : ℕ). drop n found) long ∙ drop-next (length ids) nack found after (looked.behind ∙ is);
        }
