-- What loops make, one step after the other.
use Rattle.std.proofs.Common.{◌≡◌, ℕ, zero, suc, ◌+◌, ◌-◌, ◌<◌, ◌≤◌, List, [], ◌∷◌, ◌++◌, length, get_or, map, take, drop, ap, sym, ◌∙◌, append-nil, append_assoc, arith}
use Rattle.std.proofs.lemmas.List.{at_drop_all, drop_more, map_more}
use Rattle.sr_resp.specs.{ReplyParts, array_of}

-- a place that is counted down
pub within-behind : (place n : ℕ) → 0 < place → place ≤ n → place - 1 < n
within-behind place n more within = omega arith

pub one-less : (left n : ℕ) → left + 1 ≡ n → left < n
one-less left n is = omega arith

-- a list is gone through from behind
module _ {X Y : Type 0} (F : List X → Y) (xs : List X) where
  pub behind-init : F [] ≡ F (drop (length xs) xs)
  behind-init = sym (at_drop_all F xs (length xs) (omega arith))

  pub behind-next : (place : ℕ) (x : X) (now : Y) → 0 < place → place ≤ length xs → x ≡ get_or xs (place - 1) x → now ≡ F (x ∷ drop place xs) → now ≡ F (drop (place - 1) xs)
  behind-next place x now more within read is =
      let at : place - 1 + 1 ≡ place = omega arith in
      is ∙ ap (λ (y : X). F (y ∷ drop place xs)) read ∙ ap (λ (n : ℕ). F (get_or xs (place - 1) x ∷ drop n xs)) (sym at)
      ∙ sym (ap F (drop_more xs (place - 1) x (within-behind place (length xs) more within)))

  pub behind-end : (place : ℕ) (now : Y) → place ≤ 0 → now ≡ F (drop place xs) → now ≡ F xs
  behind-end zero now none is = is
  behind-end (suc i) now none is = absurd (omega arith)

-- one more item of an array
pub lines-next : {X : Type 0} (f : X → ReplyParts) (xs : List X) (i : ℕ) (x : X) (lines line now : ReplyParts) → i < length xs → x ≡ get_or xs i x
    → ((items : List ReplyParts) → lines ≡ array_of items → now ≡ array_of (items ++ line ∷ [])) → line ≡ f x → lines ≡ array_of (map f (take i xs)) → now ≡ array_of (map f (take (i + 1) xs))
lines-next f xs i x lines line now within read pushed is so_far =
    pushed (map f (take i xs)) so_far ∙ ap (λ (l : ReplyParts). array_of (map f (take i xs) ++ l ∷ [])) (is ∙ ap f read) ∙ ap array_of (sym (map_more f xs i x within))

module _ {X Y : Type 0} where
  -- one more item of a list that is written item by item
  pub mapped-next : (f : X → Y) (xs : List X) (i : ℕ) (x : X) (y : Y) (old now : List Y) → i < length xs → x ≡ get_or xs i x → now ≡ old ++ y ∷ [] → y ≡ f x
      → old ≡ map f (take i xs) → now ≡ map f (take (i + 1) xs)
  mapped-next f xs i x y old now within read pushed is so_far =
      pushed ∙ ap (λ (l : List Y). l ++ y ∷ []) so_far ∙ ap (λ (z : Y). map f (take i xs) ++ z ∷ []) (is ∙ ap f read) ∙ sym (map_more f xs i x within)

  -- what comes of a list is written for one item after the other
  module _ (F : List X → List Y) where
    pub left-passed : (x : X) (left rest : List X) (old all : List Y) → left ≡ x ∷ rest → F (x ∷ rest) ≡ F rest → old ++ F left ≡ all → old ++ F rest ≡ all
    left-passed x left rest old all taken is so_far = ap (λ (l : List Y). old ++ l) (sym is) ∙ ap (λ (l : List X). old ++ F l) (sym taken) ∙ so_far

    pub left-added : (x : X) (left rest : List X) (more old now all : List Y) → left ≡ x ∷ rest → F (x ∷ rest) ≡ more ++ F rest → now ≡ old ++ more → old ++ F left ≡ all → now ++ F rest ≡ all
    left-added x left rest more old now all taken is pushed so_far =
        ap (λ (l : List Y). l ++ F rest) pushed ∙ append_assoc old more (F rest) ∙ left-passed' ∙ so_far
      where
        left-passed' : old ++ (more ++ F rest) ≡ old ++ F left
        left-passed' = ap (λ (l : List Y). old ++ l) (sym is) ∙ ap (λ (l : List X). old ++ F l) (sym taken)

    pub left-ended : (left : List X) (old all : List Y) → left ≡ [] → F [] ≡ [] → old ++ F left ≡ all → old ≡ all
    left-ended left old all none is so_far =
        sym (append-nil old) ∙ ap (λ (l : List Y). old ++ l) (sym is) ∙ ap (λ (l : List X). old ++ F l) (sym none) ∙ so_far

    pub left-begun : (left xs : List X) (old : List Y) → old ≡ [] → F left ≡ F xs → old ++ F left ≡ F xs
    left-begun left xs old none is = ap (λ (l : List Y). l ++ F left) none ∙ is
