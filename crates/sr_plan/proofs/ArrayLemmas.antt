-- Arrays that are written item by item.
use Rattle.std.proofs.Common.{◌≡◌, ℕ, List, [], ◌∷◌, ◌++◌, length, map, refl, ap, sym, ◌∙◌, arith, append_assoc}
use Rattle.std.proofs.Common.{append-nil}
use Rattle.std.specs.List.{flat_map}
use Rattle.sr_resp.specs.{ReplyParts, array_header, array_of}
use Rattle.sr_resp.specs.Reply.{Part, Array}

-- a header and the items of a list after it are their array
pub array_of-map : {X : Type 0} (f : X → ReplyParts) (xs : List X)
    → array_header (length xs) ++ flat_map f xs ≡ array_of (map f xs)
array_of-map f xs = ap (λ (n : ℕ). Array n ∷ flat_map f xs) (sym (count xs))
    ∙ ap (λ (l : List Part). Array (length (map f xs)) ∷ l) (sym (parts xs))
  where
    count : (xs : List _) → length (map f xs) ≡ length xs
    count [] = refl
    count (x ∷ xs) = omega (arith, count xs)

    parts : (xs : List _) → flat_map (λ (item : ReplyParts). item) (map f xs) ≡ flat_map f xs
    parts [] = refl
    parts (x ∷ xs) = ap (λ (l : List Part). f x ++ l) (parts xs)

-- with nothing left to write, the draft is the array
pub map-written : {X : Type 0} (f : X → ReplyParts) (xs left : List X) (draft : List Part) → left ≡ []
    → draft ++ flat_map f left ≡ array_header (length xs) ++ flat_map f xs
    → draft ≡ array_of (map f xs)
map-written {X} f xs left draft none e =
    sym (append-nil draft) ∙ ap (λ (l : List X). draft ++ flat_map f l) (sym none) ∙ e ∙ array_of-map f xs

-- the reply is an array of which these items are still to come, of all
pub record HasLeft (reply : ReplyParts) (left all : List ReplyParts) : Type 0 where
  pub items : List ReplyParts
  pub is : reply ≡ array_of items
  pub whole : items ++ left ≡ all

-- the next items are added
pub left-after : (reply now : ReplyParts) (more left all : List ReplyParts) → HasLeft reply (more ++ left) all
    → ((items : List ReplyParts) → reply ≡ array_of items → now ≡ array_of (items ++ more)) → HasLeft now left all
left-after reply now more left all has added = record {
  items = has.items ++ more;
  is = added has.items has.is;
  whole = append_assoc has.items more left ∙ has.whole;
}

-- and in the end none is left
pub left-none : (reply : ReplyParts) (left all : List ReplyParts) → HasLeft reply left all → left ≡ [] → reply ≡ array_of all
left-none reply left all has none =
    has.is ∙ ap array_of (sym (append-nil has.items) ∙ ap (λ (l : List ReplyParts). has.items ++ l) (sym none) ∙ has.whole)
