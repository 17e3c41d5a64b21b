-- Lists in the order of the entries that f gives, while those that pass a test go one by one.
use Rattle.std.proofs.Common.{◌≡◌, Bool, not, List, [], ◌∷◌, map, filter, inl, inr, refl, ap, sym, ◌∙◌}
use Rattle.std.proofs.lemmas.Bool.{cases_Bool}
use Rattle.sr_ids.specs.{IsBelow}
use Rattle.sr_pending.specs.declared.nack.Nack.{Nack}
use Rattle.sr_pending.specs.Pending.{AreAbove, AreRising}
use Rattle.sr_pending.proofs.NackLemmas.{is_same_id-below, is_same_id-refl}
use Rattle.sr_pending.proofs.SearchLemmas.{has_id-above}
use Rattle.sr_pending.proofs.FilterLemmas.{filter-first_no, filter-first_yes}
use Rattle.sr_pending.proofs.PlaceLemmas.{without_id, without_none}

module _ {X : Type 0} (f : X → Nack) where
  -- without its id, the first one goes, and one below it stays
  first_goes : (x : X) (xs : List X) → AreAbove (f x).id (map f xs) → without_id f (f x).id (x ∷ xs) ≡ xs
  first_goes x xs above = rw (is_same_id-refl (f x).id) (without_none f (f x).id xs (has_id-above (f x).id (map f xs) above))

  first_stays : (x y : X) (ys : List X) → IsBelow (f y).id (f x).id → without_id f (f x).id (y ∷ ys) ≡ y ∷ without_id f (f x).id ys
  first_stays x y ys lt = rw (is_same_id-below (f y).id (f x).id lt) refl

  module _ (own : X → Bool) where
    abbrev other : X → Bool
    other x = not (own x)

    -- once none passes, the others are all
    pub others_all : (xs : List X) → filter own xs ≡ [] → filter other xs ≡ xs
    others_all [] none = refl
    others_all (y ∷ ys) none =
        elim (cases_Bool (own y)) [
          | inl e ↦ let both = sym (filter-first_yes own y ys e) ∙ none in cc
          | inr e ↦
              filter-first_yes other y ys (ap not e)
              ∙ ap (λ (l : List X). y ∷ l) (others_all ys (sym (filter-first_no own y ys e) ∙ none))
        ]

    module _ (x : X) (rest : List X) where
      -- what lies below all lies below the first that passes
      below_first : (y : X) (ys : List X) → AreAbove (f y).id (map f ys) → x ∷ rest ≡ filter own ys → IsBelow (f y).id (f x).id
      below_first y [] above is = cc
      below_first y (z ∷ zs) above is =
          elim (cases_Bool (own z)) [
            | inl e ↦
                let both : x ∷ rest ≡ z ∷ filter own zs = is ∙ filter-first_yes own z zs e in
                let first : z ≡ x = cc in
                rw first at above.0
            | inr e ↦ below_first y zs above.1 (is ∙ filter-first_no own z zs e)
          ]

      -- without the first that passes, the rest of them is left, and all others are
      pub rest_left : (xs : List X) → AreRising (map f xs) → x ∷ rest ≡ filter own xs → filter own (without_id f (f x).id xs) ≡ rest
      rest_left [] rising is = cc
      rest_left (y ∷ ys) rising is =
          elim (cases_Bool (own y)) [
            | inl e ↦
                let both : x ∷ rest ≡ y ∷ filter own ys = is ∙ filter-first_yes own y ys e in
                let first : y ≡ x = cc in
                let left : filter own ys ≡ rest = cc in
                ap (λ (z : X). filter own (without_id f (f z).id (y ∷ ys))) (sym first)
                ∙ ap (filter own) (first_goes y ys rising.0)
                ∙ left
            | inr e ↦
                let behind : x ∷ rest ≡ filter own ys = is ∙ filter-first_no own y ys e in
                ap (filter own) (first_stays x y ys (below_first y ys rising.0 behind))
                ∙ filter-first_no own y (without_id f (f x).id ys) e
                ∙ rest_left ys rising.1 behind
          ]

      pub others_left : (xs : List X) → AreRising (map f xs) → x ∷ rest ≡ filter own xs → filter other (without_id f (f x).id xs) ≡ filter other xs
      others_left [] rising is = cc
      others_left (y ∷ ys) rising is =
          elim (cases_Bool (own y)) [
            | inl e ↦
                let both : x ∷ rest ≡ y ∷ filter own ys = is ∙ filter-first_yes own y ys e in
                let first : y ≡ x = cc in
                ap (λ (z : X). filter other (without_id f (f z).id (y ∷ ys))) (sym first)
                ∙ ap (filter other) (first_goes y ys rising.0)
                ∙ sym (filter-first_no other y ys (ap not e))
            | inr e ↦
                let behind : x ∷ rest ≡ filter own ys = is ∙ filter-first_no own y ys e in
                ap (filter other) (first_stays x y ys (below_first y ys rising.0 behind))
                ∙ filter-first_yes other y (without_id f (f x).id ys) (ap not e)
                ∙ ap (λ (l : List X). y ∷ l) (others_left ys rising.1 behind)
                ∙ sym (filter-first_yes other y ys (ap not e))
          ]
