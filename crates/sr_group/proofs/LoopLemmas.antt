-- What a loop's pushes make, one item after the other.
use Rattle.std.proofs.Common.{◌≡◌, ℕ, ◌+◌, ◌<◌, List, [], ◌∷◌, ◌++◌, length, get_or, map, take, ap, sym, ◌∙◌, append-nil, append_assoc, arith}
use Rattle.std.proofs.lemmas.List.{take_more}

-- one more item comes from what is left of a list
pub mapped-next : {A B : Type 0} (f : A → B) (item : A) (pushed : B) (left rest all : List A) (old new : List B)
    → left ≡ item ∷ rest → pushed ≡ f item → new ≡ old ++ pushed ∷ [] → old ++ map f left ≡ map f all → new ++ map f rest ≡ map f all
mapped-next f item pushed left rest all old new taken is more so_far =
    ap (λ l. l ++ map f rest) more
    ∙ append_assoc old (pushed ∷ []) (map f rest)
    ∙ ap (λ one. old ++ one ∷ map f rest) is
    ∙ ap (λ l. old ++ map f l) (sym taken)
    ∙ so_far

pub mapped-end : {A B : Type 0} (f : A → B) (left all : List A) (old : List B) → left ≡ [] → old ++ map f left ≡ map f all → old ≡ map f all
mapped-end f left all old none so_far = sym (append-nil old) ∙ ap (λ l. old ++ map f l) (sym none) ∙ so_far

-- one more copy of an item of a list
pub copied-next : {A : Type 0} (xs : List A) (i : ℕ) (item copy : A) (old new : List A)
    → i < length xs → item ≡ get_or xs i item → copy ≡ item → new ≡ old ++ copy ∷ [] → old ≡ take i xs → new ≡ take (i + 1) xs
copied-next xs i item copy old new within read is more so_far =
    more
    ∙ ap (λ l. l ++ copy ∷ []) so_far
    ∙ ap (λ one. take i xs ++ one ∷ []) (is ∙ read)
    ∙ sym (take_more xs i item within)

-- a list is shorter without its first item
pub shorter-next : {A : Type 0} (item : A) (left rest : List A) → left ≡ item ∷ rest → length rest < length left
shorter-next item left rest taken = rw taken (omega arith)
