-- A key, a group and a consumer are three words.
use Rattle.std.proofs.Common.{◌≡◌, List, [], ◌∷◌, refl}
use Rattle.sr_args.specs.FormWord.{Word, FormWord, any, Fits}

pub consumer-none : (words : List Word) (a b c : Word) (ps : List FormWord) → Fits words (any a ∷ any b ∷ any c ∷ ps) → ((key group consumer : Word) (rest : List Word) → words ≡ key ∷ group ∷ consumer ∷ rest → ⊥) → ⊥
consumer-none [] a b c ps f none = f
consumer-none (w ∷ []) a b c ps f none = f.1
consumer-none (w ∷ v ∷ []) a b c ps f none = f.1.1
consumer-none (w ∷ v ∷ u ∷ rest) a b c ps f none = none w v u rest refl
