-- What keys have, one after another: it is there in one way, and stops at a key that has nothing.
use Rattle.std.proofs.Common.{◌≡◌, ℕ, ◌+◌, ◌<◌, ◌≤◌, List, [], ◌∷◌, ◌++◌, length, get_or, take, drop, refl, sym, ap}
use Rattle.std.proofs.Common.{◌∙◌, subst, arith}
use Rattle.std.proofs.lemmas.List.{take_more, take_all, take-append-drop, drop_more}
use Rattle.sr_resp.specs.{array_header}
use Rattle.sr_check.specs.steps.Read.{AreRead, Begins, HasArray}
use Rattle.sr_check.proofs.BeginsLemmas.{Begins-one}

-- a key has one value at a text
abbrev pub IsOne : {K V : Type 0} → (K → List ℕ → V → List ℕ → Type 0) → Type 0
IsOne {K} {V} Has =
    (key : K) (text : List ℕ) (v w : V) (x y : List ℕ) → Has key text v x → Has key text w y → (v ≡ w) × (x ≡ y)

pub AreRead-one : {K V : Type 0} (Has : K → List ℕ → V → List ℕ → Type 0) → IsOne Has
    → (keys : List K) (text : List ℕ) (vs ws : List V) (x y : List ℕ)
    → AreRead Has keys text vs x → AreRead Has keys text ws y → (vs ≡ ws) × (x ≡ y)
AreRead-one Has one [] text [] [] x y a b = (refl, sym a ∙ b)
AreRead-one Has one [] text [] (w ∷ ws) x y a b = absurd b
AreRead-one Has one [] text (v ∷ vs) ws x y a b = absurd a
AreRead-one Has one (key ∷ keys) text [] ws x y a b = absurd a
AreRead-one Has one (key ∷ keys) text (v ∷ vs) [] x y a b = absurd b
AreRead-one Has one (key ∷ keys) text (v ∷ vs) (w ∷ ws) x y (between, first, others) (there, second, more) =
    let same = one key text v w between there first second in
    let moved = subst (λ t. AreRead Has keys t ws y) (sym same.1) more in
    let rest = AreRead-one Has one keys between vs ws x y others moved in
    (cc (same.0, rest.0), rest.1)

-- one key more
pub AreRead-push : {K V : Type 0} (Has : K → List ℕ → V → List ℕ
    → Type 0) (keys : List K) (text : List ℕ) (vs : List V) (between after : List ℕ) (key : K) (v : V)
    → AreRead Has keys text vs between → Has key between v after
    → AreRead Has (keys ++ key ∷ []) text (vs ++ v ∷ []) after
AreRead-push Has [] text [] between after key v a has = (after, subst (λ t. Has key t v after) (sym a) has, refl)
AreRead-push Has [] text (w ∷ vs) between after key v a has = absurd a
AreRead-push Has (k ∷ keys) text [] between after key v a has = absurd a
AreRead-push Has (k ∷ keys) text (w ∷ vs) between after key v (there, first, others) has =
    (there, first, AreRead-push Has keys there vs between after key v others has)

-- a key that has nothing
stuck : {K V : Type 0} (Has : K → List ℕ → V → List ℕ → Type 0) → IsOne Has
    → (done others : List K) (key : K) (text : List ℕ) (vs ws : List V) (left y : List ℕ)
    → AreRead Has done text vs left → ((v : V) (x : List ℕ) → Has key left v x → ⊥)
    → AreRead Has (done ++ key ∷ others) text ws y → ⊥
stuck Has one [] others key text (v ∷ vs) ws left y a none b = absurd a
stuck Has one [] others key text [] [] left y a none b = absurd b
stuck Has one [] others key text [] (w ∷ ws) left y a none (there, first, more) =
    none w there (subst (λ t. Has key t w there) a first)
stuck Has one (k ∷ done) others key text [] ws left y a none b = absurd a
stuck Has one (k ∷ done) others key text (v ∷ vs) [] left y a none b = absurd b
stuck Has one (k ∷ done) others key text (v ∷ vs) (w ∷ ws) left y (between, first, rest) none (there, second, more) =
    let same = one k text v w between there first second in
    stuck Has one done others key between vs ws left y rest none
    (subst (λ t. AreRead Has (done ++ key ∷ others) t ws y) (sym same.1) more)

-- in a loop over the keys
pub AreRead-start : {K V : Type 0} (Has : K → List ℕ → V → List ℕ → Type 0) (text : List ℕ)
    → AreRead Has [] text [] text
AreRead-start Has text = refl

pub AreRead-more : {K V : Type 0} (Has : K → List ℕ → V → List ℕ
    → Type 0) (keys : List K) (i : ℕ) (text : List ℕ) (vs : List V) (between after : List ℕ) (key : K) (v : V)
    → i < length keys → key ≡ get_or keys i key → AreRead Has (take i keys) text vs between → Has key between v after
    → AreRead Has (take (i + 1) keys) text (vs ++ v ∷ []) after
AreRead-more Has keys i text vs between after key v lt is a has =
    let grown : take (i + 1) keys ≡ take i keys ++ key ∷ [] =
    take_more keys i key lt ∙ ap (λ k. take i keys ++ k ∷ []) (sym is) in
    subst (λ ks. AreRead Has ks text (vs ++ v ∷ []) after) (sym grown)
    (AreRead-push Has (take i keys) text vs between after key v a has)

pub AreRead-all : {K V : Type 0} (Has : K → List ℕ → V → List ℕ
    → Type 0) (keys : List K) (i : ℕ) (text : List ℕ) (vs : List V) (after : List ℕ)
    → length keys ≤ i → AreRead Has (take i keys) text vs after → AreRead Has keys text vs after
AreRead-all Has keys i text vs after past a = subst (λ ks. AreRead Has ks text vs after) (take_all i keys past) a

pub AreRead-stuck : {K V : Type 0} (Has : K → List ℕ → V → List ℕ → Type 0) → IsOne Has
    → (keys : List K) (i : ℕ) (key : K) (text : List ℕ) (vs ws : List V) (left y : List ℕ)
    → i < length keys → key ≡ get_or keys i key → AreRead Has (take i keys) text vs left → ((v : V) (x : List ℕ)
    → Has key left v x → ⊥) → AreRead Has keys text ws y → ⊥
AreRead-stuck Has one keys i key text vs ws left y lt is a none b =
    let next : drop i keys ≡ key ∷ drop (i + 1) keys =
    drop_more keys i key lt ∙ ap (λ k. k ∷ drop (i + 1) keys) (sym is) in
    let split : keys ≡ take i keys ++ key ∷ drop (i + 1) keys =
    sym (take-append-drop i keys) ∙ ap (λ ks. take i keys ++ ks) next in
    stuck Has one (take i keys) (drop (i + 1) keys) key text vs ws left y a none
    (subst (λ ks. AreRead Has ks text ws y) split b)

-- and in an array
pub HasArray-one : {K V : Type 0} (Has : K → List ℕ → V → List ℕ → Type 0) → IsOne Has
    → (keys : List K) (text : List ℕ) (vs ws : List V) (x y : List ℕ)
    → HasArray Has keys text vs x → HasArray Has keys text ws y → (vs ≡ ws) × (x ≡ y)
HasArray-one Has one keys text vs ws x y a b =
    let same : a.items ≡ b.items = Begins-one text a.items b.items (array_header (length keys)) a.header b.header in
    AreRead-one Has one keys a.items vs ws x y a.read (subst (λ t. AreRead Has keys t ws y) (sym same) b.read)

pub HasArray-stuck : {K V : Type 0} (Has : K → List ℕ → V → List ℕ → Type 0) → IsOne Has
    → (keys : List K) (i : ℕ) (key : K) (text start : List ℕ) (vs ws : List V) (left y : List ℕ)
    → Begins text (array_header (length keys)) start → i < length keys → key ≡ get_or keys i key
    → AreRead Has (take i keys) start vs left → ((v : V) (x : List ℕ) → Has key left v x → ⊥)
    → HasArray Has keys text ws y → ⊥
HasArray-stuck Has one keys i key text start vs ws left y header lt is a none b =
    let same : start ≡ b.items = Begins-one text start b.items (array_header (length keys)) header b.header in
    AreRead-stuck Has one keys i key start vs ws left y lt is a none
    (subst (λ t. AreRead Has keys t ws y) (sym same) b.read)

pub AreRead-length : {K V : Type 0} (Has : K → List ℕ → V → List ℕ
    → Type 0) (keys : List K) (text : List ℕ) (vs : List V) (after : List ℕ) → AreRead Has keys text vs after
    → length vs ≡ length keys
AreRead-length Has [] text [] after a = refl
AreRead-length Has [] text (v ∷ vs) after a = absurd a
AreRead-length Has (key ∷ keys) text [] after a = absurd a
AreRead-length Has (key ∷ keys) text (v ∷ vs) after (between, first, others) = let e =
    AreRead-length Has keys between vs after
    others in omega arith
