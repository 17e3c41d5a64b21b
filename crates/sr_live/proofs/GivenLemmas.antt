-- What a plan gives each consumer, by its moves and by its assignment, and what the free places are worth by either.
use Rattle.std.proofs.Common.{◌≡◌, ℕ, zero, suc, ◌+◌, ◌-◌, ◌*◌, ◌<◌, min, Bool, true, false, List, [], ◌∷◌, length}
use Rattle.std.proofs.Common.{cond, map, drop, take, get_or, Option, Some, None, is_some, All, refl, sym, ap, ◌∙◌, arith}
use Rattle.std.proofs.Common.{eq-eqb, eqb-true, get_or-take, mul-zero}
use Rattle.std.specs.Prelude.{if◌then◌else◌, ◌==◌, nat_eq, count_by, filter}
use Rattle.std.specs.Cmp.Lexicographic.{pointwise, same_text}
use Rattle.std.specs.List.{zip}
use Rattle.std.proofs.lemmas.Cmp.{nat_list_eq_equiv}
use Rattle.std.proofs.lemmas.List.{length-map}
use Rattle.std.proofs.lemmas.List.Elements.{All-head, All-tail}
use Rattle.std.proofs.lemmas.List.Sums.{length-filter, sum_by-cons}
use Rattle.sr_ids.specs.declared.id.Id.{Id}
use Rattle.sr_transport.specs.Assignment.{load}
use Rattle.sr_check.specs.PlanAnswer.{moves_of, name_at, prices_by}
use Rattle.sr_check.proofs.OrderLemmas.{one_consumer}
use Rattle.sr_policy.specs.declared.live.Live.{Live}
use Rattle.sr_policy.specs.declared.stranded.Stranded.{Stranded}
use Rattle.sr_policy.specs.{AreInOrder, Text, SnapshotState, tier_count}
use Rattle.sr_policy.specs.Snapshot.{ComesBefore}
use Rattle.sr_live.specs.Bounds.{gap_at, gap_from}
use Rattle.sr_live.specs.Spare.{after_acks, spared, spared_tier, with_spare, worth_of}
use Rattle.sr_live.specs.Words.{ids_to}

-- ---- how many entries a consumer gets

module _ {X : Type 0} (p : X → Bool) (x : X) (xs : List X) where
  abbrev counts : X → ℕ
  counts y = cond (p y) 1 0

  count-yes : p x ≡ true → count_by p (x ∷ xs) ≡ suc (count_by p xs)
  count-yes is =
      let own : counts x ≡ 1 = ap (λ (test : Bool). cond test (suc zero) zero) is in
      omega (arith, sum_by-cons counts x xs, own)

  count-no : p x ≡ false → count_by p (x ∷ xs) ≡ count_by p xs
  count-no is =
      let own : counts x ≡ 0 = ap (λ (test : Bool). cond test (suc zero) zero) is in
      omega (arith, sum_by-cons counts x xs, own)

module _ (live : List Live) (order : AreInOrder (λ a b. ComesBefore a.name b.name) live) (c : ℕ) (here : c < length live)
  where
    -- the move is to consumer c
    abbrev is_own : Id × Text → Bool
    is_own move = pointwise nat_eq (name_at live c) move.1

    same-name : (a : ℕ) → a < length live → pointwise nat_eq (name_at live c) (name_at live a) ≡ (a == c)
    same-name a there = by (pointwise nat_eq (name_at live c) (name_at live a)) refl
      where
        by : (test : Bool) → test ≡ pointwise nat_eq (name_at live c) (name_at live a) → test ≡ (a == c)
        by true e =
            sym (eq-eqb a c (sym (one_consumer live order c a here there (same_text (name_at live c) (name_at live a) e))))
        by false e = other (a == c) refl
          where
            other : (test : Bool) → (a == c) ≡ test → false ≡ test
            other false same = refl
            other true same =
                let names = ap (λ n. pointwise nat_eq (name_at live c) (name_at live n)) (eqb-true a c same) in
                let itself = nat_list_eq_equiv.refl (name_at live c) in
                absurd (cc (e, names, itself))

    -- one more entry, which goes to consumer a
    counted-more : (id : Id) (a : ℕ) (moves : List (Id × Text)) (assign : List ℕ) → a < length live
        → count_by is_own moves ≡ load assign c
        → count_by is_own ((id, name_at live a) ∷ moves) ≡ load (a ∷ assign) c
    counted-more id a moves assign there rest = by (a == c) refl
      where
        by : (own : Bool) → (a == c) ≡ own
            → count_by is_own ((id, name_at live a) ∷ moves) ≡ load (a ∷ assign) c
        by true e =
            count-yes is_own (id, name_at live a) moves (same-name a there ∙ e) ∙ ap (λ n. suc n) rest
            ∙ sym (count-yes (λ n. n == c) a assign e)
        by false e =
            count-no is_own (id, name_at live a) moves (same-name a there ∙ e) ∙ rest
            ∙ sym (count-no (λ n. n == c) a assign e)

    counted : (ids : List Id) (assign : List ℕ) → length ids ≡ length assign → All (λ a. a < length live) assign
        → count_by is_own (zip ids (map (name_at live) assign)) ≡ load assign c
    counted [] [] same within = refl
    counted [] (a ∷ assign) same within = absurd (omega (arith, same))
    counted (id ∷ ids) [] same within = absurd (omega (arith, same))
    counted (id ∷ ids) (a ∷ assign) same within =
        counted-more id a (zip ids (map (name_at live) assign)) assign (All-head (λ n. n < length live) a assign within)
        (counted ids assign (omega (arith, same)) (All-tail (λ n. n < length live) a assign within))

    pub given-count : (ids : List Id) (assign : List ℕ) → length ids ≡ length assign → All (λ a. a < length live) assign
        → length (ids_to (zip ids (map (name_at live) assign)) (name_at live c)) ≡ load assign c
    given-count ids assign same within =
        let moves = zip ids (map (name_at live) assign) in
        length-map (filter is_own moves) (λ (move : Id × Text). move.0) ∙ length-filter is_own moves
        ∙ counted ids assign same within

-- ---- what the free places are worth

-- what the free places of a consumer on these terms are worth
abbrev worth_at : ℕ → List ℕ → ℕ → ℕ → Option (ℕ × ℕ) → ℕ
worth_at given prices limit pending tier =
    gap_at given prices (record { name = []; limit = limit; pending = pending; tier = tier })

own-prices : (given : ℕ) (prices : List ℕ) (limit pending : ℕ) (tier : Option (ℕ × ℕ))
    → worth_at given (take (if is_some tier then 2 else 1) prices) limit pending tier
    ≡ worth_at given prices limit pending tier
own-prices given prices limit pending None =
    let first = ap (λ n. n * (limit - pending - min given (limit - pending))) (get_or-take 1 prices 0 0 (omega arith)) in
    let none : limit - pending - (limit - pending) - (given - min given (limit - pending)) ≡ 0 = omega arith in
    let left = ap (λ n. get_or (take 1 prices) 1 0 * n) none ∙ mul-zero (get_or (take 1 prices) 1 0) in
    let right = ap (λ n. get_or prices 1 0 * n) none ∙ mul-zero (get_or prices 1 0) in
    omega (arith, first, left, right)
own-prices given prices limit pending (Some tier) =
    let free = tier.0 - pending in
    let first = ap (λ n. n * (free - min given free)) (get_or-take 2 prices 0 0 (omega arith)) in
    let second = ap (λ n. n * (limit - pending - free - (given - min given free)))
    (get_or-take 2 prices 1 0 (omega arith)) in
    omega (arith, first, second)

worth-from : (acks : ℕ) (moves : List (Id × Text)) (assign : List ℕ) (c : ℕ) (live : List Live) (prices : List ℕ)
    → ((i : ℕ) (d : Live) → i < length live → length (ids_to moves (get_or live i d).name) ≡ load assign (c + i))
    → worth_of acks moves live (prices_by live prices) ≡ gap_from assign c prices (map (after_acks acks) live)
worth-from acks moves assign c [] prices each = refl
worth-from acks moves assign c (x ∷ live) prices each =
    let e : c + 0 ≡ c = omega arith in
    let rest = worth_of acks moves live (prices_by live (drop (tier_count x) prices)) in
    let given : length (ids_to moves x.name) ≡ load assign c = each 0 x (omega arith) ∙ ap (load assign) e in
    let later = worth-from acks moves assign (c + 1) live (drop (tier_count x) prices) (λ i d lt.
    let step : c + suc i ≡ c + 1 + i = omega arith in
    each (suc i) d (omega arith) ∙ ap (load assign) step) in
    ap (λ n. gap_at n (take (tier_count x) prices) (after_acks acks x) + rest) given
    ∙ ap (λ n. n + rest) (own-prices (load assign c) prices x.limit (x.pending - acks) x.tier)
    ∙ ap (λ n. gap_at (load assign c) prices (after_acks acks x) + n) later

some-spared : (limit : ℕ) (tier : Option (ℕ × ℕ)) → is_some (spared_tier limit tier) ≡ is_some tier
some-spared limit None = refl
some-spared limit (Some tier) = refl

prices-spared : (n : ℕ) (live : List Live) (prices : List ℕ) → prices_by (map (spared n) live) prices ≡ prices_by live prices
prices-spared n [] prices = refl
prices-spared n (x ∷ live) prices =
    let count : tier_count (spared n x) ≡ tier_count x =
    ap (λ (some : Bool). if some then 2 else 1) (some-spared (x.limit - n) x.tier) in
    ap (λ k. (x.name, take k prices) ∷ prices_by (map (spared n) live) (drop k prices)) count
    ∙ ap (λ (rest : List (Text × List ℕ)). (x.name, take (tier_count x) prices) ∷ rest)
    (prices-spared n live (drop (tier_count x) prices))

name-spared : (n : ℕ) (live : List Live) (c : ℕ) (d : Live) → c < length live
    → name_at (map (spared n) live) c ≡ (get_or live c d).name
name-spared n [] c d lt = absurd (omega arith)
name-spared n (x ∷ live) zero d lt = refl
name-spared n (x ∷ live) (suc c) d lt = name-spared n live c d (omega arith)

-- by the moves of a plan within lower limits the free places are worth what they are by its assignment
pub worth-gap : (n acks : ℕ) (s : SnapshotState) (assign prices : List ℕ)
    → AreInOrder (λ a b. ComesBefore a.name b.name) (map (spared n) s.live) → length assign ≡ length s.stranded
    → All (λ a. a < length s.live) assign
    → worth_of acks (moves_of (with_spare n s) assign) s.live (prices_by (map (spared n) s.live) prices)
    ≡ gap_from assign 0 prices (map (after_acks acks) s.live)
worth-gap n acks s assign prices order every within =
    let lower = map (spared n) s.live in
    let moves = moves_of (with_spare n s) assign in
    let ids = map (λ (entry : Stranded). entry.id) s.stranded in
    let count : length lower ≡ length s.live = length-map s.live (spared n) in
    let same : length ids ≡ length assign = omega (arith, every, length-map s.stranded (λ (entry : Stranded). entry.id)) in
    ap (worth_of acks moves s.live) (prices-spared n s.live prices)
    ∙ worth-from acks moves assign 0 s.live prices (λ i d lt.
    let e : i ≡ 0 + i = omega arith in
    ap (λ (name : Text). length (ids_to moves name)) (sym (name-spared n s.live i d lt))
    ∙ given-count lower order i (omega (arith, lt, count)) ids assign same (λ k z less. omega (arith, count, within k z less))
    ∙ ap (load assign) e)
