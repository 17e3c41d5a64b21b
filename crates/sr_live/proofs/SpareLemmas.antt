-- Plans that leave places free: lower limits, and what the free places are worth.
use Rattle.std.proofs.Common.{◌≡◌, ℕ, ◌+◌, ◌-◌, ◌<◌, ◌≤◌, ◌^◌, List, [], ◌∷◌, length, map, get_or, Option, Some, None}
use Rattle.std.proofs.Common.{All, IfSome, refl, sym, ap, subst, arith}
use Rattle.std.proofs.lemmas.List.{length-map}
use Rattle.std.proofs.lemmas.List.Elements.{All-map}
use Rattle.sr_policy.specs.declared.live.Live.{Live}
use Rattle.sr_policy.specs.{AreInOrder, Text, SnapshotState}
use Rattle.sr_policy.specs.Bounds.{most_limit}
use Rattle.sr_policy.specs.Snapshot.{AreRates, ComesBefore, IsSnapshot, IsTier}
use Rattle.sr_policy.proofs.NameLemmas.{by_names, names_in_order}
use Rattle.sr_live.specs.Spare.{in_64_bits, spared, spared_tier, with_spare}

-- ---- lower limits

abbrev name_in : Live → Text
name_in x = x.name

spared-names : (n : ℕ) (live : List Live) → map name_in (map (spared n) live) ≡ map name_in live
spared-names n [] = refl
spared-names n (x ∷ live) = ap (λ (names : List Text). x.name ∷ names) (spared-names n live)

spared-soft : (n limit : ℕ) (tier : Option (ℕ × ℕ)) → IfSome tier (IsTier limit)
    → IfSome (spared_tier (limit - n) tier) (IsTier (limit - n))
spared-soft n limit None is = tt
spared-soft n limit (Some tier) is = record { soft = omega arith; fee = is.fee }

-- with lower limits it is still a snapshot
pub spared-snapshot : (n : ℕ) (s : SnapshotState) → IsSnapshot s → IsSnapshot (with_spare n s)
spared-snapshot n s is =
    let lower = map (spared n) s.live in
    let same : length lower ≡ length s.live = length-map s.live (spared n) in
    record {
      ids = record { stranded = is.ids.stranded; gone = is.ids.gone };
      names = record {
        dead = is.names.dead;
        live = by_names name_in lower (subst (λ (names : List Text). AreInOrder ComesBefore names)
            (sym (spared-names n s.live)) (names_in_order name_in s.live is.names.live));
        rates = is.names.rates;
      };
      owners = record { stranded = is.owners.stranded; gone = is.owners.gone };
      bounds = record {
        few_stranded = is.bounds.few_stranded;
        few_live = omega (arith, same, is.bounds.few_live);
        few_classes = is.bounds.few_classes;
        weights = is.bounds.weights;
        limits = All-map (λ (x : Live). x.limit ≤ most_limit) (spared n) s.live
            (λ i d lt. omega (arith, is.bounds.limits i d lt));
        tiers = All-map (λ (x : Live). IfSome x.tier (IsTier x.limit)) (spared n) s.live
            (λ i d lt. spared-soft n (get_or s.live i d).limit (get_or s.live i d).tier (is.bounds.tiers i d lt));
        rates = subst (λ count. All (λ (class : Text × List (Option ℕ)). AreRates count class.1) s.rates) (sym same)
            is.bounds.rates;
      };
    }

-- ---- what free places are worth

-- nothing is left to add
pub worth-all : (worth rest all : ℕ) → worth < 2 ^ 64 → rest ≡ 0 → in_64_bits (worth + rest) ≡ all → worth ≡ all
worth-all worth rest all fits none is = omega (arith, fits, none, is)
