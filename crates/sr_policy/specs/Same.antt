-- Whether two snapshots show the same, as a test: list by list, and name by name.

use Rattle.std.specs.Prelude.{◌≡◌, ◌==◌, ◌&&◌, ℕ, Bool, List, Option, Some, None, nat_eq}
use Rattle.std.specs.Bool.{Decides}
use Rattle.std.specs.Cmp.{IsEquivalence, decided}
use Rattle.std.specs.Cmp.Lexicographic.{pointwise}
use Rattle.std.specs.Option.{option_eq}
use Rattle.std.proofs.Common.{ap, refl}
use Rattle.std.proofs.lemmas.Bool.Decides.{Decides-and, Decides-eqb, Decides-like}
use Rattle.std.proofs.lemmas.Slice.Eq.{bytes_eq-Decides, slice_eq-Decides}
use Rattle.sr_ids.specs.declared.id.Id.{Id}
use Rattle.sr_policy.specs.declared.live.Live.{Live}
use Rattle.sr_policy.specs.declared.stranded.Stranded.{Stranded}
use Rattle.sr_policy.specs.Rules.{Text}
use Rattle.sr_policy.specs.Snapshot.{SnapshotState}

abbrev pub same_text : Text → Text → Bool
same_text a b = pointwise nat_eq a b

abbrev pub same_id : Id → Id → Bool
same_id a b = (a.ms == b.ms) && (a.seq == b.seq)

abbrev pub same_stranded : Stranded → Stranded → Bool
same_stranded a b =
    same_id a.id b.id && (same_text a.owner b.owner && ((a.weight == b.weight) && same_text a.class b.class))

abbrev pub same_tier : ℕ × ℕ → ℕ × ℕ → Bool
same_tier a b = (a.0 == b.0) && (a.1 == b.1)

abbrev pub same_live : Live → Live → Bool
same_live a b =
    same_text a.name b.name
    && ((a.limit == b.limit) && ((a.pending == b.pending) && option_eq same_tier a.tier b.tier))

abbrev pub same_gone : Id × Text → Id × Text → Bool
same_gone a b = same_id a.0 b.0 && same_text a.1 b.1

abbrev pub same_rates : List (Option ℕ) → List (Option ℕ) → Bool
same_rates a b = pointwise (option_eq nat_eq) a b

abbrev pub same_class : Text × List (Option ℕ) → Text × List (Option ℕ) → Bool
same_class a b = same_text a.0 b.0 && same_rates a.1 b.1

abbrev pub same : SnapshotState → SnapshotState → Bool
same a b =
    same_text a.key b.key
    && (same_text a.group b.group
    && (pointwise same_text a.dead b.dead
    && (pointwise same_stranded a.stranded b.stranded
    && (pointwise same_gone a.gone b.gone
    && (pointwise same_live a.live b.live
    && pointwise same_class a.rates b.rates)))))

-- The test is true exactly if both sides are equal. The proofs are here because the laws of `==` in src/equal.rt name
-- them, and may name nothing of proofs/.

option_decides :
    {T : Type 0} {E : T → T → Bool} → ((a b : T) → Decides (E a b) (a ≡ b))
    → (a b : Option T) → Decides (option_eq E a b) (a ≡ b)
option_decides each None None = (λ e. refl, λ e. refl)
option_decides each (Some x) (Some y) = (λ e. ap Some ((each x y).0 e), λ e. (each x y).1 (cc))
option_decides each a b = (λ e. cc, λ e. cc)

pub rates_decide : (a b : List (Option ℕ)) → Decides (same_rates a b) (a ≡ b)
rates_decide a b = slice_eq-Decides (option_decides Decides-eqb) a b (same_rates a b) refl

id_decides : (a b : Id) → Decides (same_id a b) (a ≡ b)
id_decides a b =
    Decides-like _ (λ p i. record { ms = p.0 i; seq = p.1 i })
    (λ e. (ap (λ (x : Id). x.ms) e, ap (λ (x : Id). x.seq) e))
    (Decides-and _ _ (Decides-eqb a.ms b.ms) (Decides-eqb a.seq b.seq))

stranded_decides : (a b : Stranded) → Decides (same_stranded a b) (a ≡ b)
stranded_decides a b =
    Decides-like _ (λ p i. record { id = p.0 i; owner = p.1.0 i; weight = p.1.1.0 i; class = p.1.1.1 i })
    (λ e. (
      ap (λ (x : Stranded). x.id) e,
      (ap (λ (x : Stranded). x.owner) e, (ap (λ (x : Stranded). x.weight) e, ap (λ (x : Stranded). x.class) e)),
    ))
    (Decides-and _ _ (id_decides a.id b.id)
    (Decides-and _ _ (bytes_eq-Decides a.owner b.owner)
    (Decides-and _ _ (Decides-eqb a.weight b.weight) (bytes_eq-Decides a.class b.class))))

tier_decides : (a b : ℕ × ℕ) → Decides (same_tier a b) (a ≡ b)
tier_decides a b =
    Decides-like _ (λ p i. (p.0 i, p.1 i)) (λ e. (ap (λ (x : ℕ × ℕ). x.0) e, ap (λ (x : ℕ × ℕ). x.1) e))
    (Decides-and _ _ (Decides-eqb a.0 b.0) (Decides-eqb a.1 b.1))

live_decides : (a b : Live) → Decides (same_live a b) (a ≡ b)
live_decides a b =
    Decides-like _ (λ p i. record { name = p.0 i; limit = p.1.0 i; pending = p.1.1.0 i; tier = p.1.1.1 i })
    (λ e. (
      ap (λ (x : Live). x.name) e,
      (ap (λ (x : Live). x.limit) e, (ap (λ (x : Live). x.pending) e, ap (λ (x : Live). x.tier) e)),
    ))
    (Decides-and _ _ (bytes_eq-Decides a.name b.name)
    (Decides-and _ _ (Decides-eqb a.limit b.limit)
    (Decides-and _ _ (Decides-eqb a.pending b.pending) (option_decides tier_decides a.tier b.tier))))

gone_decides : (a b : Id × Text) → Decides (same_gone a b) (a ≡ b)
gone_decides a b =
    Decides-like _ (λ p i. (p.0 i, p.1 i)) (λ e. (ap (λ (x : Id × Text). x.0) e, ap (λ (x : Id × Text). x.1) e))
    (Decides-and _ _ (id_decides a.0 b.0) (bytes_eq-Decides a.1 b.1))

class_decides : (a b : Text × List (Option ℕ)) → Decides (same_class a b) (a ≡ b)
class_decides a b =
    Decides-like _ (λ p i. (p.0 i, p.1 i))
    (λ e. (ap (λ (x : Text × List (Option ℕ)). x.0) e, ap (λ (x : Text × List (Option ℕ)). x.1) e))
    (Decides-and _ _ (bytes_eq-Decides a.0 b.0) (rates_decide a.1 b.1))

pub same_decides : (a b : SnapshotState) → Decides (same a b) (a ≡ b)
same_decides a b =
    Decides-like _
    (λ p i. record {
      key = p.0 i;
      group = p.1.0 i;
      dead = p.1.1.0 i;
      stranded = p.1.1.1.0 i;
      gone = p.1.1.1.1.0 i;
      live = p.1.1.1.1.1.0 i;
      rates = p.1.1.1.1.1.1 i;
    })
    (λ e. (
      ap (λ (x : SnapshotState). x.key) e,
      (
        ap (λ (x : SnapshotState). x.group) e,
        (
          ap (λ (x : SnapshotState). x.dead) e,
          (
            ap (λ (x : SnapshotState). x.stranded) e,
            (
              ap (λ (x : SnapshotState). x.gone) e,
              (ap (λ (x : SnapshotState). x.live) e, ap (λ (x : SnapshotState). x.rates) e),
            ),
          ),
        ),
      ),
    ))
    (Decides-and _ _ (bytes_eq-Decides a.key b.key)
    (Decides-and _ _ (bytes_eq-Decides a.group b.group)
    (Decides-and _ _ (slice_eq-Decides bytes_eq-Decides a.dead b.dead _ refl)
    (Decides-and _ _ (slice_eq-Decides stranded_decides a.stranded b.stranded _ refl)
    (Decides-and _ _ (slice_eq-Decides gone_decides a.gone b.gone _ refl)
    (Decides-and _ _ (slice_eq-Decides live_decides a.live b.live _ refl)
    (slice_eq-Decides class_decides a.rates b.rates _ refl)))))))

pub same_is_equivalence : IsEquivalence same
same_is_equivalence = decided same same_decides
