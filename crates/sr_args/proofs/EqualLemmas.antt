-- The tests of ids, positions and streams are true exactly where both sides are equal.

use Rattle.std.specs.Prelude.{◌≡◌, ◌==◌, ◌&&◌, ℕ, Bool, List, nat_eq}
use Rattle.std.specs.Bool.{Decides}
use Rattle.std.specs.Cmp.Lexicographic.{pointwise}
use Rattle.std.proofs.Common.{ap, refl}
use Rattle.std.proofs.lemmas.Bool.Decides.{Decides-and, Decides-eqb, Decides-like}
use Rattle.std.proofs.lemmas.Slice.Eq.{bytes_eq-Decides}
use Rattle.sr_ids.specs.declared.id.Id.{Id}
use Rattle.sr_args.specs.declared.call.Position.{Position}
use Rattle.sr_args.specs.declared.call.Position.TheVariants.{Last, At}
use Rattle.sr_args.specs.declared.reads.ReadAsked.{ReadAsked}
use Rattle.sr_args.specs.declared.reads.ReadAsked.TheVariants.{New, PendingAfter}
use Rattle.sr_args.specs.contracts.call.PositionPartialEq.TheImpl as positions
use Rattle.sr_args.specs.contracts.reads.ReadAskedPartialEq.TheImpl as reads

abbrev same_id : Id → Id → Bool
same_id a b = (a.ms == b.ms) && (a.seq == b.seq)

pub id_decides : (a b : Id) → Decides (same_id a b) (a ≡ b)
id_decides a b =
    Decides-like _ (λ p i. record { ms = p.0 i; seq = p.1 i }) (λ e. (ap (λ (x : Id). x.ms) e, ap (λ (x : Id). x.seq) e))
    (Decides-and _ _ (Decides-eqb a.ms b.ms) (Decides-eqb a.seq b.seq))

position_decides : (a b : Position) → Decides (positions.ghosts.eq a b) (a ≡ b)
position_decides Last Last = (λ e. refl, λ e. refl)
position_decides (At x) (At y) = (λ e. ap At ((id_decides x y).0 e), λ e. (id_decides x y).1 (cc))
position_decides a b = (λ e. cc, λ e. cc)

asked_decides : (a b : ReadAsked) → Decides (reads.ghosts.eq a b) (a ≡ b)
asked_decides New New = (λ e. refl, λ e. refl)
asked_decides (PendingAfter x) (PendingAfter y) = (λ e. ap PendingAfter ((id_decides x y).0 e), λ e. (id_decides x y).1 (cc))
asked_decides a b = (λ e. cc, λ e. cc)

pub stream_decides : (a b : List ℕ × Position) → Decides (pointwise nat_eq a.0 b.0 && positions.ghosts.eq a.1 b.1) (a ≡ b)
stream_decides a b =
    Decides-like _ (λ p i. (p.0 i, p.1 i)) (λ e. (ap (λ (x : List ℕ × Position). x.0) e, ap (λ (x : List ℕ × Position). x.1) e))
    (Decides-and _ _ (bytes_eq-Decides a.0 b.0) (position_decides a.1 b.1))

pub read_decides : (a b : List ℕ × ReadAsked) → Decides (pointwise nat_eq a.0 b.0 && reads.ghosts.eq a.1 b.1) (a ≡ b)
read_decides a b =
    Decides-like _ (λ p i. (p.0 i, p.1 i)) (λ e. (ap (λ (x : List ℕ × ReadAsked). x.0) e, ap (λ (x : List ℕ × ReadAsked). x.1) e))
    (Decides-and _ _ (bytes_eq-Decides a.0 b.0) (asked_decides a.1 b.1))
