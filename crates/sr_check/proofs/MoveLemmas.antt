-- The moves of a plan are there in one way.
use Rattle.std.proofs.Common.{◌≡◌, ℕ, ◌^◌, ◌<◌, List, ◌++◌, length, refl, sym, subst}
use Rattle.sr_policy.specs.declared.live.Live.{Live}
use Rattle.sr_policy.specs.declared.stranded.Stranded.{Stranded}
use Rattle.sr_policy.specs.{Text, AreInOrder}
use Rattle.sr_policy.specs.Snapshot.{ComesBefore}
use Rattle.sr_resp.specs.{ReplyParts, Bulk, array_header, bulk_string, reply_text}
use Rattle.sr_resp.specs.steps.Decoding.{HasPart}
use Rattle.sr_check.specs.PlanAnswer.{name_at}
use Rattle.sr_check.specs.PlanReply.{id_answer}
use Rattle.sr_check.specs.steps.Read.{Begins, HasMove}
use Rattle.sr_check.proofs.ReadLemmas.{HasPart-one}
use Rattle.sr_check.proofs.BeginsLemmas.{Begins-append, Begins-rest, Begins-front, Begins-back, Begins-part}
use Rattle.sr_check.proofs.BeginsLemmas.{part-Begins}
use Rattle.sr_check.proofs.AreReadLemmas.{IsOne}
use Rattle.sr_check.proofs.OrderLemmas.{one_consumer}

-- a last bulk string, after the same parts
last_bulk : (text x y : List ℕ) (ps : ReplyParts) (a b : Text) → length a < 2 ^ 64 → length b < 2 ^ 64
    → Begins text (ps ++ bulk_string a) x → Begins text (ps ++ bulk_string b) y → (a ≡ b) × (x ≡ y)
last_bulk text x y ps a b small short first second =
    let between = reply_text (bulk_string a) ++ x in
    let rest = Begins-rest text between y ps (bulk_string b) (Begins-front text x ps (bulk_string a) first) second in
    let same = HasPart-one between (Bulk a) (Bulk b) x y (part-Begins between x (Bulk a) small (Begins-back between x
    (bulk_string a) refl)) (part-Begins between y (Bulk b) short rest) in
    (cc same.0, same.1)

pub HasMove-one : (live : List Live) → AreInOrder (λ a b. ComesBefore a.name b.name) live → IsOne (HasMove live)
HasMove-one live ordered entry text c d x y a b =
    let same = last_bulk text x y (array_header 2 ++ id_answer entry.id) (name_at live c)
    (name_at live d) a.named b.named a.begins b.begins in
    (one_consumer live ordered c d a.is_live b.is_live same.0, same.1)

-- ---- a move is read part by part

-- no header
pub no_move-header : (live : List Live) (entry : Stranded) (text : List ℕ) (c : ℕ) (after : List ℕ) → ((x : List ℕ)
    → Begins text (array_header 2) x → ⊥) → HasMove live entry text c after → ⊥
no_move-header live entry text c after none has =
    none _ (Begins-front text after (array_header 2) (id_answer entry.id ++ bulk_string (name_at live c)) has.begins)

-- after the header, no such id
pub no_move-id : (live : List Live) (entry : Stranded) (text items : List ℕ) (c : ℕ) (after : List ℕ)
    → Begins text (array_header 2) items
    → ((x : List ℕ) → Begins items (id_answer entry.id) x → ⊥) → HasMove live entry text c after → ⊥
no_move-id live entry text items c after header none has =
    let rest = Begins-rest text items after (array_header 2) (id_answer entry.id ++ bulk_string (name_at live c)) header
    has.begins in
    none _ (Begins-front items after (id_answer entry.id) (bulk_string (name_at live c)) rest)

-- after the id, the name
pub move-name : (live : List Live) (entry : Stranded) (text items name : List ℕ) (c : ℕ) (after : List ℕ)
    → Begins text (array_header 2) items → Begins items (id_answer entry.id) name
    → HasMove live entry text c after → HasPart name (Bulk (name_at live c)) after
move-name live entry text items name c after header id has =
    let rest = Begins-rest text items after (array_header 2) (id_answer entry.id ++ bulk_string (name_at live c)) header
    has.begins in
    part-Begins name after (Bulk (name_at live c)) has.named
    (Begins-rest items name after (id_answer entry.id) (bulk_string (name_at live c)) id rest)

pub no_move-name : (live : List Live) (entry : Stranded) (text items name string others : List ℕ)
    (c : ℕ) (after : List ℕ)
    → Begins text (array_header 2) items → Begins items (id_answer entry.id) name
    → HasPart name (Bulk string) others → ((c : ℕ) → c < length live → name_at live c ≡ string → ⊥)
    → HasMove live entry text c after → ⊥
no_move-name live entry text items name string others c after header id is none has =
    let same = HasPart-one name (Bulk (name_at live c)) (Bulk string) after others
    (move-name live entry text items name c after header id has) is in
    none c has.is_live (cc same.0)

pub HasMove-read : (live : List Live) (entry : Stranded) (text items name string after : List ℕ) (c : ℕ)
    → Begins text (array_header 2) items → Begins items (id_answer entry.id) name
    → HasPart name (Bulk string) after → c < length live → name_at live c ≡ string → HasMove live entry text c after
HasMove-read live entry text items name string after c header id is lt named =
    let there : HasPart name (Bulk (name_at live c)) after = subst (λ s. HasPart name (Bulk s) after) (sym named) is in
    let last = Begins-append items name after (id_answer entry.id) (bulk_string (name_at live c)) id
    (Begins-part name after (Bulk (name_at live c)) there) in
    record {
      is_live = lt;
      named = there.fits;
      begins = Begins-append text items after (array_header 2)
          (id_answer entry.id ++ bulk_string (name_at live c)) header last;
    }
