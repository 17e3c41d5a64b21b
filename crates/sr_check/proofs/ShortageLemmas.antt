-- A shortage's text: what is read of it, and what it spells.
use Rattle.std.proofs.Common.{◌≡◌, ℕ, ◌^◌, ◌<◌, ◌≤◌, pos, Bool, true, false, List, [], ◌∷◌, ◌++◌, codes, length, map}
use Rattle.std.proofs.Common.{refl, sym, ap, ◌∙◌, subst, arith}
use Rattle.std.specs.List.{All}
use Rattle.std.proofs.lemmas.List.{append-nil, length-map, length-append}
use Rattle.sr_transport.specs.Certificate.{IsShortage, places_of}
use Rattle.sr_transport.specs.{Tiered}
use Rattle.sr_policy.specs.declared.live.Live.{Live}
use Rattle.sr_policy.specs.declared.stranded.Stranded.{Stranded}
use Rattle.sr_policy.specs.{problem_of, SnapshotState}
use Rattle.sr_resp.specs.{Bulk, array_header, array_of, bulk_string, integer, reply_text}
use Rattle.sr_resp.specs.Reply.{Array}
use Rattle.sr_resp.specs.steps.Decoding.{HasPart}
use Rattle.sr_resp.specs.steps.OneSpelling.{line, tail, part_text-lines}
use Rattle.sr_resp.proofs.DraftLemmas.{reply_text-long}
use Rattle.sr_check.specs.PlanAnswer.{PlanAnswer, IsShown, best, short}
use Rattle.sr_check.specs.PlanReply.{share_answer, reached_from, plan_word, verdict_answer}
use Rattle.sr_check.specs.steps.Read.{Begins, HasChosen, IsShortageText, ids_of, rooms_answer}
use Rattle.sr_check.proofs.ReadLemmas.{HasPart-one}
use Rattle.sr_check.proofs.BeginsLemmas.{Begins-append, Begins-cut, Begins-whole, Begins-last, Begins-none, Begins-part}
use Rattle.sr_check.proofs.BeginsLemmas.{part-Begins, Begins-shorter, one-text}
use Rattle.sr_check.proofs.ListLemmas.{flat}
use Rattle.sr_check.proofs.PlanLemmas.{same_word, plan_word-short, after_plan_word, after_none}

-- an array is not a bulk string: their first bytes differ
first-byte : (a b : ℕ) (x y : List ℕ) → a ∷ x ≡ b ∷ y → a ≡ b
first-byte a b x y e = cc e

array-bulk : (text : List ℕ) (n : ℕ) (after string others : List ℕ) → Begins text (array_header n) after
    → HasPart text (Bulk string) others → ⊥
array-bulk text n after string others is has =
    let array : text ≡ 42 ∷ (line (Array n) ++ (13 ∷ 10 ∷ after)) =
    is.whole ∙ one-text (Array n) after ∙ part_text-lines (Array n) after in
    let bulk : text ≡ 36 ∷ (line (Bulk string) ++ (13 ∷ 10 ∷ tail (Bulk string) others)) =
    has.whole ∙ part_text-lines (Bulk string) others in
    let marks = first-byte 42 36 (line (Array n) ++ (13 ∷ 10 ∷ after))
    (line (Bulk string) ++ (13 ∷ 10 ∷ tail (Bulk string) others)) (sym array ∙ bulk) in
    absurd (omega (arith, marks))

-- after the ids come the rooms, which are an array
rooms-end : (p : Tiered) (set : List ℕ) (live : List Live) (text after string others : List ℕ)
    → Begins text (rooms_answer p set live) after → HasPart text (Bulk string) others → ⊥
rooms-end p set live text after string others is has =
    let rooms = map share_answer (reached_from p set 0 live) in
    let cut = Begins-cut text after (array_header (length rooms)) (flat rooms) is in
    array-bulk text (length rooms) cut.0 string others cut.1 has

-- a shortage's text has the ids of its set
pub HasChosen-shortage : (shown : SnapshotState) (p : Tiered) (text set : List ℕ) → p ≡ problem_of shown → IsShortage p set
    → (is : IsShortageText shown text set) → HasChosen shown.stranded is.ids_at set is.rooms_at
HasChosen-shortage shown p text set posed shows is = record {
  rising = shows.rising;
  within = λ k d lt. omega (arith, shows.entries k d lt, ap (λ (q : Tiered). q.entries) posed);
  ids = is.ids;
  ended = λ string others. rooms-end (problem_of shown) set shown.live is.rooms_at is.places_at string others is.rooms;
}

rooms-moved : (q p : Tiered) (live : List Live) (set read left rooms after : List ℕ) → p ≡ q → read ≡ set → rooms ≡ left
    → Begins left (rooms_answer q set live) after → Begins rooms (rooms_answer p read live) after
rooms-moved q p live set read left rooms after e f g is =
    subst (λ t. Begins t (rooms_answer p read live) after) (sym g)
    (subst (λ ns. Begins left (rooms_answer p ns live) after) (sym f)
    (subst (λ o. Begins left (rooms_answer o set live) after) (sym e) is))

places-moved : (q p : Tiered) (set read left : List ℕ) → p ≡ q → read ≡ set
    → Begins left (integer (pos (places_of q set))) [] → Begins left (integer (pos (places_of p read))) []
places-moved q p set read left e f is =
    subst (λ (ns : List ℕ). Begins left (integer (pos (places_of p ns))) []) (sym f) (subst (λ (o : Tiered). Begins left
    (integer (pos (places_of o set))) []) (sym e) is)

-- numbers of stranded entries are numbers of entries of the problem
pub within-entries : (shown : SnapshotState) (p : Tiered) (stranded : List Stranded) (set : List ℕ) → p ≡ problem_of shown
    → stranded ≡ shown.stranded → All (λ i. i < length stranded) set → All (λ i. i < p.entries) set
within-entries shown p stranded set posed same all =
    let counted : length stranded ≡ p.entries = ap length same ∙ sym (ap (λ (q : Tiered). q.entries) posed) in
    subst (λ (n : ℕ). All (λ i. i < n) set) counted all

-- what is read of a shortage
pub record IsKnown (p : Tiered) (live : List Live) (n : ℕ) (read rooms set : List ℕ) : Type 0 where
  pub counted : n ≡ length set
  pub same : read ≡ set
  pub places_at : List ℕ
  pub rooms_are : Begins rooms (rooms_answer p read live) places_at
  pub places_are : Begins places_at (integer (pos (places_of p read))) []

pub shortage-known : (shown : SnapshotState) (p : Tiered) (text ids read rooms set : List ℕ) (n : ℕ) → p ≡ problem_of shown
    → HasPart text (Array n) ids
    → ((other after : List ℕ) → HasChosen shown.stranded ids other after → (read ≡ other) × (rooms ≡ after))
    → IsShortage p set → IsShortageText shown text set → IsKnown p shown.live n read rooms set
shortage-known shown p text ids read rooms set n posed header chosen shows is =
    let headers = HasPart-one text (Array n) (Array (length set)) ids is.ids_at header is.header in
    let claimed = HasChosen-shortage shown p text set posed shows is in
    let one =
    chosen set is.rooms_at (subst (λ t. HasChosen shown.stranded t set is.rooms_at) (sym headers.1) claimed) in
    record {
      counted = cc headers.0;
      same = one.0;
      places_at = is.places_at;
      rooms_are = rooms-moved (problem_of shown) p shown.live set read is.rooms_at rooms is.places_at posed
          one.0 one.1 is.rooms;
      places_are = places-moved (problem_of shown) p set read is.places_at posed one.0 is.places;
    }

-- the text is read
pub IsShortageText-read : (shown : SnapshotState) (p : Tiered) (text ids rooms places set : List ℕ) (n : ℕ)
    → p ≡ problem_of shown
    → HasPart text (Array n) ids → length set ≡ n → Begins ids (flat (ids_of shown.stranded set)) rooms
    → Begins rooms (rooms_answer p set shown.live) places → Begins places (integer (pos (places_of p set))) []
    → IsShortageText shown text set
IsShortageText-read shown p text ids rooms places set n posed header counted is roomy last = record {
  ids_at = ids;
  rooms_at = rooms;
  places_at = places;
  header = subst (λ k. HasPart text (Array k) ids) (sym counted) header;
  ids = is;
  rooms = subst (λ q. Begins rooms (rooms_answer q set shown.live) places) posed roomy;
  places = subst (λ (q : Tiered). Begins places (integer (pos (places_of q set))) []) posed last;
}

-- ---- and spells a reply

pub shortage-spelled : (shown : SnapshotState) (reply text set : List ℕ)
    → Begins reply (array_header 4 ++ bulk_string (codes "none")) text → IsShortageText shown text set
    → reply ≡ reply_text (verdict_answer shown (short set) false)
shortage-spelled shown reply text set word is =
    let ids = ids_of shown.stranded set in
    let rooms = rooms_answer (problem_of shown) set shown.live in
    let places = integer (pos (places_of (problem_of shown) set)) in
    let many : length set ≡ length ids = sym (length-map set _) in
    let header : Begins text (array_header (length ids)) is.ids_at =
    subst (λ n. Begins text (array_header n) is.ids_at) many
    (Begins-part text is.ids_at (Array (length set)) is.header) in
    let listed = Begins-append text is.ids_at is.rooms_at (array_header (length ids)) (flat ids) header is.ids in
    let end = Begins-append is.places_at [] [] places [] is.places (Begins-none [] [] refl) in
    let last = Begins-append is.rooms_at is.places_at [] rooms (places ++ []) is.rooms end in
    let rest = Begins-append text is.rooms_at [] (array_of ids) (rooms ++ (places ++ [])) listed last in
    let whole =
    Begins-append reply text [] (array_header 4 ++ bulk_string (codes "none")) (after_none shown set) word rest in
    whole.whole ∙ append-nil (reply_text (verdict_answer shown (short set) false))

-- and a right answer's reply is read
flat-length : (stranded : List Stranded) (set : List ℕ) → length (flat (ids_of stranded set)) ≡ length set
flat-length stranded [] = refl
flat-length stranded (i ∷ set) = let e = flat-length stranded set in omega arith

short-read : (shown : SnapshotState) (text set : List ℕ) → length text < 2 ^ 64 → Begins text (after_none shown set) []
    → IsShortageText shown text set
short-read shown text set small is =
    let ids = ids_of shown.stranded set in
    let rooms = rooms_answer (problem_of shown) set shown.live in
    let places = integer (pos (places_of (problem_of shown) set)) in
    let many : length ids ≡ length set = length-map set _ in
    let a = Begins-cut text [] (array_of ids) (rooms ++ (places ++ [])) is in
    let b = Begins-cut a.0 [] rooms (places ++ []) a.2 in
    let d = Begins-cut text a.0 (array_header (length ids)) (flat ids) a.1 in
    let shorter = Begins-shorter text d.0 (array_header (length ids)) d.1 in
    let long : length set ≤ length d.0 = omega (
      arith,
      flat-length shown.stranded set,
      reply_text-long (flat ids),
      ap length
          d.2.whole,
      length-append (reply_text (flat ids)) a.0,
    ) in
    let header : Begins text (array_header (length set)) d.0 = subst (λ n. Begins text (array_header n) d.0) many d.1 in
    record {
      ids_at = d.0;
      rooms_at = a.0;
      places_at = b.0;
      header = part-Begins text d.0 (Array (length set)) (omega (arith, long, shorter, small)) header;
      ids = d.2;
      rooms = b.1;
      places = Begins-last b.0 places b.2;
    }

-- the reply of a right answer, after the word of a shortage, is a shortage
pub record IsClaimedShort (shown : SnapshotState) (text : List ℕ) : Type 0 where
  pub set : List ℕ
  pub shows : IsShortage (problem_of shown) set
  pub read : IsShortageText shown text set

pub shortage-claimed : (shown : SnapshotState) (reply text : List ℕ) (answer : PlanAnswer) (applied : Bool)
    → Begins reply (array_header 4 ++ bulk_string (codes "none")) text → length text < 2 ^ 64
    → IsShown (problem_of shown) answer → reply ≡ reply_text (verdict_answer shown answer applied)
    → IsClaimedShort shown text
shortage-claimed shown reply text (best assign prices total) applied word small shows e =
    let whole : Begins reply
    ((array_header 5 ++ bulk_string (plan_word applied)) ++ after_plan_word shown assign prices total) [] =
    Begins-whole reply (verdict_answer shown (best assign prices total) applied) e in
    let cut = Begins-cut reply [] (array_header 5 ++ bulk_string (plan_word applied))
    (after_plan_word shown assign prices total) whole in
    let same = same_word reply text cut.0 4 5 (codes "none") (plan_word applied) (omega arith) (omega arith)
    (omega arith) (plan_word-short applied) word cut.1 in
    absurd (omega (arith, same.0))
shortage-claimed shown reply text (short set) applied word small shows e =
    let whole : Begins reply ((array_header 4 ++ bulk_string (codes "none")) ++ after_none shown set) [] =
    Begins-whole reply (verdict_answer shown (short set) applied) e in
    let cut = Begins-cut reply [] (array_header 4 ++ bulk_string (codes "none")) (after_none shown set) whole in
    let same = same_word reply text cut.0 4 4 (codes "none") (codes "none") (omega arith) (omega arith) (omega arith)
    (omega arith) word cut.1 in
    let rest : Begins text (after_none shown set) [] =
    subst (λ t. Begins t (after_none shown set) []) (sym same.2) cut.2 in
    record { set = set; shows = shows; read = short-read shown text set small rest }

-- a reply with neither word is that of no answer
pub no_answer : (shown : SnapshotState) (reply : List ℕ) → ((after : List ℕ)
    → Begins reply (array_header 5 ++ bulk_string (codes "plan")) after → ⊥) → ((after : List ℕ)
    → Begins reply (array_header 5 ++ bulk_string (codes "done")) after → ⊥)
    → ((after : List ℕ) → Begins reply (array_header 4 ++ bulk_string (codes "none")) after → ⊥)
    → (answer : PlanAnswer) (applied : Bool) → reply ≡ reply_text (verdict_answer shown answer applied) → ⊥
no_answer shown reply plan done none (best assign prices total) true e =
    let cut = Begins-cut reply [] (array_header 5 ++ bulk_string (codes "done"))
    (after_plan_word shown assign prices total)
    (Begins-whole reply (verdict_answer shown (best assign prices total) true) e) in
    done cut.0 cut.1
no_answer shown reply plan done none (best assign prices total) false e =
    let cut = Begins-cut reply [] (array_header 5 ++ bulk_string (codes "plan"))
    (after_plan_word shown assign prices total)
    (Begins-whole reply (verdict_answer shown (best assign prices total) false) e) in
    plan cut.0 cut.1
no_answer shown reply plan done none (short set) applied e =
    let cut = Begins-cut reply [] (array_header 4 ++ bulk_string (codes "none")) (after_none shown set)
    (Begins-whole reply (verdict_answer shown (short set) applied) e) in
    none cut.0 cut.1
