-- A plan's text: what is read of it, and what it spells.
use Rattle.std.proofs.Common.{◌≡◌, ℕ, suc, ◌^◌, ◌<◌, pos, Bool, true, false, List, [], ◌∷◌, ◌++◌, codes, length, map}
use Rattle.std.proofs.Common.{take, drop, refl, sym, ap, ◌∙◌, subst, arith}
use Rattle.std.specs.List.{All, flat_map, sum_by, zip}
use Rattle.std.proofs.lemmas.List.{append-nil, length-drop, length-take-le, take-append-drop}
use Rattle.std.proofs.lemmas.List.Elements.{All-drop, All-from_get_or, All-take}
use Rattle.std.proofs.lemmas.List.Sums.{sum_by-cons}
use Rattle.std.proofs.Math.Seq.{take-append_seam, drop-append_seam}
use Rattle.sr_ids.specs.declared.id.Id.{Id}
use Rattle.sr_ids.specs.{spelling}
use Rattle.sr_transport.specs.Assignment.{IsAssignment}
use Rattle.sr_transport.specs.Certificate.{places_of}
use Rattle.sr_transport.specs.Solved.{IsBest}
use Rattle.sr_policy.specs.declared.live.Live.{Live}
use Rattle.sr_policy.specs.declared.stranded.Stranded.{Stranded}
use Rattle.sr_policy.specs.{problem_of, tier_count, Text, SnapshotState, AreInOrder}
use Rattle.sr_policy.proofs.ProblemLemmas.{length-tiers_from}
use Rattle.sr_policy.specs.Snapshot.{ComesBefore}
use Rattle.sr_resp.specs.Reply.{ReplyParts as Parts, Int, Bulk, Array, array_header, array_of, bulk_string, integer}
use Rattle.sr_resp.specs.{reply_text}
use Rattle.sr_resp.specs.steps.Decoding.{HasPart}
use Rattle.sr_check.specs.PlanAnswer.{PlanAnswer, AreTold, IsShown, best, short, name_at, moves_of, prices_by}
use Rattle.sr_check.specs.PlanReply.{move_answer, price_answer, plan_word, verdict_answer}
use Rattle.sr_check.specs.steps.Read.{AreRead, ArePrices, Begins, HasArray, HasMove, HasPrices, IsPlanText, gone_ids}
use Rattle.sr_check.specs.steps.Read.{ids_of, rooms_answer}
use Rattle.sr_check.proofs.ReadLemmas.{HasPart-one}
use Rattle.sr_check.proofs.BeginsLemmas.{Begins-append, Begins-front, Begins-back, Begins-none, none-Begins}
use Rattle.sr_check.proofs.BeginsLemmas.{Begins-part, part-Begins, Begins-shorter, Begins-cut, Begins-whole}
use Rattle.sr_check.proofs.BeginsLemmas.{Begins-last, bulk_within}
use Rattle.sr_check.proofs.AreReadLemmas.{HasArray-one, AreRead-length}
use Rattle.sr_check.proofs.ListLemmas.{flat, array-begins}
use Rattle.sr_check.proofs.MoveLemmas.{HasMove-one}
use Rattle.sr_check.proofs.PriceLemmas.{ArePriced, ArePrices-one}

-- ---- moves

-- the moves of these entries
abbrev pub moves_at : List Live → List Stranded → List ℕ → List (Id × Text)
moves_at live stranded assign = zip (map (λ entry. entry.id) stranded) (map (name_at live) assign)

moves-spelled : (live : List Live) (stranded : List Stranded) (text : List ℕ) (assign after : List ℕ)
    → AreRead (HasMove live) stranded text assign after
    → Begins text (flat (map move_answer (moves_at live stranded assign)))
    after
moves-spelled live [] text [] after read = Begins-none text after read
moves-spelled live [] text (c ∷ assign) after read = absurd read
moves-spelled live (entry ∷ stranded) text [] after read = absurd read
moves-spelled live (entry ∷ stranded) text (c ∷ assign) after (between, first, others) =
    Begins-append text between after (move_answer (entry.id, name_at live c))
    (flat (map move_answer (moves_at live stranded assign))) first.begins
    (moves-spelled live stranded between assign after others)

moves-count : (live : List Live) (stranded : List Stranded) (assign : List ℕ) → length assign ≡ length stranded
    → length stranded ≡ length (map move_answer (moves_at live stranded assign))
moves-count live [] assign same = refl
moves-count live (entry ∷ stranded) [] same = absurd (omega arith)
moves-count live (entry ∷ stranded) (c ∷ assign) same = let e =
    moves-count live stranded assign (omega arith) in omega arith

-- a move's name is no longer than the text
move-named : (live : List Live) (entry : Stranded) (text after : List ℕ) (c : ℕ) → length text < 2 ^ 64
    → Begins text (move_answer (entry.id, name_at live c)) after → length (name_at live c) < 2 ^ 64
move-named live entry text after c small is =
    let front = array_header 2 ++ bulk_string (spelling entry.id) in
    let between = reply_text (bulk_string (name_at live c)) ++ after in
    let first = Begins-front text after front (bulk_string (name_at live c)) is in
    let shorter = Begins-shorter text between front first in
    bulk_within between after (name_at live c) (omega arith)
    (Begins-back between after (bulk_string (name_at live c)) refl)

All-first : (P : ℕ → Type 0) (x : ℕ) (xs : List ℕ) → All P (x ∷ xs) → P x
All-first P x xs all = all 0 0 (omega arith)

All-rest : (P : ℕ → Type 0) (x : ℕ) (xs : List ℕ) → All P (x ∷ xs) → All P xs
All-rest P x xs all k d lt = all (suc k) d (omega arith)

moves-read : (live : List Live) (stranded : List Stranded) (text assign after : List ℕ) → length text < 2 ^ 64
    → length assign ≡ length stranded → All (λ c. c < length live) assign
    → Begins text (flat (map move_answer (moves_at live stranded assign))) after
    → AreRead (HasMove live) stranded text assign after
moves-read live [] text [] after small same all is = none-Begins text after is
moves-read live [] text (c ∷ assign) after small same all is = absurd (omega arith)
moves-read live (entry ∷ stranded) text [] after small same all is = absurd (omega arith)
moves-read live (entry ∷ stranded) text (c ∷ assign) after small same all is =
    let items = flat (map move_answer (moves_at live stranded assign)) in
    let between = reply_text items ++ after in
    let first = Begins-front text after (move_answer (entry.id, name_at live c)) items is in
    let shorter = Begins-shorter text between (move_answer (entry.id, name_at live c)) first in
    let has : HasMove live entry text c between = record {
      is_live = All-first (λ n. n < length live) c assign all;
      named =
          move-named live entry text between c small first;
      begins = first;
    } in (
      between,
      has,
      moves-read live stranded between assign after (omega arith) (omega arith) (All-rest (λ n. n < length live) c
          assign all) (Begins-back between after items refl),
    )

-- ---- prices

-- a consumer takes as many of them as it has tiers
prices_by-own : (consumer : Live) (live : List Live) (own rest : List ℕ) → length own ≡ tier_count consumer
    → prices_by (consumer ∷ live) (own ++ rest) ≡ (consumer.name, own) ∷ prices_by live rest
prices_by-own consumer live own rest each =
    let n = length own in
    let front : take n (own ++ rest) ≡ own = take-append_seam own rest in
    let back : drop n (own ++ rest) ≡ rest = drop-append_seam own rest in
    let here : prices_by (consumer ∷ live) (own ++ rest)
    ≡ (consumer.name, take n (own ++ rest)) ∷ prices_by live (drop n (own ++ rest)) =
    ap (λ (k : ℕ). (consumer.name, take k (own ++ rest)) ∷ prices_by live (drop k (own ++ rest))) (sym each) in
    here ∙ ap (λ (t : List ℕ). (consumer.name, t) ∷ prices_by live (drop n (own ++ rest))) front
    ∙ ap (λ (t : List ℕ). (consumer.name, own) ∷ prices_by live t) back

shares-spelled : (live : List Live) (text after : List ℕ) (grouped : List (List ℕ))
    → AreRead HasPrices live text grouped after
    → Begins text (flat (map price_answer (prices_by live (flat_map (λ own. own) grouped)))) after
shares-spelled [] text after [] read = Begins-none text after read
shares-spelled [] text after (own ∷ grouped) read = absurd read
shares-spelled (consumer ∷ live) text after [] read = absurd read
shares-spelled (consumer ∷ live) text after (own ∷ grouped) (between, first, others) =
    let rest = flat_map (λ (o : List ℕ). o) grouped in
    subst (λ (by : List (Text × List ℕ)). Begins text (flat (map price_answer by)) after)
    (sym (prices_by-own consumer live own rest first.each))
    (Begins-append text between after (price_answer (consumer.name, own))
    (flat (map price_answer (prices_by live rest))) first.begins (shares-spelled live between after grouped others))

shares-count : (live : List Live) (prices : List ℕ) → length live ≡ length (map price_answer (prices_by live prices))
shares-count [] prices = refl
shares-count (consumer ∷ live) prices =
    let e = shares-count live (drop (tier_count consumer) prices) in omega arith

-- the array of all prices
prices-spelled : (live : List Live) (text prices after : List ℕ) → ArePrices live text prices after
    → Begins text (array_of (map price_answer (prices_by live prices))) after
prices-spelled live text prices after are =
    let items : Begins are.shares.items (flat (map price_answer (prices_by live prices))) after =
    subst (λ (ns : List ℕ). Begins are.shares.items (flat (map price_answer (prices_by live ns))) after)
    (sym are.in_turn)
    (shares-spelled live are.shares.items after are.grouped are.shares.read) in
    array-begins (map price_answer (prices_by live prices)) (length live) text are.shares.items after
    (shares-count live prices) are.shares.header items

shares-read : (live : List Live) (text prices after : List ℕ) → length prices ≡ sum_by tier_count live → AreTold prices
    → Begins text (flat (map price_answer (prices_by live prices))) after → ArePriced live text prices after
shares-read [] text [] after same told is = record { grouped = []; read = none-Begins text after is; in_turn = refl }
shares-read [] text (n ∷ prices) after same told is = absurd (omega arith)
shares-read (consumer ∷ live) text prices after same told is =
    let n = tier_count consumer in
    let sum = sum_by-cons tier_count consumer live in
    let own = take n prices in
    let rest = drop n prices in
    let each : length own ≡ n = length-take-le n prices (omega (arith, same, sum)) in
    let cut =
    Begins-cut text after (price_answer (consumer.name, own)) (flat (map price_answer (prices_by live rest))) is in
    let has : HasPrices consumer text own cut.0 = record {
      each = each;
      told = All-take (λ (m : ℕ). m < 2 ^ 63) n prices told;
      begins = cut.1;
    } in
    let others = shares-read live cut.0 rest after (omega (arith, same, sum, length-drop n prices))
    (All-drop (λ (m : ℕ). m < 2 ^ 63) n prices told) cut.2 in
    record {
      grouped = own ∷ others.grouped;
      read = (cut.0, has, others.read);
      in_turn = sym (take-append-drop n prices) ∙ ap (λ (t : List ℕ). own ++ t) others.in_turn;
    }

prices-read : (live : List Live) (text prices after : List ℕ) → length prices ≡ sum_by tier_count live → AreTold prices
    → Begins text (array_of (map price_answer (prices_by live prices))) after → ArePrices live text prices after
prices-read live text prices after same told is =
    let items = map price_answer (prices_by live prices) in
    let cut = Begins-cut text after (array_header (length items)) (flat items) is in
    let priced = shares-read live cut.0 prices after same told cut.2 in
    record {
      grouped = priced.grouped;
      shares = record {
        items = cut.0;
        header = subst (λ n. Begins text (array_header n) cut.0) (sym (shares-count live prices)) cut.1;
        read = priced.read;
      };
      in_turn = priced.in_turn;
    }

-- ---- what is read of a plan is there in one way

pub plan-moves : (shown : SnapshotState) (text moves assign prices : List ℕ) (n total : ℕ) → HasPart text (Int (pos n)) moves
    → (plan : IsPlanText shown text assign prices total)
    → (n ≡ total) × HasArray (HasMove shown.live) shown.stranded moves assign plan.prices_at
plan-moves shown text moves assign prices n total cost plan =
    let same = HasPart-one text (Int (pos n)) (Int (pos total)) moves plan.moves_at cost plan.cost in (
      cc same.0,
      subst (λ t. HasArray (HasMove shown.live) shown.stranded t assign plan.prices_at)
          (sym same.1) plan.moves,
    )

pub plan-shares : (shown : SnapshotState) → AreInOrder (λ a b. ComesBefore a.name b.name) shown.live
    → (text moves shares read assign prices : List ℕ) (n total : ℕ) → HasPart text (Int (pos n)) moves
    → HasArray (HasMove shown.live) shown.stranded moves read shares
    → (plan : IsPlanText shown text assign prices total)
    → (read ≡ assign) × ArePrices shown.live shares prices plan.gone_at
plan-shares shown ordered text moves shares read assign prices n total cost has plan =
    let there = plan-moves shown text moves assign prices n total cost plan in
    let same = HasArray-one (HasMove shown.live)
    (HasMove-one shown.live ordered) shown.stranded moves read assign shares plan.prices_at has there.1 in
    (same.0, subst (λ t. ArePrices shown.live t prices plan.gone_at) (sym same.1) plan.shares)

pub plan-gone : (shown : SnapshotState) → AreInOrder (λ a b. ComesBefore a.name b.name) shown.live
    → (text moves shares gone read costs assign prices : List ℕ) (n total : ℕ) → HasPart text (Int (pos n)) moves
    → HasArray (HasMove shown.live) shown.stranded moves read shares → ArePrices shown.live shares costs gone
    → (plan : IsPlanText shown text assign prices total) → (costs ≡ prices) × Begins gone (gone_ids shown.gone) []
plan-gone shown ordered text moves shares gone read costs assign prices n total cost has likewise plan =
    let there = plan-shares shown ordered text moves shares read assign prices n total cost has plan in
    let same = ArePrices-one shown.live shares costs prices gone plan.gone_at likewise there.1 in
    (same.0, subst (λ t. Begins t (gone_ids shown.gone) []) (sym same.1) plan.gone)

pub one_plan : (shown : SnapshotState) → AreInOrder (λ a b. ComesBefore a.name b.name) shown.live
    → (text read costs assign prices : List ℕ) (n total : ℕ) → IsPlanText shown text read costs n
    → IsPlanText shown text assign prices total
    → (read ≡ assign) × (costs ≡ prices) × (n ≡ total)
one_plan shown ordered text read costs assign prices n total a b =
    let first = plan-moves shown text a.moves_at assign prices n total a.cost b in
    let second = plan-shares shown ordered text a.moves_at a.prices_at read assign prices n total a.cost a.moves b in
    let third = plan-gone shown ordered text a.moves_at a.prices_at a.gone_at read costs assign prices n total a.cost
    a.moves a.shares b in
    (second.0, third.0, first.0)

-- the same lists, however they are named
pub moves-as : (live other : List Live) (stranded entries : List Stranded) (text assign after : List ℕ) → other ≡ live
    → entries ≡ stranded → HasArray (HasMove live) stranded text assign after
    → HasArray (HasMove other) entries text assign after
moves-as live other stranded entries text assign after e f has =
    subst (λ l. HasArray (HasMove l) entries text assign after) (sym e)
    (subst (λ s. HasArray (HasMove live) s text assign after) (sym f) has)

pub shares-as : (live other : List Live) (text prices after : List ℕ) → other ≡ live → ArePrices live text prices after
    → ArePrices other text prices after
shares-as live other text prices after e has = subst (λ l. ArePrices l text prices after) (sym e) has

pub gone-as : (gone other : List (Id × Text)) (text after : List ℕ) → other ≡ gone → Begins text (gone_ids gone) after
    → Begins text (gone_ids other) after
gone-as gone other text after e is = subst (λ l. Begins text (gone_ids l) after) (sym e) is

-- ---- and spells a reply

-- what comes after the word
abbrev pub after_plan_word : SnapshotState → List ℕ → List ℕ → ℕ → Parts
after_plan_word shown assign prices total =
    integer (pos total) ++ (array_of (map move_answer (moves_of shown assign)) ++ (array_of (map price_answer (prices_by
    shown.live prices)) ++ (gone_ids shown.gone ++ [])))

pub plan-spelled : (shown : SnapshotState) (reply text assign prices : List ℕ) (total : ℕ) (done : Bool)
    → Begins reply (array_header 5 ++ bulk_string (plan_word done)) text → IsPlanText shown text assign prices total
    → reply ≡ reply_text (verdict_answer shown (best assign prices total) done)
plan-spelled shown reply text assign prices total done word plan =
    let moves = array_of (map move_answer (moves_of shown assign)) in
    let shares = array_of (map price_answer (prices_by shown.live prices)) in
    let a = array-begins (map move_answer (moves_of shown assign))
    (length shown.stranded) plan.moves_at plan.moves.items plan.prices_at
    (moves-count shown.live shown.stranded assign
    (AreRead-length (HasMove shown.live) shown.stranded plan.moves.items assign plan.prices_at plan.moves.read))
    plan.moves.header
    (moves-spelled shown.live shown.stranded plan.moves.items assign plan.prices_at plan.moves.read) in
    let b = prices-spelled shown.live plan.prices_at prices plan.gone_at plan.shares in
    let end = Begins-append plan.gone_at [] [] (gone_ids shown.gone) [] plan.gone (Begins-none [] [] refl) in
    let last = Begins-append plan.prices_at plan.gone_at [] shares (gone_ids shown.gone ++ []) b end in
    let middle = Begins-append plan.moves_at plan.prices_at [] moves (shares ++ (gone_ids shown.gone ++ [])) a last in
    let rest = Begins-append text plan.moves_at [] (integer (pos total))
    (moves ++ (shares ++ (gone_ids shown.gone ++ [])))
    (Begins-part text plan.moves_at (Int (pos total)) plan.cost) middle in
    let whole = Begins-append reply text [] (array_header 5 ++ bulk_string (plan_word done))
    (after_plan_word shown assign prices total) word rest in
    whole.whole ∙ append-nil (reply_text (verdict_answer shown (best assign prices total) done))

-- the consumers of an assignment are live
consumers-live : (shown : SnapshotState) (assign : List ℕ) → IsAssignment (problem_of shown) assign
    → All (λ c. c < length shown.live) assign
consumers-live shown assign assignment =
    All-from_get_or (λ c. c < length shown.live) assign 0 (λ i lt. (assignment.placement.allowed i lt).0)

-- and a right answer's reply is read
best-read : (shown : SnapshotState) (text assign prices : List ℕ) (total : ℕ) → length text < 2 ^ 64
    → IsBest (problem_of shown) assign prices total → AreTold prices
    → Begins text (after_plan_word shown assign prices total) [] → IsPlanText shown text assign prices total
best-read shown text assign prices total small shows told is =
    let moved = map move_answer (moves_of shown assign) in
    let priced = map price_answer (prices_by shown.live prices) in
    let gone = gone_ids shown.gone ++ [] in
    let every = shows.assignment.every in
    let many : length prices ≡ sum_by tier_count shown.live = shows.shown.one_each ∙ length-tiers_from 0 shown.live in
    let a = Begins-cut text [] (integer (pos total)) (array_of moved ++ (array_of priced ++ gone)) is in
    let b = Begins-cut a.0 [] (array_of moved) (array_of priced ++ gone) a.2 in
    let d = Begins-cut b.0 [] (array_of priced) gone b.2 in
    let e = Begins-cut a.0 b.0 (array_header (length moved)) (flat moved) b.1 in
    let shorter = Begins-shorter text a.0 (integer (pos total)) a.1 in
    let back = Begins-shorter a.0 e.0 (array_header (length moved)) e.1 in
    record {
      moves_at = a.0;
      prices_at = b.0;
      gone_at = d.0;
      cost = part-Begins text a.0 (Int (pos total)) (omega (arith, shows.small_total)) a.1;
      moves = record {
        items = e.0;
        header =
            subst (λ n. Begins a.0 (array_header n) e.0) (sym (moves-count shown.live shown.stranded assign every)) e.1;
        read = moves-read shown.live shown.stranded e.0 assign b.0 (omega (arith, small, shorter, back)) every
            (consumers-live shown assign shows.assignment) e.2;
      };
      shares = prices-read shown.live b.0 prices d.0 many told d.1;
      gone = Begins-last d.0 (gone_ids shown.gone) d.2;
    }

-- ---- the word

pub plan_word-short : (done : Bool) → length (plan_word done) < 2 ^ 64
plan_word-short true = omega arith
plan_word-short false = omega arith

-- a text after a header and a word, and another
pub same_word : (reply text others : List ℕ) (m n : ℕ) (v w : List ℕ) → m < 2 ^ 64 → n < 2 ^ 64 → length v < 2 ^ 64
    → length w < 2 ^ 64 → Begins reply (array_header m ++ bulk_string v) text
    → Begins reply (array_header n ++ bulk_string w) others
    → (m ≡ n) × (v ≡ w) × (text ≡ others)
same_word reply text others m n v w small few fits likewise first second =
    let a = Begins-cut reply text (array_header m) (bulk_string v) first in
    let b = Begins-cut reply others (array_header n) (bulk_string w) second in
    let headers = HasPart-one reply (Array m) (Array n) a.0 b.0 (part-Begins reply a.0 (Array m) small a.1)
    (part-Begins reply b.0 (Array n) few b.1) in
    let moved : Begins a.0 (bulk_string w) others = subst (λ t. Begins t (bulk_string w) others) (sym headers.1) b.2 in
    let words = HasPart-one a.0 (Bulk v) (Bulk w) text others (part-Begins a.0 text (Bulk v) fits a.2)
    (part-Begins a.0 others (Bulk w) likewise moved) in
    (cc headers.0, cc words.0, words.1)

-- the reply of a right answer, after the word of a plan, is a plan
pub record IsClaimed (shown : SnapshotState) (text : List ℕ) : Type 0 where
  pub assign : List ℕ
  pub prices : List ℕ
  pub total : ℕ
  pub shows : IsBest (problem_of shown) assign prices total
  pub read : IsPlanText shown text assign prices total

abbrev pub after_none : SnapshotState → List ℕ → Parts
after_none shown set =
    array_of (ids_of shown.stranded set) ++ (rooms_answer (problem_of shown) set shown.live ++ (integer (pos (places_of
    (problem_of shown) set)) ++ []))

pub plan-claimed : (shown : SnapshotState) (reply text : List ℕ) (done : Bool) (answer : PlanAnswer) (applied : Bool)
    → Begins reply (array_header 5 ++ bulk_string (plan_word done)) text → length text < 2 ^ 64
    → IsShown (problem_of shown) answer → reply ≡ reply_text (verdict_answer shown answer applied)
    → IsClaimed shown text
plan-claimed shown reply text done (best assign prices total) applied word small shows e =
    let whole : Begins reply
    ((array_header 5 ++ bulk_string (plan_word applied)) ++ after_plan_word shown assign prices total) [] =
    Begins-whole reply (verdict_answer shown (best assign prices total) applied) e in
    let cut = Begins-cut reply [] (array_header 5 ++ bulk_string (plan_word applied))
    (after_plan_word shown assign prices total) whole in
    let same = same_word reply text cut.0 5 5 (plan_word done) (plan_word applied) (omega arith) (omega arith)
    (plan_word-short done) (plan_word-short applied) word cut.1 in
    let rest : Begins text (after_plan_word shown assign prices total) [] =
    subst (λ t. Begins t (after_plan_word shown assign prices total) []) (sym same.2) cut.2 in
    record {
      assign = assign;
      prices = prices;
      total = total;
      shows = shows.0;
      read = best-read shown text assign prices total small shows.0 shows.1 rest;
    }
plan-claimed shown reply text done (short set) applied word small shows e =
    let whole : Begins reply ((array_header 4 ++ bulk_string (codes "none")) ++ after_none shown set) [] =
    Begins-whole reply (verdict_answer shown (short set) applied) e in
    let cut = Begins-cut reply [] (array_header 4 ++ bulk_string (codes "none")) (after_none shown set) whole in
    let same = same_word reply text cut.0 5 4 (plan_word done) (codes "none") (omega arith) (omega arith)
    (plan_word-short done) (omega arith) word cut.1 in
    absurd (omega (arith, same.0))
