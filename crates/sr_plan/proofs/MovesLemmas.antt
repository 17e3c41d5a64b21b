-- The cursors over the moves of a plan and over the entries of a shortage, step by step.
use Rattle.std.proofs.Common.{◌≡◌, ℕ, ◌^◌, ◌<◌, ◌≤◌, List, [], ◌∷◌, length, map, get_or, take, drop, refl, ap, ◌∙◌}
use Rattle.std.proofs.Common.{arith}
use Rattle.std.specs.List.{All, sum_by, zip}
use Rattle.std.proofs.lemmas.List.{get_or-map, length-drop, length-map}
use Rattle.std.proofs.lemmas.List.Elements.{All-cons, All-drop, All-head, All-nil, All-tail, All-take}
use Rattle.std.proofs.lemmas.List.Sums.{sum_by-cons}
use Rattle.std.proofs.lemmas.Slice.Zip.{length-zip}
use Rattle.sr_ids.specs.declared.id.Id.{Id}
use Rattle.sr_policy.specs.declared.live.Live.{Live}
use Rattle.sr_policy.specs.declared.stranded.Stranded.{Stranded}
use Rattle.sr_policy.specs.{Text, tier_count}
use Rattle.sr_check.specs.{AreTold}
use Rattle.sr_plan.specs.Verdict.{name_at, id_at, prices_by}
use Rattle.sr_plan.specs.steps.Moves.{AreMoves, ArePrices}

-- as many moves as entries
pub length-moves : (stranded : List Stranded) (assign : List ℕ) (live : List Live) → AreMoves stranded assign live
    → length stranded ≡ length (zip (map (λ (entry : Stranded). entry.id) stranded) (map (name_at live) assign))
length-moves stranded assign live are =
    omega (
      arith,
      are.each,
      length-zip (map (λ (entry : Stranded). entry.id) stranded) (map (name_at live) assign),
      length-map stranded (λ (entry : Stranded). entry.id),
      length-map assign (name_at live),
    )

-- the first move, and those after it
pub move-read : (stranded rest : List Stranded) (entry : Stranded) (assign left : List ℕ) (live : List Live)
    (c : ℕ) (consumer : Live)
    → stranded ≡ entry ∷ rest → assign ≡ c ∷ left → AreMoves stranded assign live
    → zip (map (λ (entry : Stranded). entry.id) stranded) (map (name_at live) assign)
    ≡ (entry.id, (get_or live c consumer).name) ∷ zip (map (λ (entry : Stranded). entry.id) rest)
    (map (name_at live) left)
move-read stranded rest entry assign left live c consumer first to are =
    let moves : List Stranded → List ℕ → List (Id × Text) =
    λ xs cs. zip (map (λ (entry : Stranded). entry.id) xs) (map (name_at live) cs) in
    let all : All (λ k. k < length live) (c ∷ left) = rw to at are.consumers in
    let named : name_at live c ≡ (get_or live c consumer).name =
    get_or-map (λ (consumer : Live). consumer.name) live c consumer [] (All-head (λ k. k < length live) c left all) in
    ap (λ xs. moves xs assign) first ∙ ap (moves (entry ∷ rest)) to
    ∙ ap (λ (name : Text). (entry.id, name) ∷ moves rest left) named

pub moves-left : (stranded rest : List Stranded) (entry : Stranded) (assign left : List ℕ) (live : List Live) (c : ℕ)
    → stranded ≡ entry ∷ rest → assign ≡ c ∷ left → AreMoves stranded assign live → AreMoves rest left live
moves-left stranded rest entry assign left live c first to are =
    let all : All (λ k. k < length live) (c ∷ left) = rw to at are.consumers in
    record {
      each = omega (arith, are.each, ap length first, ap length to);
      consumers = All-tail (λ k. k < length live) c left all;
    }

-- the first entry of a shortage, and those after it
pub id-read : (set left : List ℕ) (i : ℕ) (stranded : List Stranded) (entry : Stranded) → set ≡ i ∷ left
    → All (λ k. k < length stranded) set
    → map (id_at stranded) set ≡ (get_or stranded i entry).id ∷ map (id_at stranded) left
id-read set left i stranded entry first all =
    let all : All (λ k. k < length stranded) (i ∷ left) = rw first at all in
    let named : id_at stranded i ≡ (get_or stranded i entry).id =
    get_or-map (λ (entry : Stranded). entry.id) stranded i entry (record { ms = 0; seq = 0 })
    (All-head (λ k. k < length stranded) i left all) in
    ap (map (id_at stranded)) first ∙ ap (λ (id : Id). id ∷ map (id_at stranded) left) named

pub ids-left : (set left : List ℕ) (i : ℕ) (stranded : List Stranded) → set ≡ i ∷ left
    → All (λ k. k < length stranded) set
    → All (λ k. k < length stranded) left
ids-left set left i stranded first all =
    let all : All (λ k. k < length stranded) (i ∷ left) =
    rw first at all in All-tail (λ k. k < length stranded) i left all

-- a price list begins with those of the first consumer
pub prices-enough : (live rest : List Live) (consumer : Live) (prices : List ℕ) → live ≡ consumer ∷ rest
    → ArePrices live prices
    → tier_count consumer ≤ length prices
prices-enough live rest consumer prices first are =
    omega (arith, are ∙ ap (sum_by tier_count) first, sum_by-cons tier_count consumer rest)

-- the prices of the first consumer, and those after it
pub prices-read : (live rest : List Live) (consumer : Live) (prices : List ℕ) → live ≡ consumer ∷ rest
    → prices_by live prices
    ≡ (consumer.name, take (tier_count consumer) prices) ∷ prices_by rest (drop (tier_count consumer) prices)
prices-read live rest consumer prices first = ap (λ (l : List Live). prices_by l prices) first

pub prices-left : (live rest : List Live) (consumer : Live) (prices : List ℕ) → live ≡ consumer ∷ rest
    → ArePrices live prices
    → ArePrices rest (drop (tier_count consumer) prices)
prices-left live rest consumer prices first are =
    omega (
      arith,
      are ∙ ap (sum_by tier_count) first,
      sum_by-cons tier_count consumer rest,
      length-drop (tier_count consumer) prices,
    )

-- as many as consumers
pub length-prices : (live : List Live) (prices : List ℕ) → length live ≡ length (prices_by live prices)
length-prices [] prices = refl
length-prices (consumer ∷ live) prices = omega (arith, length-prices live (drop (tier_count consumer) prices))

-- prices that can be told can be told consumer by consumer
pub prices-told : (live : List Live) (prices : List ℕ) → AreTold prices
    → All (λ own. AreTold own.1) (prices_by live prices)
prices-told [] prices told = All-nil (λ own. AreTold own.1)
prices-told (consumer ∷ live) prices told =
    All-cons (λ own. AreTold own.1) (consumer.name, take (tier_count consumer) prices)
    (prices_by live (drop (tier_count consumer) prices))
    (All-take (λ price. price < 2 ^ 63) (tier_count consumer) prices told)
    (prices-told live (drop (tier_count consumer) prices)
    (All-drop (λ price. price < 2 ^ 63) (tier_count consumer) prices told))
