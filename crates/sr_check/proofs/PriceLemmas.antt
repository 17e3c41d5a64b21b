-- The prices of consumers are there in one way, and are read one by one.
use Rattle.std.proofs.Common.{◌≡◌, ℕ, suc, ◌+◌, ◌^◌, ◌<◌, ◌≤◌, pos, true, false, cond, Option, Some, None, is_some}
use Rattle.std.proofs.Common.{List, [], ◌∷◌, ◌++◌, length, get_or, map, take, append_assoc, refl, sym, ap, ◌∙◌, subst}
use Rattle.std.proofs.Common.{arith}
use Rattle.std.specs.Option.{is_none, option_to_list}
use Rattle.std.specs.List.{flat_map}
use Rattle.std.proofs.lemmas.List.{append-nil, length-map}
use Rattle.std.proofs.lemmas.List.Concat.{flat_map-append}
use Rattle.std.proofs.lemmas.List.Elements.{All-cons, All-head, All-nil, All-tail}
use Rattle.sr_policy.specs.declared.live.Live.{Live}
use Rattle.sr_policy.specs.{tier_count}
use Rattle.sr_resp.specs.{ReplyParts, array_header, bulk_string, integer}
use Rattle.sr_resp.specs.Reply.{Int}
use Rattle.sr_resp.specs.steps.Decoding.{HasPart}
use Rattle.sr_check.specs.PlanAnswer.{AreTold}
use Rattle.sr_check.specs.steps.Read.{AreRead, ArePrices, Begins, HasPrices}
use Rattle.sr_check.proofs.ReadLemmas.{HasPart-one}
use Rattle.sr_check.proofs.BeginsLemmas.{Begins-append, Begins-cut, Begins-rest, Begins-front, none-Begins, Begins-part}
use Rattle.sr_check.proofs.BeginsLemmas.{part-Begins}
use Rattle.sr_check.proofs.AreReadLemmas.{AreRead-all, AreRead-more, HasArray-one, HasArray-stuck, IsOne}
use Rattle.sr_check.proofs.ListLemmas.{flat}

-- ---- how many tiers a consumer has

count_some : (tier : Option (ℕ × ℕ)) → 0 < cond (is_some tier) 2 1
count_some None = omega arith
count_some (Some tier) = omega arith

count_one : (tier : Option (ℕ × ℕ)) → is_none tier ≡ true → ◌≡◌ {A = ℕ} (cond (is_some tier) 2 1) 1
count_one None none = refl
count_one (Some tier) none = absurd (cc none)

count_two : (tier : Option (ℕ × ℕ)) → is_none tier ≡ false → ◌≡◌ {A = ℕ} (cond (is_some tier) 2 1) 2
count_two None none = absurd (cc none)
count_two (Some tier) none = refl

pub one_tier : (consumer : Live) → is_none consumer.tier ≡ true → tier_count consumer ≡ 1
one_tier consumer none = count_one consumer.tier none

pub two_tiers : (consumer : Live) → is_none consumer.tier ≡ false → tier_count consumer ≡ 2
two_tiers consumer some = count_two consumer.tier some

-- ---- prices one after another

abbrev pub price_part : ℕ → ReplyParts
price_part price = integer (pos price)

abbrev pub listed : List ℕ → ReplyParts
listed prices = flat (map price_part prices)

told_first : (price : ℕ) (prices : List ℕ) → AreTold (price ∷ prices) → price < 2 ^ 63
told_first price prices told = All-head (λ (n : ℕ). n < 2 ^ 63) price prices told

told_rest : (price : ℕ) (prices : List ℕ) → AreTold (price ∷ prices) → AreTold prices
told_rest price prices told = All-tail (λ (n : ℕ). n < 2 ^ 63) price prices told

told_more : (price : ℕ) (prices : List ℕ) → price < 2 ^ 63 → AreTold prices → AreTold (price ∷ prices)
told_more price prices small told = All-cons (λ (n : ℕ). n < 2 ^ 63) price prices small told

told_none : AreTold []
told_none = All-nil (λ (n : ℕ). n < 2 ^ 63)

listed-one : (ps qs text x y : List ℕ) → length ps ≡ length qs → AreTold ps → AreTold qs → Begins text (listed ps) x
    → Begins text (listed qs) y → (ps ≡ qs) × (x ≡ y)
listed-one [] [] text x y same a b first second = (refl, sym (none-Begins text x first) ∙ none-Begins text y second)
listed-one [] (q ∷ qs) text x y same a b first second = absurd (omega arith)
listed-one (p ∷ ps) [] text x y same a b first second = absurd (omega arith)
listed-one (p ∷ ps) (q ∷ qs) text x y same a b first second =
    let d = Begins-cut text x (integer (pos p)) (listed ps) first in
    let e = Begins-cut text y (integer (pos q)) (listed qs) second in
    let here = HasPart-one text (Int (pos p)) (Int (pos q)) d.0 e.0
    (part-Begins text d.0 (Int (pos p)) (told_first p ps a) d.1)
    (part-Begins text e.0 (Int (pos q)) (told_first q qs b) e.1) in
    let moved = subst (λ t. Begins t (listed qs) y) (sym here.1) e.2 in
    let rest = listed-one ps qs d.0 x y (omega arith) (told_rest p ps a) (told_rest q qs b) d.2 moved in
    (cc (here.0, rest.0), rest.1)

-- no integer, where a price should be
no_listed : (prices text after : List ℕ) → 0 < length prices → AreTold prices
    → ((n : ℕ) (x : List ℕ) → HasPart text (Int (pos n)) x → ⊥) → Begins text (listed prices) after → ⊥
no_listed [] text after some told none is = absurd (omega arith)
no_listed (price ∷ prices) text after some told none is =
    let cut = Begins-cut text after (integer (pos price)) (listed prices) is in
    none price cut.0 (part-Begins text cut.0 (Int (pos price)) (told_first price prices told) cut.1)

-- no integer, where a second price should be
no_listed-next : (prices text next after : List ℕ) (n : ℕ) → 1 < length prices → AreTold prices
    → HasPart text (Int (pos n)) next → ((k : ℕ) (x : List ℕ) → HasPart next (Int (pos k)) x → ⊥)
    → Begins text (listed prices) after → ⊥
no_listed-next [] text next after n some told has none is = absurd (omega arith)
no_listed-next (price ∷ prices) text next after n some told has none is =
    let cut = Begins-cut text after (integer (pos price)) (listed prices) is in
    let first = part-Begins text cut.0 (Int (pos price)) (told_first price prices told) cut.1 in
    let same = HasPart-one text (Int (pos price)) (Int (pos n)) cut.0 next first has in
    no_listed prices next after (omega arith) (told_rest price prices told) none
    (subst (λ t. Begins t (listed prices) after) same.1 cut.2)

-- ---- the prices of one consumer

-- a name and as many prices as there are tiers
prices-begin : (consumer : Live) (text prices after : List ℕ) (m : ℕ) → m ≡ tier_count consumer + 1
    → HasPrices consumer text prices after
    → Begins text (array_header m ++ (bulk_string consumer.name ++ listed prices)) after
prices-begin consumer text prices after m counted has =
    let many : suc (length (map price_part prices)) ≡ m =
    omega (arith, counted, has.each, length-map prices price_part) in
    subst (λ k. Begins text (array_header k ++ (bulk_string consumer.name ++ listed prices)) after) many has.begins

-- no header
pub no_prices-header : (consumer : Live) (text prices after : List ℕ) (m : ℕ) → m ≡ tier_count consumer + 1
    → ((x : List ℕ) → Begins text (array_header m) x → ⊥) → HasPrices consumer text prices after → ⊥
no_prices-header consumer text prices after m counted none has =
    none _ (Begins-front text after (array_header m) (bulk_string consumer.name ++ listed prices) (prices-begin consumer
    text prices after m counted has))

prices-name : (consumer : Live) (text name prices after : List ℕ) (m : ℕ) → m ≡ tier_count consumer + 1
    → Begins text (array_header m) name → HasPrices consumer text prices after
    → Begins name (bulk_string consumer.name ++ listed prices) after
prices-name consumer text name prices after m counted header has =
    Begins-rest text name after (array_header m) (bulk_string consumer.name ++ listed prices) header
    (prices-begin consumer text prices after m counted has)

-- after the header, no such name
pub no_prices-name : (consumer : Live) (text name prices after : List ℕ) (m : ℕ) → m ≡ tier_count consumer + 1
    → Begins text (array_header m) name → ((x : List ℕ) → Begins name (bulk_string consumer.name) x → ⊥)
    → HasPrices consumer text prices after → ⊥
no_prices-name consumer text name prices after m counted header none has =
    none _ (Begins-front name after (bulk_string consumer.name) (listed prices) (prices-name consumer text name prices
    after m counted header has))

-- after the name, the prices
prices-listed : (consumer : Live) (text name first prices after : List ℕ) (m : ℕ) → m ≡ tier_count consumer + 1
    → Begins text (array_header m) name → Begins name (bulk_string consumer.name) first
    → HasPrices consumer text prices after → Begins first (listed prices) after
prices-listed consumer text name first prices after m counted header named has =
    Begins-rest name first after (bulk_string consumer.name) (listed prices) named
    (prices-name consumer text name prices after m counted header has)

pub no_prices-first : (consumer : Live) (text name first prices after : List ℕ) (m : ℕ) → m ≡ tier_count consumer + 1
    → Begins text (array_header m) name → Begins name (bulk_string consumer.name) first
    → ((n : ℕ) (x : List ℕ) → HasPart first (Int (pos n)) x → ⊥) → HasPrices consumer text prices after → ⊥
no_prices-first consumer text name first prices after m counted header named none has =
    no_listed prices first after (omega (arith, has.each, count_some consumer.tier)) has.told none
    (prices-listed consumer text name first prices after m counted header named has)

pub no_prices-second : (consumer : Live) (text name first second prices after : List ℕ) (m n : ℕ)
    → m ≡ tier_count consumer + 1 → Begins text (array_header m) name → Begins name (bulk_string consumer.name) first
    → HasPart first (Int (pos n)) second → tier_count consumer ≡ 2
    → ((n : ℕ) (x : List ℕ) → HasPart second (Int (pos n)) x → ⊥) → HasPrices consumer text prices after → ⊥
no_prices-second consumer text name first second prices after m n counted header named priced two none has =
    no_listed-next prices first second after n (omega (arith, has.each, two)) has.told priced none
    (prices-listed consumer text name first prices after m counted header named has)

-- what is read is there
HasPrices-read : (consumer : Live) (text name first prices after : List ℕ) (m : ℕ) → m ≡ tier_count consumer + 1
    → Begins text (array_header m) name → Begins name (bulk_string consumer.name) first
    → length prices ≡ tier_count consumer → AreTold prices → Begins first (listed prices) after
    → HasPrices consumer text prices after
HasPrices-read consumer text name first prices after m counted header named each told is =
    let many : m ≡ suc (length (map price_part prices)) = omega (arith, counted, each, length-map prices price_part) in
    let last = Begins-append name first after (bulk_string consumer.name) (listed prices) named is in
    let whole =
    Begins-append text name after (array_header m) (bulk_string consumer.name ++ listed prices) header last in
    record {
      each = each;
      told = told;
      begins =
          subst (λ k. Begins text (array_header k ++ (bulk_string consumer.name ++ listed prices)) after) many whole;
    }

pub HasPrices-one_tier : (consumer : Live) (text name first after : List ℕ) (m n : ℕ) → m ≡ tier_count consumer + 1
    → Begins text (array_header m) name → Begins name (bulk_string consumer.name) first
    → HasPart first (Int (pos n)) after → tier_count consumer ≡ 1 → HasPrices consumer text (n ∷ []) after
HasPrices-one_tier consumer text name first after m n counted header named priced one =
    HasPrices-read consumer text name first (n ∷ []) after m counted header named (sym one)
    (told_more n [] priced.fits told_none) (Begins-part first after (Int (pos n)) priced)

pub HasPrices-two_tiers : (consumer : Live) (text name first second after : List ℕ) (m n k : ℕ)
    → m ≡ tier_count consumer + 1 → Begins text (array_header m) name → Begins name (bulk_string consumer.name) first
    → HasPart first (Int (pos n)) second → HasPart second (Int (pos k)) after → tier_count consumer ≡ 2
    → HasPrices consumer text (n ∷ k ∷ []) after
HasPrices-two_tiers consumer text name first second after m n k counted header named priced next two =
    HasPrices-read consumer text name first (n ∷ k ∷ []) after m counted header named (sym two)
    (told_more n (k ∷ []) priced.fits (told_more k [] next.fits told_none))
    (Begins-append first second after (integer (pos n)) (integer (pos k))
    (Begins-part first second (Int (pos n)) priced) (Begins-part second after (Int (pos k)) next))

pub HasPrices-one : IsOne HasPrices
HasPrices-one consumer text ps qs x y a b =
    let m = tier_count consumer + 1 in
    let front = array_header m ++ bulk_string consumer.name in
    let cut = Begins-cut text x front (listed ps) (prices-begin consumer text ps x m refl a) in
    let rest = Begins-rest text cut.0 y front (listed qs) cut.1 (prices-begin consumer text qs y m refl b) in
    listed-one ps qs cut.0 x y (a.each ∙ sym b.each) a.told b.told cut.2 rest

-- ---- the prices of all consumers

pub ArePrices-one : (live : List Live) (text ps qs x y : List ℕ) → ArePrices live text ps x → ArePrices live text qs y
    → (ps ≡ qs) × (x ≡ y)
ArePrices-one live text ps qs x y a b =
    let same = HasArray-one HasPrices HasPrices-one live text a.grouped b.grouped x y a.shares b.shares in
    (a.in_turn ∙ ap (flat_map (λ own. own)) same.0 ∙ sym b.in_turn, same.1)

-- of the consumers so far, in a loop
pub record ArePriced (live : List Live) (start prices left : List ℕ) : Type 0 where
  pub grouped : List (List ℕ)
  pub read : AreRead HasPrices live start grouped left
  pub in_turn : prices ≡ flat_map (λ own. own) grouped

pub ArePriced-start : (start prices : List ℕ) → prices ≡ [] → ArePriced [] start prices start
ArePriced-start start prices none = record { grouped = []; read = refl; in_turn = none }

pub ArePriced-more : (live : List Live) (i : ℕ) (start prices own all left next : List ℕ) (consumer : Live)
    → i < length live → consumer ≡ get_or live i consumer → all ≡ prices ++ own
    → ArePriced (take i live) start prices left → HasPrices consumer left own next
    → ArePriced (take (i + 1) live) start all next
ArePriced-more live i start prices own all left next consumer lt is grown was has =
    let last : flat_map (λ (o : List ℕ). o) (own ∷ []) ≡ own = append-nil own in
    record {
      grouped = was.grouped ++ own ∷ [];
      read = AreRead-more HasPrices live i start was.grouped left next consumer own lt is was.read has;
      in_turn = grown ∙ ap (λ (t : List ℕ). t ++ own) was.in_turn
          ∙ ap (λ (t : List ℕ). flat_map (λ (o : List ℕ). o) was.grouped ++ t) (sym last)
          ∙ sym (flat_map-append (λ (o : List ℕ). o) was.grouped (own ∷ []));
    }

pub ArePriced-all : (live : List Live) (i : ℕ) (text start prices left : List ℕ) → length live ≤ i
    → Begins text (array_header (length live)) start → ArePriced (take i live) start prices left
    → ArePrices live text prices left
ArePriced-all live i text start prices left past header was = record {
  grouped = was.grouped;
  shares = record {
    items = start;
    header = header;
    read = AreRead-all HasPrices live i start was.grouped left past was.read;
  };
  in_turn = was.in_turn;
}

pub ArePriced-stuck : (live : List Live) (i : ℕ) (text start prices left : List ℕ) (consumer : Live)
    → Begins text (array_header (length live)) start → i < length live → consumer ≡ get_or live i consumer
    → ArePriced (take i live) start prices left
    → ((own next : List ℕ) → HasPrices consumer left own next → ⊥)
    → (others after : List ℕ) → ArePrices live text others after → ⊥
ArePriced-stuck live i text start prices left consumer header lt is was none others after are =
    HasArray-stuck HasPrices HasPrices-one live i consumer text start was.grouped are.grouped left after header lt is
    was.read none are.shares

-- one or two prices more
pub grown_two : (old one all : List ℕ) (price n : ℕ) (next : Option ℕ) → next ≡ Some n → one ≡ old ++ price ∷ []
    → all ≡ one ++ n ∷ [] → all ≡ old ++ (price ∷ option_to_list next)
grown_two old one all price n next is first second =
    second ∙ ap (λ (t : List ℕ). t ++ n ∷ []) first ∙ append_assoc old (price ∷ []) (n ∷ [])
    ∙ ap (λ (o : Option ℕ). old ++ (price ∷ option_to_list o)) (sym is)

pub grown_one : (old one all : List ℕ) (price : ℕ) (next : Option ℕ) → next ≡ None → one ≡ old ++ price ∷ []
    → all ≡ one → all ≡ old ++ (price ∷ option_to_list next)
grown_one old one all price next is first second =
    second ∙ first ∙ ap (λ (o : Option ℕ). old ++ (price ∷ option_to_list o)) (sym is)
