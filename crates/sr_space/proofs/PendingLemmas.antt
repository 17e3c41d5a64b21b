-- What XPENDING writes, line by line.
use Rattle.std.proofs.Common.{◌≡◌, ℕ, suc, ◌+◌, ◌^◌, ◌<◌, ◌≤◌, add-one, drop, drop-cons, get_or, List, [], ◌∷◌, ◌++◌, length, map, refl, ap, sym, ◌∙◌, append_assoc}
use Rattle.std.specs.List.{All, flat_map}
use Rattle.std.proofs.lemmas.List.{drop_all, get_or-map}
use Rattle.std.proofs.lemmas.List.Elements.{All-filter, All-head, All-tail, All-take}
use Rattle.sr_pending.specs.declared.nack.Nack.{Nack}
use Rattle.sr_pending.specs.{IsCountable, owned_by}
use Rattle.sr_group.specs.declared.consumer.Consumer.{Consumer}
use Rattle.sr_group.specs.{counts_of}
use Rattle.sr_resp.specs.{ReplyParts, array_header, array_of}
use Rattle.sr_resp.specs.Reply.{Part, IsReply}
use Rattle.sr_resp.proofs.CallerLemmas.{IsReply-array_of_map}
use Rattle.sr_args.specs.declared.commands.xpending.PendingAsked.{PendingAsked}
use Rattle.sr_space.specs.commands.Xpending.{at_least_0, listing_of, nack_answer, share_of, shares_of}
use Rattle.sr_space.proofs.ArrayLemmas.{HasLeft, left-after, left-none, map-written}

-- lines of all are written, and these are left
pub record IsListing (moment : ℕ) (all left : List Nack) (draft : List Part) : Type 0 where
  pub written : draft ++ flat_map (nack_answer moment) left ≡ array_header (length all) ++ flat_map (nack_answer moment) all
  pub countable : All IsCountable left

pub All-listing : (moment : ℕ) (asked : PendingAsked) (nacks : List Nack) → All IsCountable nacks → All IsCountable (listing_of moment asked nacks)
All-listing moment asked nacks all =
    All-take IsCountable (at_least_0 asked.count) _ (All-filter _ IsCountable _ (All-filter _ IsCountable _ (All-filter _ IsCountable nacks all)))

module _ (moment : ℕ) where
  pub listing-begun : (all : List Nack) → All IsCountable all → IsListing moment all all (array_header (length all))
  listing-begun all countable = record { written = refl; countable = countable }

  pub listing-next : (all old left : List Nack) (nack : Nack) (draft now : List Part) → IsListing moment all old draft → old ≡ nack ∷ left → now ≡ draft ++ nack_answer moment nack
      → IsListing moment all left now
  listing-next all old left nack draft now is next added =
      record { written = joined; countable = All-tail IsCountable nack left (rw next at is.countable) }
    where
      joined : now ++ flat_map (nack_answer moment) left ≡ array_header (length all) ++ flat_map (nack_answer moment) all
      joined = ap (λ (l : List Part). l ++ flat_map (nack_answer moment) left) added ∙ append_assoc draft (nack_answer moment nack) (flat_map (nack_answer moment) left)
          ∙ ap (λ (l : List Nack). draft ++ flat_map (nack_answer moment) l) (sym next) ∙ is.written

  -- the next entry's count can be told
  pub listing-count : (all old left : List Nack) (nack : Nack) (draft : List Part) → IsListing moment all old draft → old ≡ nack ∷ left
      → nack.count < 2 ^ 63
  listing-count all old left nack draft is next = (All-head IsCountable nack left (rw next at is.countable)).1

  pub listing-ended : (all left : List Nack) (draft : List Part) → IsListing moment all left draft → left ≡ [] → draft ≡ array_of (map (nack_answer moment) all)
  listing-ended all left draft is none = map-written (nack_answer moment) all left draft none is.written

  pub IsReply-listing : (all : List Nack) → IsReply (array_of (map (nack_answer moment) all))
  IsReply-listing all = IsReply-array_of_map (nack_answer moment) all (λ nack. refl)

-- what a consumer has in the list of shares
abbrev pub share_in : List Nack → Consumer → List ReplyParts
share_in nacks consumer = share_of consumer.name (length (owned_by consumer.name nacks))

-- the shares of the consumers from this place on are still to come
abbrev pub HasSharesFrom : ℕ → List Consumer → List Nack → ReplyParts → Type 0
HasSharesFrom place consumers nacks shares = HasLeft shares (flat_map (share_in nacks) (drop place consumers)) (flat_map (share_in nacks) consumers)

module _ (consumers : List Consumer) (nacks : List Nack) where
  share_at : (place : ℕ) (consumer : Consumer) → place < length consumers → consumer ≡ get_or consumers place consumer
      → share_of consumer.name (get_or (counts_of consumers nacks) place 0) ≡ share_in nacks consumer
  share_at place consumer below at =
      ap (share_of consumer.name) (get_or-map (λ (c : Consumer). length (owned_by c.name nacks)) consumers place consumer 0 below ∙ ap (λ (c : Consumer). length (owned_by c.name nacks)) (sym at))

  rest_at : (place : ℕ) (consumer : Consumer) → place < length consumers → consumer ≡ get_or consumers place consumer → drop place consumers ≡ consumer ∷ drop (place + 1) consumers
  rest_at place consumer below at = rw (add-one, drop-cons consumers place consumer below) (ap (λ (c : Consumer). c ∷ drop (suc place) consumers) (sym at))

  pub shares-next : (place : ℕ) (consumer : Consumer) (counts : List ℕ) (shares now : ReplyParts) → place < length consumers → consumer ≡ get_or consumers place consumer → counts ≡ counts_of consumers nacks
      → HasSharesFrom place consumers nacks shares → ((items : List ReplyParts) → shares ≡ array_of items → now ≡ array_of (items ++ share_of consumer.name (get_or counts place 0)))
      → HasSharesFrom (place + 1) consumers nacks now
  shares-next place consumer counts shares now below at are has added =
      left-after shares now (share_in nacks consumer) (flat_map (share_in nacks) (drop (place + 1) consumers)) (flat_map (share_in nacks) consumers)
      (rw (rest_at place consumer below at) at has)
      (λ items is. added items is ∙ ap (λ (more : List ReplyParts). array_of (items ++ more)) (ap (λ (l : List ℕ). share_of consumer.name (get_or l place 0)) are ∙ share_at place consumer below at))

  pub shares-ended : (place : ℕ) (shares : ReplyParts) → length consumers ≤ place → HasSharesFrom place consumers nacks shares → shares ≡ array_of (flat_map (share_in nacks) consumers)
  shares-ended place shares past has =
      left-none shares (flat_map (share_in nacks) (drop place consumers)) (flat_map (share_in nacks) consumers) has (ap (flat_map (share_in nacks)) (drop_all place consumers past))

-- with something pending, the answer is the list of shares
pub shares_of-some : (consumers : List Consumer) (nacks : List Nack) → (length nacks ≡ 0 → ⊥) → shares_of consumers nacks ≡ array_of (flat_map (share_in nacks) consumers)
shares_of-some consumers [] some = absurd (some refl)
shares_of-some consumers (nack ∷ nacks) some = refl
