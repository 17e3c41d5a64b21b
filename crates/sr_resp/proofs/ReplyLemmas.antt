-- Replies one after another: how many they are.
use Rattle.std.proofs.Common.{◌≡◌, ℕ, ◌+◌, ◌≤◌, suc, zero, List, [], ◌∷◌, ◌++◌, length, map, refl, subst, arith}
use Rattle.std.specs.List.{flat_map, AllByRecursion}
use Rattle.sr_resp.specs.Reply.{Part}
use Rattle.sr_resp.specs.Reply.{Array}
use Rattle.sr_resp.specs.Reply.{ReplyParts, AreReplies, IsReply, items_of, array_of}

-- m replies and then n replies are m + n replies
pub AreReplies-append : (m n : ℕ) (xs ys : List Part) → AreReplies m xs → AreReplies n ys → AreReplies (m + n) (xs ++ ys)
AreReplies-append m n [] ys none behind =
    let same : n ≡ m + n = omega arith in
    subst (λ (k : ℕ). AreReplies k ys) same behind
AreReplies-append zero n (x ∷ xs) ys front behind = absurd front
AreReplies-append (suc m) n (x ∷ xs) ys front behind =
    let more : AreReplies (items_of x + m + n) (xs ++ ys) = AreReplies-append (items_of x + m) n xs ys front behind in
    let grouped : items_of x + m + n ≡ items_of x + (m + n) = omega arith in
    let whole : AreReplies (suc (m + n)) ((x ∷ xs) ++ ys) = subst (λ (k : ℕ). AreReplies k (xs ++ ys)) grouped more in
    let counted : suc (m + n) ≡ suc m + n = omega arith in
    subst (λ (k : ℕ). AreReplies k ((x ∷ xs) ++ ys)) counted whole

-- each reply has a part
pub AreReplies-le : (n : ℕ) (xs : List Part) → AreReplies n xs → n ≤ length xs
AreReplies-le n [] none = omega arith
AreReplies-le zero (x ∷ xs) each = absurd each
AreReplies-le (suc n) (x ∷ xs) each = omega (arith, AreReplies-le (items_of x + n) xs each)

-- an array has no more items than parts behind its header
pub items-le : (header : Part) (parts : List Part) (items : ℕ) → header ≡ Array items → IsReply (header ∷ parts) → items ≤ length parts
items-le header parts items is whole =
    let behind : AreReplies (items + 0) parts = subst (λ (part : Part). IsReply (part ∷ parts)) is whole in
    omega (arith, AreReplies-le (items + 0) parts behind)

-- an array with one reply behind it is an array of one more
pub IsReply-push : (header : Part) (parts item : List Part) (items : ℕ) → header ≡ Array items → IsReply (header ∷ parts) → IsReply item → IsReply (Array (items + 1) ∷ parts ++ item)
IsReply-push header parts item items is whole one =
    let behind : AreReplies (items + 0) parts = subst (λ (part : Part). IsReply (part ∷ parts)) is whole in
    let more : AreReplies (items + 0 + 1) (parts ++ item) = AreReplies-append (items + 0) 1 parts item behind one in
    let counted : items + 0 + 1 ≡ items + 1 + 0 = omega arith in
    subst (λ (k : ℕ). AreReplies k (parts ++ item)) counted more

-- replies, one after another
AreReplies-flat_map : (items : List ReplyParts) → AllByRecursion IsReply items → AreReplies (length items) (flat_map (λ item. item) items)
AreReplies-flat_map [] each = refl
AreReplies-flat_map (item ∷ items) each =
    let all : AreReplies (1 + length items) (item ++ flat_map (λ item. item) items) = AreReplies-append 1 (length items) item (flat_map (λ item. item) items) each.0 (AreReplies-flat_map items each.1) in
    let counted : 1 + length items ≡ length (item ∷ items) = omega arith in
    subst (λ (k : ℕ). AreReplies k (item ++ flat_map (λ item. item) items)) counted all

-- an array of replies is a reply
pub IsReply-array_of : (items : List ReplyParts) → AllByRecursion IsReply items → IsReply (array_of items)
IsReply-array_of items each =
    let counted : length items ≡ length items + 0 = omega arith in
    subst (λ (k : ℕ). AreReplies k (flat_map (λ item. item) items)) counted (AreReplies-flat_map items each)

-- and so is an array of what makes replies of values
IsReply-each : {X : Type 0} (f : X → ReplyParts) (xs : List X) → ((x : X) → IsReply (f x)) → AllByRecursion IsReply (map f xs)
IsReply-each f [] is = tt
IsReply-each f (x ∷ xs) is = (is x, IsReply-each f xs is)

pub IsReply-array_of_map : {X : Type 0} (f : X → ReplyParts) (xs : List X) → ((x : X) → IsReply (f x)) → IsReply (array_of (map f xs))
IsReply-array_of_map f xs is = IsReply-array_of (map f xs) (IsReply-each f xs is)
