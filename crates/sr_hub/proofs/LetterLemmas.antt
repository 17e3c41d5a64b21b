-- Letters of records, one after another.
use Rattle.std.proofs.Common.{◌≡◌, ◌≤◌, ◌<◌, ◌⊎◌, inl, inr, ℕ, ◌+◌, ◌-◌, min, List, [], ◌∷◌, ◌++◌, length, get_or, map, drop, drop-drop, refl, ap, sym, ◌∙◌, arith}
use Rattle.std.proofs.lemmas.Bool.{cases_lt}
use Rattle.std.proofs.lemmas.List.{drop_all, drop_more, get_or-map, length-drop, length-map}
use Rattle.sr_resp.specs.{ReplyParts}
use Rattle.sr_book.specs.{Recorded}
use Rattle.sr_hub.specs.steps.Letters.{lettered_after, lettered_in, sessions_of}

-- ---- the replies of one record

pub session-there : (replies : List (ℕ × ReplyParts)) (place : ℕ) (d : ℕ × ReplyParts) → place < length replies
    → drop place (sessions_of replies) ≡ (get_or replies place d).0 ∷ drop (place + 1) (sessions_of replies)
session-there replies place d within =
    let session : ℕ × ReplyParts → ℕ = λ reply. reply.0 in
    let same : length (map session replies) ≡ length replies = length-map replies session in
    let long : place < length (map session replies) = omega (arith, same, within) in
    drop_more (map session replies) place d.0 long ∙ ap (λ (n : ℕ). n ∷ drop (place + 1) (map session replies)) (get_or-map session replies place d d.0 within)

-- ---- the records

from_place : (records : List Recorded) (place : ℕ) (one : Recorded) → place < length records → one ≡ get_or records place one → drop place records ≡ one ∷ drop (place + 1) records
from_place records place one within read = drop_more records place one within ∙ ap (λ (x : Recorded). x ∷ drop (place + 1) records) (sym read)

-- a record without a further letter
pub lettered-passed : (records : List Recorded) (place before : ℕ) (one : Recorded) (all : List ℕ) → place < length records → one ≡ get_or records place one → drop before (lettered_in one) ≡ []
    → lettered_after before (drop place records) ≡ all → lettered_after 0 (drop (place + 1) records) ≡ all
lettered-passed records place before one all within read none so_far =
    let rest = lettered_after 0 (drop (place + 1) records) in
    sym (ap (λ (l : List Recorded). lettered_after before l) (from_place records place one within read) ∙ ap (λ (l : List ℕ). l ++ rest) none) ∙ so_far

-- one that gives a further one
pub lettered-found : (records : List Recorded) (place before session : ℕ) (one : Recorded) (all : List ℕ) → place < length records → one ≡ get_or records place one
    → drop before (lettered_in one) ≡ session ∷ drop (before + 1) (lettered_in one) → lettered_after before (drop place records) ≡ all
    → all ≡ session ∷ lettered_after (before + 1) (drop place records)
lettered-found records place before session one all within read some so_far =
    let rest = lettered_after 0 (drop (place + 1) records) in
    let here = from_place records place one within read in
    sym so_far ∙ ap (λ (l : List Recorded). lettered_after before l) here ∙ ap (λ (l : List ℕ). l ++ rest) some
    ∙ ap (λ (l : List Recorded). session ∷ lettered_after (before + 1) l) (sym here)

-- all of them
pub lettered-end : (records : List Recorded) (place before : ℕ) (all : List ℕ) → length records ≤ place → lettered_after before (drop place records) ≡ all → all ≡ []
lettered-end records place before all beyond so_far = sym so_far ∙ ap (λ (l : List Recorded). lettered_after before l) (drop_all place records beyond)

-- ---- those of a book that were not looked at

pub unseen-next : (base looked passed seen further before session : ℕ) (records : List Recorded) → base ≤ looked → seen ≡ min (length records) (looked - base) → further < length (drop seen records)
    → lettered_after passed (drop seen records) ≡ session ∷ lettered_after before (drop further (drop seen records))
    → lettered_after passed (drop (looked - base) records) ≡ session ∷ lettered_after before (drop (looked + further - base) records)
unseen-next base looked passed seen further before session records le is within next =
    let left : length (drop seen records) ≡ length records - seen = length-drop seen records in
    let here : looked - base ≡ seen = omega (arith, le, is, left, within) in
    let there : looked + further - base ≡ seen + further = omega (arith, le, here) in
    ap (λ (n : ℕ). lettered_after passed (drop n records)) here ∙ next
    ∙ ap (λ (l : List Recorded). session ∷ lettered_after before l) (drop-drop further seen records)
    ∙ ap (λ (n : ℕ). session ∷ lettered_after before (drop n records)) (sym there)

pub unseen-none : (base looked passed seen : ℕ) (records : List Recorded) → base ≤ looked → seen ≡ min (length records) (looked - base)
    → lettered_after passed (drop seen records) ≡ [] → lettered_after passed (drop (looked - base) records) ≡ []
unseen-none base looked passed seen records le is none =
    elim (cases_lt (length records) (looked - base)) [
      | inl beyond ↦ ap (λ (l : List Recorded). lettered_after passed l) (drop_all (looked - base) records (omega (arith, beyond)))
      | inr within ↦
          let here : looked - base ≡ seen = omega (arith, is, within) in
          ap (λ (n : ℕ). lettered_after passed (drop n records)) here ∙ none
    ]
