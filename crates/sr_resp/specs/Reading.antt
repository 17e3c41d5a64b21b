-- What is read at the front of some bytes: a value and the bytes after it, or why reading stops. Only private clauses
-- cite this. The lemmas in proofs/ show that it is exact for the spellings in Request.

use Rattle.std.specs.Prelude.{◌≡◌, ℕ, zero, suc, ◌+◌, ◌-◌, ◌*◌, List, [], ◌∷◌, ◌++◌, length, take, drop, Option, Some}
use Rattle.std.specs.Prelude.{None, Result, Ok, Err, nat_lt, nat_le, ◌==◌, ◌&&◌, if◌then◌else◌, codes, min, Bool}
use Rattle.std.specs.Prelude.{MatchBool}
use Rattle.std.specs.Char.{digit_value}
use Rattle.sr_resp.specs.Reply.{line_end}
use Rattle.sr_resp.specs.Request.{Words}
use Rattle.sr_resp.specs.Stream.{Splits, IsPartial, IsFault, Progress}

-- the bytes end too early, or one of them cannot follow the ones before it
pub data Halt : Type 0 where
  More : Halt
  Bad : Halt

infixl 10 ◌>>=◌
abbrev pub ◌>>=◌ : {A B : Type 0} → Result A Halt → (A → Result B Halt) → Result B Halt
(Ok x) >>= f = f x
(Err e) >>= f = Err e

-- a text
abbrev pub literal_at : List ℕ → List ℕ → Result (Unit {0} × List ℕ) Halt
literal_at [] bytes = Ok (tt, bytes)
literal_at (c ∷ text) [] = Err More
literal_at (c ∷ text) (b ∷ bytes) = if b == c then literal_at text bytes else Err Bad

-- the rest of a number's line, after this many digits with this value
unfoldable pub digits_at : ℕ → ℕ → ℕ → List ℕ → Result (ℕ × List ℕ) Halt
digits_at most count value [] = Err More
digits_at most count value (b ∷ bytes) =
    if nat_lt (digit_value b) 10
    then (if nat_lt count 10 && nat_le (value * 10 + digit_value b) most
    then digits_at most (count + 1) (value * 10 + digit_value b) bytes else Err Bad)
    else (if count == 0 then Err Bad else (literal_at line_end (b ∷ bytes) >>= λ x. Ok (value, x.1)))

-- this many bytes
abbrev pub bytes_at : ℕ → List ℕ → Result (List ℕ × List ℕ) Halt
bytes_at n bytes = if nat_lt (length bytes) n then Err More else Ok (take n bytes, drop n bytes)

-- a word of at most this many bytes
unfoldable pub word_at : ℕ → List ℕ → Result (List ℕ × List ℕ) Halt
word_at room bytes = do
  mark ← literal_at (codes "$") bytes
  len ← digits_at (min room 1048576) 0 0 mark.1
  word ← bytes_at len.0 len.1
  end ← literal_at line_end word.1
  Ok (word.0, end.1)

-- this many words, with at most this many bytes in all
unfoldable pub words_at : ℕ → ℕ → List ℕ → Result (Words × List ℕ) Halt
words_at zero room bytes = Ok ([], bytes)
words_at (suc n) room bytes = do
  first ← word_at room bytes
  others ← words_at n (room - length first.0) first.1
  Ok (first.0 ∷ others.0, others.1)

-- what follows the number of words
abbrev pub counted_at : ℕ → List ℕ → Result (Option Words × List ℕ) Halt
counted_at count bytes =
    if count == 0 then Ok (None, bytes) else (words_at count 16777216 bytes >>= λ words. Ok (Some words.0, words.1))

-- what follows the mark of an array that has a number of words
abbrev pub numbered_at : List ℕ → Result (Option Words × List ℕ) Halt
numbered_at bytes = do
  count ← digits_at 4096 0 0 bytes
  counted_at count.0 count.1

-- what follows the mark of an array
unfoldable pub array_at : List ℕ → Result (Option Words × List ℕ) Halt
array_at [] = numbered_at []
array_at (b ∷ bytes) =
    if b == 45 then (literal_at (codes "-1\r\n") (b ∷ bytes) >>= λ x. Ok (None, x.1)) else numbered_at (b ∷ bytes)

-- a request or an empty command
unfoldable pub item_at : List ℕ → Result (Option Words × List ℕ) Halt
item_at bytes = do
  mark ← literal_at (codes "*") bytes
  array_at mark.1

-- the bytes are these requests, with empty commands among them, and then the rest, which is a fault or an incomplete
-- request
pub record Parses (bytes : List ℕ) (requests : List Words) (rest : List ℕ) (failed : Bool) : Type 0 where
  pub stream : Splits bytes requests rest
  pub end : MatchBool failed (IsFault rest) (IsPartial rest)

-- the complete requests in the rest now wait after the others
pub record Sorts (old new : Progress) : Type 0 where
  pub requests : List Words
  pub waiting : new.waiting ≡ old.waiting ++ requests
  pub found : Parses old.rest requests new.rest new.failed
