-- What is spelled as a request is one.
use Rattle.std.proofs.Common.{ℕ, ◌^◌, ◌<◌, ◌≤◌, List, [], ◌∷◌, length, refl, arith}
use Rattle.std.specs.Prelude.{All, decimal, sum_by}
use Rattle.std.specs.List.{flat_map}
use Rattle.std.proofs.lemmas.Fmt.{decimal_is_IsNumeral, decimal_nonempty, length-decimal-le}
use Rattle.std.proofs.lemmas.List.Elements.{All-head, All-tail}
use Rattle.sr_bytes.specs.{IsDecimal}
use Rattle.sr_resp.specs.Request.{IsRequest, AreWords}
use Rattle.sr_peer.specs.Reply.{Bulk, part_text, request_text}

short-decimal : (n : ℕ) → n ≤ 1048576 → IsDecimal 10 (decimal n) n
short-decimal n few =
    let small : n < 2 ^ 64 = omega arith in
    let numeral = decimal_is_IsNumeral n small in
    record {
      some = decimal_nonempty n small;
      few = length-decimal-le 10 n (omega arith) (omega arith) small;
      each = numeral.0.1;
      value = numeral.1;
    }

are-words : (words : List (List ℕ)) → All (λ word. length word ≤ 1048576) words
    → AreWords (flat_map (λ word. part_text (Bulk word)) words) words
are-words [] short = refl
are-words (word ∷ words) short =
    let few : length word ≤ 1048576 = All-head (λ word. length word ≤ 1048576) word words short in (
      part_text (Bulk word),
      flat_map (λ word. part_text (Bulk word)) words,
      record { digits = decimal (length word); number = short-decimal (length word) few; short = few; spelled = refl },
      are-words words (All-tail (λ word. length word ≤ 1048576) word words short),
      refl,
    )

pub is-request : (words : List (List ℕ)) → 0 < length words → length words ≤ 4096 → sum_by length words ≤ 16777216
    → All (λ word. length word ≤ 1048576) words → IsRequest (request_text words) words
is-request words some few small short = record {
  digits = decimal (length words);
  body = flat_map (λ word. part_text (Bulk word)) words;
  number = short-decimal (length words) (omega arith);
  some = some;
  few = few;
  small = small;
  each = are-words words short;
  spelled = refl;
}
