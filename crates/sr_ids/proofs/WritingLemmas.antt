-- What is written of an id: it is read back, and the bytes behind it stay.
use Rattle.std.proofs.Common.{◌≡◌, ℕ, ◌+◌, ◌-◌, ◌<◌, ◌≤◌, inl, List, [], ◌∷◌, ◌++◌, length, set, take, drop, refl, sym, ap, ◌∙◌, arith}
use Rattle.std.proofs.lemmas.List.{length-append, length-set, length-drop, drop-set-lt, take_at, take_more_set}
use Rattle.std.proofs.lemmas.Slice.{take-put_mid, drop-put_mid, drop-append-drop}
use Rattle.sr_bytes.proofs.DecimalLemmas.{IsDecimal-decimal}
use Rattle.sr_ids.specs.declared.id.Id.{Id}
use Rattle.sr_ids.specs.Id.{IsId}
use Rattle.sr_ids.specs.Spelling.{SpellsId, spelling}
use Rattle.std.specs.Prelude.{codes, decimal}
use borrow.Rule.Slice.PartMut.{put_mid}

pub spelling-reads_back : (missing : ℕ) (id : Id) → IsId id → SpellsId missing (spelling id) id
spelling-reads_back missing id valid = record {
  valid = valid;
  written = inl (record {
    before = decimal id.ms;
    behind = decimal id.seq;
    ms = IsDecimal-decimal id.ms valid.ms;
    seq = IsDecimal-decimal id.seq valid.seq;
    spelled = refl;
  });
}

-- two parts written around a dash are read so, and the bytes behind them stay
module _ (out ms seq : List ℕ) (dash len : ℕ) (front : length ms ≡ dash) (back : dash + 1 + length seq ≡ len) (fits : len ≤ length out) where
  room : dash + 1 ≤ length (set (ms ++ drop dash out) dash 45)
  room = omega (arith, length-set (ms ++ drop dash out) dash 45, length-append ms (drop dash out), length-drop dash out)

  pub written-text : take len (put_mid (dash + 1) (len - (dash + 1)) (set (ms ++ drop dash out) dash 45) seq) ≡ ms ++ codes "-" ++ seq
  written-text =
      let dashed = set (ms ++ drop dash out) dash 45 in
      let here : dash < length (ms ++ drop dash out) = omega (arith, length-append ms (drop dash out), length-drop dash out) in
      let parts : take (dash + 1) dashed ≡ ms ++ 45 ∷ [] = take_more_set (ms ++ drop dash out) dash 45 here ∙ ap (λ (t : List ℕ). t ++ 45 ∷ []) (take_at ms (drop dash out) dash front) in
      take-put_mid (dash + 1) (len - (dash + 1)) dashed seq len (sym back) room ∙ ap (λ (t : List ℕ). t ++ seq) parts

  pub written-rest : drop len (put_mid (dash + 1) (len - (dash + 1)) (set (ms ++ drop dash out) dash 45) seq) ≡ drop len out
  written-rest =
      let dashed = set (ms ++ drop dash out) dash 45 in
      drop-put_mid (dash + 1) (len - (dash + 1)) dashed seq len (omega arith) room (omega arith) ∙ drop-set-lt len (ms ++ drop dash out) dash 45 (omega arith) ∙ drop-append-drop dash out ms len (omega arith) front
