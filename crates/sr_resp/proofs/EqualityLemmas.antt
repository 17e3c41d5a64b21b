-- `==` on the parts that a reply holds is true exactly if the replies are the same.
use Rattle.std.proofs.Common.{◌≡◌, Bool, List, ℕ, nat_eq, ◌∷◌, ap, refl, sym, ◌∙◌}
use Rattle.std.specs.Bool.{Decides}
use Rattle.std.specs.Cmp.Lexicographic.{pointwise, bytes_decides}
use Rattle.std.proofs.lemmas.Bool.{false≢true}
use Rattle.std.proofs.lemmas.Bool.Decides.{Decides-eqb, Decides-int_eq}
use denote.Enum.Bare.{same_true, true_same}
use Rattle.sr_resp.specs.declared.piece.Piece.{Piece}
use Rattle.sr_resp.specs.declared.piece.Piece.TheVariants as pieces
use Rattle.sr_resp.specs.contracts.code.Word as words
use Rattle.sr_resp.specs.contracts.code.ErrCode as errors
use Rattle.sr_resp.specs.contracts.piece.PiecePartialEq.TheImpl.{eq-value}
use Rattle.sr_resp.specs.Reply.{Part, Simple, Error, Int, Bulk, Array, reply_text}
use Rattle.sr_resp.specs.steps.OneSpelling.{one_spelling}
use Rattle.sr_resp.specs.steps.Pieces.{part_of, AreHeldAs}

pub piece_eq-Decides : (a b : Piece) → Decides (eq-value.it a b) (part_of a ≡ part_of b)
piece_eq-Decides (pieces.Simple x) (pieces.Simple y) = (λ e. ap Simple (same_true words.the_type tt x y e), λ e. true_same words.the_type x y (cc e))
piece_eq-Decides (pieces.Error x) (pieces.Error y) = (λ e. ap Error (same_true errors.the_type tt x y e), λ e. true_same errors.the_type x y (cc e))
piece_eq-Decides (pieces.Int x) (pieces.Int y) = (λ e. ap Int ((Decides-int_eq x y).0 e), λ e. (Decides-int_eq x y).1 (cc e))
piece_eq-Decides (pieces.Bulk x) (pieces.Bulk y) = (λ e. ap Bulk ((bytes_decides x.now y.now).0 e), λ e. (bytes_decides x.now y.now).1 (cc e))
piece_eq-Decides (pieces.Array x) (pieces.Array y) = (λ e. ap Array ((Decides-eqb x y).0 e), λ e. (Decides-eqb x y).1 (cc e))
piece_eq-Decides pieces.NullBulk pieces.NullBulk = (λ e. refl, λ e. refl)
piece_eq-Decides pieces.NullArray pieces.NullArray = (λ e. refl, λ e. refl)
piece_eq-Decides a b = (λ e. absurd (false≢true e), λ e. absurd (cc e))

-- the others are the same exactly if their texts are
pub same_others : (first : Part) (a b : List Part) (text other : List ℕ) (same : Bool) → AreHeldAs a first text → AreHeldAs b first other → same ≡ pointwise nat_eq text other → Decides same (a ≡ b)
same_others first a b text other same one two answer = (
  λ e. let texts : text ≡ other = (bytes_decides text other).0 (sym answer ∙ e) in
      let others : one.others ≡ two.others = one_spelling one.others two.others one.spells.fit two.spells.fit (sym one.spells.spelled ∙ texts ∙ two.spells.spelled) in
      one.whole ∙ ap (λ l. first ∷ l) others ∙ sym two.whole,
  λ e. let others : one.others ≡ two.others = cc (sym one.whole ∙ e ∙ two.whole) in
      answer ∙ (bytes_decides text other).1 (one.spells.spelled ∙ ap reply_text others ∙ sym two.spells.spelled),
)
