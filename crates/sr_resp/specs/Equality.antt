-- When two replies are the same.

use Rattle.std.proofs.Common.{◌≡◌, Bool, true, false, nat_eq, refl, sym, ap, ◌∙◌}
use Rattle.std.specs.Bool.{Decides}
use Rattle.std.specs.Ordering.{int_eq}
use Rattle.std.specs.Cmp.{IsPartialEquivalence, IsEquivalence, partial_equiv_from_equiv}
use Rattle.std.specs.Cmp.Lexicographic.{pointwise, pointwise_decides, bytes_decides}
use Rattle.std.proofs.lemmas.Bool.Decides.{Decides-eqb, Decides-int_eq}
use Rattle.sr_resp.specs.Code.{word_text, error_text}
use Rattle.sr_resp.specs.Reply.{Part, ReplyParts, Simple, Error, Int, Bulk, NullBulk, NullArray, Array}
use Rattle.sr_resp.specs.steps.OneSpelling.{word_text-injective, error_text-injective}

-- two parts are of one kind, and say the same
abbrev pub same_part : Part → Part → Bool
same_part (Simple v) (Simple w) = pointwise nat_eq (word_text v) (word_text w)
same_part (Error c) (Error d) = pointwise nat_eq (error_text c) (error_text d)
same_part (Int m) (Int n) = int_eq m n
same_part (Bulk a) (Bulk b) = pointwise nat_eq a b
same_part NullBulk NullBulk = true
same_part NullArray NullArray = true
same_part (Array m) (Array n) = nat_eq m n
same_part _ _ = false

abbrev pub same_reply : ReplyParts → ReplyParts → Bool
same_reply a b = pointwise same_part a b

same_part-Decides : (p q : Part) → Decides (same_part p q) (p ≡ q)
same_part-Decides (Simple v) (Simple w) =
    let texts = bytes_decides (word_text v) (word_text w) in
    (λ e. ap Simple (word_text-injective v w (texts.0 e)), λ e. texts.1 (ap word_text (cc e)))
same_part-Decides (Error c) (Error d) =
    let texts = bytes_decides (error_text c) (error_text d) in
    (λ e. ap Error (error_text-injective c d (texts.0 e)), λ e. texts.1 (ap error_text (cc e)))
same_part-Decides (Int m) (Int n) = (λ e. ap Int ((Decides-int_eq m n).0 e), λ e. (Decides-int_eq m n).1 (cc e))
same_part-Decides (Bulk a) (Bulk b) = (λ e. ap Bulk ((bytes_decides a b).0 e), λ e. (bytes_decides a b).1 (cc e))
same_part-Decides (Array m) (Array n) = (λ e. ap Array ((Decides-eqb m n).0 e), λ e. (Decides-eqb m n).1 (cc e))
same_part-Decides NullBulk NullBulk = (λ e. refl, λ e. refl)
same_part-Decides NullArray NullArray = (λ e. refl, λ e. refl)
same_part-Decides p q = (λ e. absurd (cc e), λ e. absurd (cc e))

pub same_reply-Decides : (a b : ReplyParts) → Decides (same_reply a b) (a ≡ b)
same_reply-Decides = pointwise_decides same_part-Decides

module _ {K : Type 0} {E : K → K → Bool} (decides : (x y : K) → Decides (E x y) (x ≡ y)) where
  symm : (x y : K) → E x y ≡ E y x
  symm x y = by (E x y) (E y x) refl refl
    where
      by : (s t : Bool) → E x y ≡ s → E y x ≡ t → s ≡ t
      by true t s-is t-is = sym ((decides y x).1 (sym ((decides x y).0 s-is))) ∙ t-is
      by false true s-is t-is = sym s-is ∙ (decides x y).1 (sym ((decides y x).0 t-is))
      by false false s-is t-is = refl

  pub IsEquivalence-decided : IsEquivalence E
  IsEquivalence-decided = record {
    refl = λ x. (decides x x).1 refl;
    symm = symm;
    congr = λ x y z e. ap (λ (k : K). E k z) ((decides x y).0 e);
  }

pub same_reply-equivalence : IsEquivalence same_reply
same_reply-equivalence = IsEquivalence-decided same_reply-Decides

pub same_reply-partial_equivalence : IsPartialEquivalence same_reply
same_reply-partial_equivalence = partial_equiv_from_equiv same_reply-equivalence
