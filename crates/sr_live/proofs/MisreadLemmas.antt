-- An error that is told of a reply is one of its parts.
use Rattle.std.proofs.Common.{◌≡◌, List, [], ◌∷◌, ◌++◌, IfErr, Result, ap, append_assoc, subst, sym, ◌∙◌}
use Rattle.std.proofs.lemmas.Result.{err_from_is_err_and}
use Rattle.std.specs.Result.{IsErrAnd}
use Rattle.sr_peer.specs.{Part}
use Rattle.sr_peer.specs.Reply.{Error}
use Rattle.sr_live.specs.declared.said.Misread.{Misread}
use Rattle.sr_live.specs.declared.said.Misread.TheVariants.{ErrorReply, Memory, Shape}
use Rattle.sr_live.specs.steps.Misread.{Tells}

-- one of the parts that come after others
pub tells-later : (front left all : List Part) (misread : Misread) → all ≡ front ++ left → Tells left misread
    → Tells all misread
tells-later front left all Memory is tells = tt
tells-later front left all (ErrorReply text) is (before, behind, has) = (
  front ++ before,
  behind,
  is ∙ ap (λ (l : List Part). front ++ l) has ∙ sym (append_assoc front before (Error text ∷ behind)),
)
tells-later front left all Shape is tells = tt

pub tells-next : (part : Part) (left all : List Part) (misread : Misread) → all ≡ part ∷ left → Tells left misread
    → Tells all misread
tells-next part left all misread is tells = tells-later (part ∷ []) left all misread is tells

-- what is told is passed on
pub tells-passed : {T : Type 0} (result : Result T Misread) (misread : Misread) (parts : List Part)
    → IsErrAnd result (λ passed. passed ≡ misread) → Tells parts misread → IfErr result (Tells parts)
tells-passed {T} result misread parts is tells =
    let told = err_from_is_err_and result is in
    subst (λ (r : Result T Misread). IfErr r (Tells parts)) (sym told.1) (subst (Tells parts) (sym told.2) tells)
