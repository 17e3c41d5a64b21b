use Rattle.std.proofs.Common.{ap, ◌∙◌}
use Rattle.std.proofs.lemmas.Result.{IfOk-weaker}
use Rattle.hex.specs.Hex.{encode_lower}
use Rattle.sha1.specs.Sha1.{sha1}
use Rattle.sr_live.specs.Conclusion.{script_digest}
use Rattle.sr_live.proofs.conclusion.digest_of_script.Goals as goal

pub returns : goal.returns
unfolding script_digest
returns c =
    IfOk-weaker c.encode.result _ _
    (λ text is. is ∙ ap encode_lower (c.digest.ensures ∙ ap sha1 c.text_of_script.ensures)) c.encode.ensures
