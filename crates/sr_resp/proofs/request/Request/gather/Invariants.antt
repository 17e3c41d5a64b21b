use Rattle.std.proofs.Common.{◌≡◌, take}
use Rattle.sr_resp.specs.Stages.{words_in}
use Rattle.sr_resp.proofs.request.Request.gather.Given as goal

abbrev pub invariant-loop-place : goal.invariant-loop-place
invariant-loop-place l = l.words ≡ words_in l.bytes (take l.place-index l.places)
