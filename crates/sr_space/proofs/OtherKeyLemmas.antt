-- What a command on one key leaves at other keys.
use Rattle.std.proofs.Common.{◌≡◌, ◌≢◌, ℕ, Bool, true, false, cond, List, [], ◌∷◌, Option, Some, None, refl, ◌∙◌}
use Rattle.sr_args.specs.declared.reads.ReadAsked.{ReadAsked}
use Rattle.sr_resp.specs.{ReplyParts, error_reply}
use Rattle.sr_resp.specs.declared.code.ErrCode.TheVariants as errors
use Rattle.sr_stream.specs.{StreamState}
use Rattle.sr_space.specs.Keys.{Key, Keys, stream_at}
use Rattle.sr_space.specs.Effect.{only_key}
use Rattle.sr_space.specs.Touched.{Executed, Touched, at_key, left_at, unchanged}
use Rattle.sr_space.specs.commands.Xreadgroup.{after_reads}
use Rattle.sr_space.specs.commands.Xreadgroup as grouped
use Rattle.sr_space.proofs.KeyLaws.{stream_at-with_stream_other}

left-others : (keys : Keys) (key other : Key) (written : Option StreamState) → other ≢ key → stream_at (left_at keys key written) other ≡ stream_at keys other
left-others keys key other None apart = refl
left-others keys key other (Some stream) apart = stream_at-with_stream_other keys key other stream apart

pub at_key-others : (keys : Keys) (named key other : Key) (f : Option StreamState → Touched) → Some named ≡ Some key → other ≢ key → stream_at (at_key keys named f).keys other ≡ stream_at keys other
at_key-others keys named key other f is apart =
    let same : named ≡ key = cc in
    left-others keys named other (f (stream_at keys named)).written (λ e. apart (e ∙ same))

module _ (moment : ℕ) (name consumer : List ℕ) (count : Option ℕ) (no_ack : Bool) (keys : Keys) (key other : Key) (apart : other ≢ key) where
  after-others : (streams : List (Key × ReadAsked)) → only_key streams ≡ Some key → stream_at (after_reads moment name consumer count no_ack keys streams) other ≡ stream_at keys other
  after-others [] is = cc
  after-others (stream ∷ []) is =
      let same : stream.0 ≡ key = cc in
      left-others keys stream.0 other (grouped.read_stream moment name consumer count no_ack stream.1 stream.0 (stream_at keys stream.0)).written (λ e. apart (e ∙ same))
  after-others (stream ∷ next ∷ streams) is = cc

  pub grouped-others : (there : Bool) (streams : List (Key × ReadAsked)) (answer : ReplyParts) → only_key streams ≡ Some key
      → stream_at (cond there (let found : Executed = record { keys = after_reads moment name consumer count no_ack keys streams; outcome = answer } in found) (unchanged keys (error_reply errors.NoGroup))).keys other ≡ stream_at keys other
  grouped-others true streams answer is = after-others streams is
  grouped-others false streams answer is = refl
