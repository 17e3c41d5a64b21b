-- A call leaves the keys that it leaves at once, a read that finds nothing replies the null array, and one that waits
-- finds nothing at the keys that it left.
use Rattle.std.proofs.Common.{◌≡◌, ℕ, ℤ, Bool, true, false, cond, ◌&&◌, List, [], ◌∷◌, ◌++◌, map, Option, Some, None, refl, ap, sym, ◌∙◌}
use Rattle.std.specs.Prelude.{◌↔◌}
use Rattle.sr_args.specs.declared.call.Call.{Call}
use Rattle.sr_args.specs.declared.call.Call.TheVariants as calls
use Rattle.sr_args.specs.declared.call.Position.{Position}
use Rattle.sr_args.specs.declared.commands.xread.Xread.{Xread}
use Rattle.sr_args.specs.declared.commands.xreadgroup.Xreadgroup.{Xreadgroup}
use Rattle.sr_args.specs.{block_of}
use Rattle.sr_resp.specs.declared.code.ErrCode.TheVariants as errors
use Rattle.sr_resp.specs.{ReplyParts, error_reply}
use Rattle.sr_resp.specs.Reply.{null_array}
use Rattle.sr_space.specs.declared.blocking.Outcome.TheVariants as outcomes
use Rattle.sr_space.specs.Blocking.{answered_or_waits, executed, finds_nothing, fixed_position, is_nothing, outcome_of, waiting_as}
use Rattle.sr_space.specs.Bounds.{in_63_bits}
use Rattle.sr_space.specs.Effect.{at_once}
use Rattle.sr_space.specs.Keys.{Key, Keys}
use Rattle.sr_space.specs.Touched.{Executed, unchanged}
use Rattle.sr_space.specs.commands.Xread.{count_of, listed_or_null, read_stream, read_streams}
use Rattle.sr_space.specs.commands.Xreadgroup.{after_reads, have_group, listed_of_all}
use Rattle.sr_space.proofs.QuietLaws.{read-finds}

module _ (keys : Keys) (moment : ℕ) (call : Call) where
  same-keys : (block : Option ℕ) (nothing : Bool) → (answered_or_waits block nothing keys moment call).keys ≡ (at_once keys moment call).keys
  same-keys None nothing = refl
  same-keys (Some wait) false = refl
  same-keys (Some wait) true = refl

  -- waiting or not, a call leaves the same
  pub executed-keys : (executed keys moment call).keys ≡ (at_once keys moment call).keys
  executed-keys = same-keys (block_of call) (finds_nothing keys moment call)

-- what is listed is the null array exactly if it is nothing
null-nothing : (listed : List ReplyParts) → (listed_or_null listed ≡ null_array) ↔ (is_nothing listed ≡ true)
null-nothing [] = (λ e. refl, λ e. refl)
null-nothing (answer ∷ answers) = (λ e. cc, λ e. cc)

pub null-read : (keys : Keys) (moment : ℕ) (read : Xread) → ((at_once keys moment (calls.Xread read)).outcome ≡ null_array) ↔ (finds_nothing keys moment (calls.Xread read) ≡ true)
null-read keys moment read = null-nothing (read_streams read.count keys read.streams)

null-grouped : (there : Bool) (keys after : Keys) (listed : List ReplyParts)
    → ((cond there (let found : Executed = record { keys = after; outcome = listed_or_null listed } in found) (unchanged keys (error_reply errors.NoGroup))).outcome ≡ null_array) ↔ ((there && is_nothing listed) ≡ true)
null-grouped true keys after listed = null-nothing listed
null-grouped false keys after listed = (λ e. cc, λ e. cc)

pub null-read_group : (keys : Keys) (moment : ℕ) (read : Xreadgroup) → ((at_once keys moment (calls.Xreadgroup read)).outcome ≡ null_array) ↔ (finds_nothing keys moment (calls.Xreadgroup read) ≡ true)
null-read_group keys moment read =
    null-grouped (have_group read.group keys read.streams) keys (after_reads (in_63_bits moment) read.group read.consumer (count_of read.count) read.no_ack keys read.streams) (listed_of_all (in_63_bits moment) read.group read.consumer (count_of read.count) read.no_ack keys read.streams)

-- ---- a read that waits finds nothing at the keys that it left

-- XREAD: a stream that was read after `$` is read after the same id
fixed-read : (count : Option ℤ) (keys : Keys) (streams : List (Key × Position)) → read_streams count keys (map (fixed_position keys) streams) ≡ read_streams count keys streams
fixed-read count keys [] = refl
fixed-read count keys (stream ∷ streams) = ap (λ (l : List ReplyParts). read_stream count keys stream.0 stream.1 ++ l) (fixed-read count keys streams)

module _ (keys : Keys) (moment later : ℕ) where
  still-read : (read : Xread) → is_nothing (read_streams read.count keys read.streams) ≡ true → is_nothing (read_streams read.count keys (map (fixed_position keys) read.streams)) ≡ true
  still-read read none = ap (λ (l : List ReplyParts). is_nothing l) (fixed-read read.count keys read.streams) ∙ none

  still-nothing : (call : Call) → finds_nothing keys moment call ≡ true → finds_nothing (at_once keys moment call).keys later (waiting_as keys call) ≡ true
  still-nothing (calls.Xread read) none = still-read read none
  still-nothing (calls.Xreadgroup read) none = read-finds keys moment moment later (calls.Xreadgroup read) (calls.Xreadgroup (record read { block = None })) refl none
  still-nothing call none = cc

  never-blocked : (again : Call) (deadline : Option ℕ) (outcome : ReplyParts) → outcome_of outcome ≡ outcomes.Blocked again deadline → ⊥
  never-blocked again deadline outcome e = cc

  waits-nothing : (call again : Call) (deadline block : Option ℕ) (nothing : Bool) → finds_nothing keys moment call ≡ nothing
      → (answered_or_waits block nothing keys moment call).outcome ≡ outcomes.Blocked again deadline
      → finds_nothing (answered_or_waits block nothing keys moment call).keys later again ≡ true
  waits-nothing call again deadline None nothing none e = absurd (never-blocked again deadline (at_once keys moment call).outcome e)
  waits-nothing call again deadline (Some wait) false none e = absurd (never-blocked again deadline (at_once keys moment call).outcome e)
  waits-nothing call again deadline (Some wait) true none e =
      let same : waiting_as keys call ≡ again = cc in
      rw (sym same) (still-nothing call none)

  pub waiting-nothing : (call again : Call) (deadline : Option ℕ) → (executed keys moment call).outcome ≡ outcomes.Blocked again deadline → finds_nothing (executed keys moment call).keys later again ≡ true
  waiting-nothing call again deadline e = waits-nothing call again deadline (block_of call) (finds_nothing keys moment call) refl e
