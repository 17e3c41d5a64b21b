-- With NOACK, a read of new entries changes no pending list.
use Rattle.std.proofs.Common.{◌≡◌, ◌≢◌, ℕ, Bool, true, false, cond, List, [], ◌∷◌, ◌++◌, filter, Option, Some, None, nat_eq, refl, ap, sym, ◌∙◌, true≢false}
use Rattle.std.specs.Prelude.{IfSome}
use Rattle.std.specs.Cmp.Lexicographic.{pointwise, bytes_decides}
use Rattle.sr_bytes.specs.{comes_before}
use Rattle.sr_args.specs.declared.reads.ReadAsked.{ReadAsked}
use Rattle.sr_args.specs.declared.reads.ReadAsked.TheVariants as asked
use Rattle.sr_resp.specs.declared.code.ErrCode.TheVariants as errors
use Rattle.sr_resp.specs.{error_reply}
use Rattle.sr_group.specs.{GroupState}
use Rattle.sr_group.proofs.NameLemmas.{comes_before-neither, comes_before-one_way, is_same_name-true}
use Rattle.sr_pending.specs.{is_same_name}
use Rattle.sr_stream.specs.{ByName, group_with, with_group, StreamState}
use Rattle.sr_space.specs.Keys.{Key, Keys, stream_at, with_stream}
use Rattle.sr_space.specs.PendingAt.{AskForNew, nacks_of, pending_at, pending_of}
use Rattle.sr_space.specs.Touched.{left_at, unchanged}
use Rattle.sr_space.specs.commands.Xread.{listed_or_null}
use Rattle.sr_space.specs.commands.Xreadgroup.{after_reads, have_group, listed_of_all, read_found, read_group, read_stream, xreadgroup}
use Rattle.sr_space.proofs.KeyLaws.{stream_at-with_stream, stream_at-with_stream_other}
use Rattle.sr_space.proofs.ReadGroupLemmas.{group_with-with_group}

-- two names that the test takes for different
apart-names : (a b : List ℕ) → a ≢ b → is_same_name a b ≡ false
apart-names a b apart = by (is_same_name a b) refl
  where
    by : (test : Bool) → is_same_name a b ≡ test → test ≡ false
    by true e = absurd (apart (is_same_name-true a b e))
    by false e = refl

module _ {G : Type 0} (other : List ℕ) where
  -- a group is looked for in the first list, and then in the second
  in-second : (first second : ByName G) → group_with other first ≡ None → group_with other (first ++ second) ≡ group_with other second
  in-second [] second none = refl
  in-second (x ∷ first) second none = by (is_same_name x.0 other) (in-second first second) none
    where
      by : (test : Bool) → (group_with other first ≡ None → group_with other (first ++ second) ≡ group_with other second) → cond test (Some x.1) (group_with other first) ≡ None
          → cond test (Some x.1) (group_with other (first ++ second)) ≡ group_with other second
      by true rest none = absurd cc
      by false rest none = rest none

  in-first : (first second : ByName G) → group_with other second ≡ None → group_with other (first ++ second) ≡ group_with other first
  in-first [] second none = none
  in-first (x ∷ first) second none = ap (cond (is_same_name x.0 other) (Some x.1)) (in-first first second none)

  module _ (p : List ℕ → Bool) where
    -- a filter by names keeps the group, or has none of its name
    filter-keeps : (xs : ByName G) → p other ≡ true → group_with other (filter (λ (x : List ℕ × G). p x.0) xs) ≡ group_with other xs
    filter-keeps [] passes = refl
    filter-keeps (x ∷ xs) passes = by (p x.0) refl (filter-keeps xs passes)
      where
        by : (test : Bool) → p x.0 ≡ test → group_with other (filter (λ (x : List ℕ × G). p x.0) xs) ≡ group_with other xs
            → group_with other (cond test (x ∷ filter (λ (x : List ℕ × G). p x.0) xs) (filter (λ (x : List ℕ × G). p x.0) xs)) ≡ cond (is_same_name x.0 other) (Some x.1) (group_with other xs)
        by true e rest = ap (cond (is_same_name x.0 other) (Some x.1)) rest
        by false e rest = rw (apart-names x.0 other (λ same. true≢false (sym passes ∙ sym (ap p same) ∙ e))) rest

    filter-drops : (xs : ByName G) → p other ≡ false → group_with other (filter (λ (x : List ℕ × G). p x.0) xs) ≡ None
    filter-drops [] fails = refl
    filter-drops (x ∷ xs) fails = by (p x.0) refl (filter-drops xs fails)
      where
        by : (test : Bool) → p x.0 ≡ test → group_with other (filter (λ (x : List ℕ × G). p x.0) xs) ≡ None
            → group_with other (cond test (x ∷ filter (λ (x : List ℕ × G). p x.0) xs) (filter (λ (x : List ℕ × G). p x.0) xs)) ≡ None
        by true e rest = rw (apart-names x.0 other (λ same. true≢false (sym e ∙ ap p same ∙ fails))) rest
        by false e rest = rest

  -- a group that is put under its name leaves those of other names
  pub with_group-other : (name : List ℕ) (group : G) (xs : ByName G) → other ≢ name → group_with other (with_group name group xs) ≡ group_with other xs
  with_group-other name group xs apart = by (comes_before other name) (comes_before name other) refl refl
    where
      not_named : (after : ByName G) → group_with other ((name, group) ∷ after) ≡ group_with other after
      not_named after = rw (apart-names name other (λ same. apart (sym same))) refl

      by : (before after : Bool) → comes_before other name ≡ before → comes_before name other ≡ after → group_with other (with_group name group xs) ≡ group_with other xs
      by true after is_before is_after =
          in-first (filter (λ (x : List ℕ × G). comes_before x.0 name) xs) ((name, group) ∷ filter (λ (x : List ℕ × G). comes_before name x.0) xs)
          (not_named (filter (λ (x : List ℕ × G). comes_before name x.0) xs) ∙ filter-drops (λ n. comes_before name n) xs (comes_before-one_way other name is_before))
          ∙ filter-keeps (λ n. comes_before n name) xs is_before
      by false true is_before is_after =
          in-second (filter (λ (x : List ℕ × G). comes_before x.0 name) xs) ((name, group) ∷ filter (λ (x : List ℕ × G). comes_before name x.0) xs) (filter-drops (λ n. comes_before n name) xs is_before)
          ∙ not_named (filter (λ (x : List ℕ × G). comes_before name x.0) xs) ∙ filter-keeps (λ n. comes_before name n) xs is_after
      by false false is_before is_after = absurd (apart (comes_before-neither other name is_before is_after))

-- a group that keeps its pending list is put back
nacks-put : (name other : List ℕ) (left group : GroupState) (groups : ByName GroupState) → group_with name groups ≡ Some group → left.nacks ≡ group.nacks
    → nacks_of (group_with other (with_group name left groups)) ≡ nacks_of (group_with other groups)
nacks-put name other left group groups found same = by (is_same_name other name) refl
  where
    by : (test : Bool) → is_same_name other name ≡ test → nacks_of (group_with other (with_group name left groups)) ≡ nacks_of (group_with other groups)
    by true e =
        let is : other ≡ name = is_same_name-true other name e in
        rw is (ap nacks_of (group_with-with_group name left groups) ∙ same ∙ sym (ap nacks_of found))
    by false e = ap nacks_of (with_group-other other name left groups (λ is. true≢false (sym (rw is (is_same_name-self name)) ∙ e)))
      where
        is_same_name-self : (a : List ℕ) → is_same_name a a ≡ true
        is_same_name-self a = (bytes_decides a a).1 refl

-- what is written at a key keeps what is pending there
pending-left : (keys read : Keys) (at key : Key) (name : List ℕ) (written : Option StreamState) → pending_at read key name ≡ pending_at keys key name
    → IfSome written (λ stream. pending_of name (Some stream) ≡ pending_at keys at name) → pending_at (left_at read at written) key name ≡ pending_at keys key name
pending-left keys read at key name None rest same = rest
pending-left keys read at key name (Some stream) rest same = by (pointwise nat_eq key at) refl
  where
    by : (test : Bool) → pointwise nat_eq key at ≡ test → pending_at (with_stream read at stream) key name ≡ pending_at keys key name
    by true e =
        let is : key ≡ at = (bytes_decides key at).0 e in
        rw is (ap (pending_of name) (stream_at-with_stream read at stream) ∙ same)
    by false e = ap (pending_of name) (stream_at-with_stream_other read at key stream (λ is. true≢false (sym ((bytes_decides key at).1 is) ∙ e))) ∙ rest

module _ (moment : ℕ) (name consumer : List ℕ) (count : Option ℕ) (other : List ℕ) where
  found-keeps : (key : Key) (stream : StreamState) (found : Option GroupState) → group_with name stream.groups ≡ found
      → IfSome (read_found moment name consumer count true asked.New key stream found).written (λ left. pending_of other (Some left) ≡ pending_of other (Some stream))
  found-keeps key stream None is = tt
  found-keeps key stream (Some group) is = nacks-put name other (read_group moment name consumer count true asked.New key stream.entries group).group group stream.groups is refl

  stream-keeps : (key : Key) (found : Option StreamState) → IfSome (read_stream moment name consumer count true asked.New key found).written (λ left. pending_of other (Some left) ≡ pending_of other found)
  stream-keeps key None = tt
  stream-keeps key (Some stream) = found-keeps key stream (group_with name stream.groups) refl

  reads-keep : (keys : Keys) (streams : List (Key × ReadAsked)) (key : Key) → AskForNew streams → pending_at (after_reads moment name consumer count true keys streams) key other ≡ pending_at keys key other
  reads-keep keys [] key new = refl
  reads-keep keys (stream ∷ streams) key new =
      let found = stream_at keys stream.0 in
      pending-left keys (after_reads moment name consumer count true keys streams) stream.0 key other (read_stream moment name consumer count true stream.1 stream.0 found).written
      (reads-keep keys streams key new.1) (rw new.0 (stream-keeps stream.0 found))

  pub noack-keeps : (keys : Keys) (streams : List (Key × ReadAsked)) (key : Key) → AskForNew streams → pending_at (xreadgroup moment name consumer count true streams keys).keys key other ≡ pending_at keys key other
  noack-keeps keys streams key new = by (have_group name keys streams)
    where
      by : (there : Bool) → pending_at (cond there (record { keys = after_reads moment name consumer count true keys streams; outcome = listed_or_null (listed_of_all moment name consumer count true keys streams) }) (unchanged keys (error_reply errors.NoGroup))).keys key other ≡ pending_at keys key other
      by true = reads-keep keys streams key new
      by false = refl
