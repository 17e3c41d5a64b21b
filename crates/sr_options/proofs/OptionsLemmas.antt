-- What clap makes of the options, each given once at most, in any order.
use Rattle.std.proofs.Common.{◌≡◌, ◌∙◌, ◌&&◌, ◌||◌, ap, ap₂, sym, Bool, List, [], ◌∷◌, ◌++◌, map, codes, refl, true, false, true≢false, not, Option, Some, None, is_some, option_map, if◌then◌else◌, append-nil, append_assoc}
use Rattle.std.specs.Prelude.{⊤, find, fold, option_and_then, slice_get}
use Rattle.std.specs.List.{list_all}
use Rattle.std.specs.Str.{bytes_eq}
use Rattle.std.proofs.lemmas.Slice.Eq.{bytes_eq-Decides}
use Rattle.clap.specs.Matches.{first_value}
use Rattle.clap.specs.Words.{Row, Text, first_of, is_simple, matches_of, one_of, rows_of, takes}
use Rattle.clap.specs.Simple.{Shape, built, entered}
use Rattle.clap.specs.Takes.{default_passes, entered_passes, is_valid, settle_passes, turn_passes, walk_passes}
use Rattle.clap.specs.Walk.{Held, Walk, at_row, finished, has_row, more_values, row_text, walk_from, walked, without}
use Rattle.clap.specs.declared.builder.value_parser.Reading.TheVariants.{AsWritten}
use Rattle.clap.specs.declared.parser.matches.Found.{Found}
use Rattle.clap.specs.declared.parser.matches.ValueSource.TheVariants.{CommandLine, DefaultValue}
use Rattle.clap.proofs.OnLiterals.{clap_on_literals}
use Rattle.clap.proofs.WalkLemmas.{first_value-rows}
use Rattle.sr_options.specs.Options.{AreOnce, Asked, Flag, connections, has_name, idle, idle_waiting, is_given, keep, keep_bytes, listen, name_of, policy, stdio, value_in, value_of, unfinished, word_of, workers}
use Rattle.sr_options.specs.steps.Server.{server}

pub server_is_simple : is_simple server ≡ true
server_is_simple = refl

abbrev top : Shape
top = (built server).top

abbrev row_of : Flag → Row
row_of flag = record { id = name_of flag; values = value_of flag ∷ []; count = None; source = Some CommandLine; reading = AsWritten }

abbrev held_with : List Row → Held
held_with rows = record { rows = rows; pending = None; skip = 0 }

-- ---- rows

neither : (a b : Bool) → (a || b) ≡ false → (a ≡ false) × (b ≡ false)
neither true b e = absurd (true≢false e)
neither false b e = (refl, e)

-- a row that is not there goes to the end
new_row : (id : Text) (change : Row → List Row) (missing rows : List Row) → has_row id rows ≡ false → at_row id change missing rows ≡ rows ++ missing
new_row id change missing [] none = refl
new_row id change missing (r ∷ rows) none =
    let n = neither (bytes_eq r.id id) (has_row id rows) none in
    ap (λ b. if b then change r ++ rows else r ∷ at_row id change missing rows) n.0 ∙ ap (λ rest. r ∷ rest) (new_row id change missing rows n.1)

placed : (id : Text) (change : Row → List Row) (missing rows : List Row) → has_row id rows ≡ false → at_row id change missing (without id rows) ≡ rows ++ missing
placed id change missing rows none =
    ap (at_row id change missing) (new_row id (λ _. []) [] rows none ∙ append-nil rows) ∙ new_row id change missing rows none

one_more : (id : Text) (rows : List Row) (r : Row) → has_row id rows ≡ false → bytes_eq r.id id ≡ false → has_row id (rows ++ r ∷ []) ≡ false
one_more id [] r none other = ap (λ b. b || false) other
one_more id (x ∷ rows) r none other =
    let n = neither (bytes_eq x.id id) (has_row id rows) none in
    ap₂ (λ a b. a || b) n.0 (one_more id rows r n.1 other)

found_before : (id : Text) (rows : List Row) (r : Row) → bytes_eq r.id id ≡ false
    → find (λ (x : Row). bytes_eq x.id id) (rows ++ r ∷ []) ≡ find (λ (x : Row). bytes_eq x.id id) rows
found_before id [] r other = ap (λ b. if b then Some r else None) other
found_before id (x ∷ rows) r other = ap (λ (o : Option Row). if bytes_eq x.id id then Some x else o) (found_before id rows r other)

found_last : (id : Text) (rows : List Row) (r : Row) → has_row id rows ≡ false → bytes_eq r.id id ≡ true
    → find (λ (x : Row). bytes_eq x.id id) (rows ++ r ∷ []) ≡ Some r
found_last id [] r none is = ap (λ b. if b then Some r else None) is
found_last id (x ∷ rows) r none is =
    let n = neither (bytes_eq x.id id) (has_row id rows) none in
    ap₂ (λ (b : Bool) (o : Option Row). if b then Some x else o) n.0 (found_last id rows r n.1 is)

-- ---- the words, one after the other

met : (flag : Flag) (rows : List Row) → has_row (name_of flag) rows ≡ false
    → walked top.rules [] (walk_from (held_with rows)) (word_of flag) ≡ walk_from (held_with (rows ++ row_of flag ∷ []))
unfolding clap_on_literals
met stdio rows none = ap (λ (rs : List Row). walk_from (held_with rs)) (placed (codes "stdio") (more_values CommandLine (codes "true" ∷ [])) (row_of stdio ∷ []) rows none)
met (listen address) rows none = ap (λ (rs : List Row). walk_from (held_with rs)) (placed (codes "listen") (more_values CommandLine (address ∷ [])) (row_of (listen address) ∷ []) rows none)
met (policy path) rows none = ap (λ (rs : List Row). walk_from (held_with rs)) (placed (codes "policy") (more_values CommandLine (path ∷ [])) (row_of (policy path) ∷ []) rows none)
met (workers number) rows none = ap (λ (rs : List Row). walk_from (held_with rs)) (placed (codes "workers") (more_values CommandLine (number ∷ [])) (row_of (workers number) ∷ []) rows none)
met (keep number) rows none =
    ap (λ (rs : List Row). walk_from (held_with rs)) (placed (codes "keep") (more_values CommandLine (number ∷ [])) (row_of (keep number) ∷ []) rows none)
met (connections number) rows none =
    ap (λ (rs : List Row). walk_from (held_with rs))
    (placed (codes "connections") (more_values CommandLine (number ∷ [])) (row_of (connections number) ∷ []) rows none)
met (idle seconds) rows none =
    ap (λ (rs : List Row). walk_from (held_with rs)) (placed (codes "idle") (more_values CommandLine (seconds ∷ [])) (row_of (idle seconds) ∷ []) rows none)
met (unfinished bytes) rows none =
    ap (λ (rs : List Row). walk_from (held_with rs))
    (placed (codes "unfinished") (more_values CommandLine (bytes ∷ [])) (row_of (unfinished bytes) ∷ []) rows none)
met (keep_bytes bytes) rows none =
    ap (λ (rs : List Row). walk_from (held_with rs))
    (placed (codes "keep-bytes") (more_values CommandLine (bytes ∷ [])) (row_of (keep_bytes bytes) ∷ []) rows none)
met (idle_waiting seconds) rows none =
    ap (λ (rs : List Row). walk_from (held_with rs))
    (placed (codes "idle-waiting") (more_values CommandLine (seconds ∷ [])) (row_of (idle_waiting seconds) ∷ []) rows none)

passed : (flag : Flag) (rows : List Row) → has_row (name_of flag) rows ≡ false → turn_passes top [] (walk_from (held_with rows)) (word_of flag) ≡ true
unfolding clap_on_literals
passed stdio rows none = ap (λ b. ((not b || false) && true) && true) none
passed (listen address) rows none = ap (λ b. ((not b || false) && true) && true) none
passed (policy path) rows none = ap (λ b. ((not b || false) && true) && true) none
passed (workers number) rows none = ap (λ b. ((not b || false) && true) && true) none
passed (keep number) rows none = ap (λ b. ((not b || false) && true) && true) none
passed (connections number) rows none = ap (λ b. ((not b || false) && true) && true) none
passed (idle seconds) rows none = ap (λ b. ((not b || false) && true) && true) none
passed (unfinished bytes) rows none = ap (λ b. ((not b || false) && true) && true) none
passed (keep_bytes bytes) rows none = ap (λ b. ((not b || false) && true) && true) none
passed (idle_waiting seconds) rows none = ap (λ b. ((not b || false) && true) && true) none

-- no flag has a row yet
abbrev AreNew : List Flag → List Row → Type 0
AreNew [] rows = ⊤
AreNew (flag ∷ flags) rows = (has_row (name_of flag) rows ≡ false) × AreNew flags rows

false_unless : (b : Bool) → (b ≡ true → ⊥) → b ≡ false
false_unless true none = absurd (none refl)
false_unless false none = refl

other_name : (a b : Flag) → bytes_eq (name_of b) (name_of a) ≡ false → bytes_eq (name_of a) (name_of b) ≡ false
other_name a b e =
    false_unless (bytes_eq (name_of a) (name_of b))
    (λ is. true≢false (sym ((bytes_eq-Decides (name_of b) (name_of a)).1 (sym ((bytes_eq-Decides (name_of a) (name_of b)).0 is))) ∙ e))

not_first : (b : Bool) (flag : Flag) (o : Option Flag) → is_some (option_map value_of (if b then Some flag else o)) ≡ false
    → (b ≡ false) × (is_some (option_map value_of o) ≡ false)
not_first true flag o e = absurd (true≢false e)
not_first false flag o e = (refl, e)

still_new : (flag : Flag) (flags : List Flag) (rows : List Row) → AreNew flags rows → is_given flags (name_of flag) ≡ false → AreNew flags (rows ++ row_of flag ∷ [])
still_new flag [] rows new once = tt
still_new flag (next ∷ flags) rows new once =
    let n = not_first (has_name (name_of flag) next) next (find (has_name (name_of flag)) flags) once in
    (one_more (name_of next) rows (row_of flag) new.0 (other_name flag next n.0), still_new flag flags rows new.1 n.1)

all_met : (flags : List Flag) (rows : List Row) → AreNew flags rows → AreOnce flags
    → fold (walked top.rules []) (walk_from (held_with rows)) (map word_of flags) ≡ walk_from (held_with (rows ++ map row_of flags))
all_met [] rows new once = ap (λ (rs : List Row). walk_from (held_with rs)) (sym (append-nil rows))
all_met (flag ∷ flags) rows new once =
    ap (λ (w : Walk). fold (walked top.rules []) w (map word_of flags)) (met flag rows new.0)
    ∙ all_met flags (rows ++ row_of flag ∷ []) (still_new flag flags rows new.1 once.0) once.1
    ∙ ap (λ (rs : List Row). walk_from (held_with rs)) (append_assoc rows (row_of flag ∷ []) (map row_of flags))

all_passed : (flags : List Flag) (rows : List Row) → AreNew flags rows → AreOnce flags
    → walk_passes top [] (walk_from (held_with rows)) (map word_of flags) ≡ true
unfolding walk_passes
all_passed [] rows new once = refl
all_passed (flag ∷ flags) rows new once =
    ap₂ (λ a b. a && b) (passed flag rows new.0)
    (ap (λ (w : Walk). walk_passes top [] w (map word_of flags)) (met flag rows new.0)
    ∙ all_passed flags (rows ++ row_of flag ∷ []) (still_new flag flags rows new.1 once.0) once.1)

all_new : (flags : List Flag) → AreNew flags []
all_new [] = tt
all_new (flag ∷ flags) = (refl, all_new flags)

-- ---- the whole command line

abbrev judged : Walk → Bool → Bool
judged w passes = entered_passes (built server) w.stopped && (passes && (settle_passes top.rules top.args_override_self w.held
    && (list_all default_passes top.rules && is_valid top (finished top.rules w.held) (is_some (entered (built server) w.stopped)))))

judged_well : (rows : List Row) → judged (walk_from (held_with rows)) true ≡ true
judged_well rows = refl

pub asked_is_taken : (name : Text) (flags : List Flag) → AreOnce flags → takes server (name ∷ map word_of flags) ≡ true
asked_is_taken name flags once =
    ap₂ judged (all_met flags [] (all_new flags) once) (all_passed flags [] (all_new flags) once) ∙ judged_well (map row_of flags)

same : (b : Bool) (rows : List Row) → (if b then rows else rows) ≡ rows
same true rows = refl
same false rows = refl

-- an option without a default adds no row
unchanged : (id : Text) (rows : List Row) → (if has_row id rows then rows else rows) ≡ rows
unchanged id rows = same (has_row id rows) rows

abbrev default_row : Row
default_row = record { id = codes "stdio"; values = codes "false" ∷ []; count = None; source = Some DefaultValue; reading = AsWritten }

abbrev with_stdio : Bool → List Row → List Row
with_stdio b rows = if b then rows else at_row (codes "stdio") (more_values DefaultValue (codes "false" ∷ [])) (default_row ∷ []) rows

abbrev pub rows_of_all : List Flag → List Row
rows_of_all flags = with_stdio (has_row (codes "stdio") (map row_of flags)) (map row_of flags)

finished_rows : (rows : List Row) → finished top.rules (held_with rows) ≡ with_stdio (has_row (codes "stdio") rows) rows
finished_rows rows =
    unchanged (codes "help") _ ∙ unchanged (codes "unfinished") _ ∙ unchanged (codes "idle-waiting") _
    ∙ unchanged (codes "idle") _ ∙ unchanged (codes "keep-bytes") _ ∙ unchanged (codes "keep") _
    ∙ unchanged (codes "workers") _ ∙ unchanged (codes "policy") _ ∙ unchanged (codes "connections") _
    ∙ unchanged (codes "listen") _

pub asked_rows : (name : Text) (flags : List Flag) → AreOnce flags → matches_of server (name ∷ map word_of flags) ≡ rows_of_all flags
asked_rows name flags once = ap (λ (w : Walk). finished top.rules w.held) (all_met flags [] (all_new flags) once) ∙ finished_rows (map row_of flags)

-- ---- the options

value_found : (id : Text) (flags : List Flag) → first_of id (map row_of flags) ≡ value_in flags id
value_found id [] = refl
value_found id (flag ∷ flags) = go (bytes_eq (name_of flag) id) (value_found id flags)
  where
    go : (b : Bool) → first_of id (map row_of flags) ≡ value_in flags id
        → option_and_then (λ (r : Row). slice_get r.values 0) (if b then Some (row_of flag) else find (λ (r : Row). bytes_eq r.id id) (map row_of flags))
        ≡ option_map value_of (if b then Some flag else find (has_name id) flags)
    go true rest = refl
    go false rest = rest

pub asked_value : (id : Text) (flags : List Flag) → bytes_eq (codes "stdio") id ≡ false → first_of id (rows_of_all flags) ≡ value_in flags id
asked_value id flags other = go (has_row (codes "stdio") (map row_of flags)) refl ∙ value_found id flags
  where
    go : (b : Bool) → has_row (codes "stdio") (map row_of flags) ≡ b → first_of id (with_stdio b (map row_of flags)) ≡ first_of id (map row_of flags)
    go true e = refl
    go false e = ap (first_of id) (new_row (codes "stdio") (more_values DefaultValue (codes "false" ∷ [])) (default_row ∷ []) (map row_of flags) e)
        ∙ ap (option_and_then (λ (r : Row). slice_get r.values 0)) (found_before id (map row_of flags) default_row other)

pub read_value : (found : Found) (id : Text) (flags : List Flag) → rows_of found ≡ rows_of_all flags → bytes_eq (codes "stdio") id ≡ false
    → first_value found id ≡ value_in flags id
read_value found id flags rows_are other = first_value-rows found id ∙ ap (first_of id) rows_are ∙ asked_value id flags other

has_stdio : (flags : List Flag) → has_row (codes "stdio") (map row_of flags) ≡ is_given flags (codes "stdio")
has_stdio [] = refl
has_stdio (stdio ∷ flags) = refl
has_stdio (listen x ∷ flags) = has_stdio flags
has_stdio (policy x ∷ flags) = has_stdio flags
has_stdio (workers x ∷ flags) = has_stdio flags
has_stdio (keep x ∷ flags) = has_stdio flags
has_stdio (connections x ∷ flags) = has_stdio flags
has_stdio (idle x ∷ flags) = has_stdio flags
has_stdio (unfinished x ∷ flags) = has_stdio flags
has_stdio (keep_bytes x ∷ flags) = has_stdio flags
has_stdio (idle_waiting x ∷ flags) = has_stdio flags

stdio_found : (flags : List Flag) → one_of (codes "stdio") (map row_of flags) ≡ (if is_given flags (codes "stdio") then Some (codes "true") else None)
stdio_found [] = refl
stdio_found (stdio ∷ flags) = refl
stdio_found (listen x ∷ flags) = stdio_found flags
stdio_found (policy x ∷ flags) = stdio_found flags
stdio_found (workers x ∷ flags) = stdio_found flags
stdio_found (keep x ∷ flags) = stdio_found flags
stdio_found (connections x ∷ flags) = stdio_found flags
stdio_found (idle x ∷ flags) = stdio_found flags
stdio_found (unfinished x ∷ flags) = stdio_found flags
stdio_found (keep_bytes x ∷ flags) = stdio_found flags
stdio_found (idle_waiting x ∷ flags) = stdio_found flags

pub asked_stdio : (flags : List Flag) → one_of (codes "stdio") (rows_of_all flags) ≡ Some (if is_given flags (codes "stdio") then codes "true" else codes "false")
asked_stdio flags = go (has_row (codes "stdio") (map row_of flags)) refl
  where
    go : (b : Bool) → has_row (codes "stdio") (map row_of flags) ≡ b
        → one_of (codes "stdio") (with_stdio b (map row_of flags)) ≡ Some (if is_given flags (codes "stdio") then codes "true" else codes "false")
    go true e =
        let given : is_given flags (codes "stdio") ≡ true = sym (has_stdio flags) ∙ e in
        stdio_found flags ∙ ap (λ b. if b then Some (codes "true") else None) given ∙ ap (λ b. Some (if b then codes "true" else codes "false")) (sym given)
    go false e =
        let not_given : is_given flags (codes "stdio") ≡ false = sym (has_stdio flags) ∙ e in
        ap (one_of (codes "stdio")) (new_row (codes "stdio") (more_values DefaultValue (codes "false" ∷ [])) (default_row ∷ []) (map row_of flags) e)
        ∙ ap (option_and_then row_text) (found_last (codes "stdio") (map row_of flags) default_row e refl)
        ∙ ap (λ b. Some (if b then codes "true" else codes "false")) (sym not_given)

pub flag_read : (read given : Bool) (text : Option Text) → text ≡ Some (if given then codes "true" else codes "false")
    → (text ≡ Some (codes "true") → read ≡ true) → (text ≡ Some (codes "false") → read ≡ false) → read ≡ given
flag_read read true text is if_true if_false = if_true is
flag_read read false text is if_true if_false = if_false is

pub same_asked : (a b : Asked) → a.stdio ≡ b.stdio → a.listen ≡ b.listen → a.policy ≡ b.policy → a.workers ≡ b.workers → a.keep ≡ b.keep
    → a.connections ≡ b.connections → a.idle ≡ b.idle → a.unfinished ≡ b.unfinished
    → a.keep_bytes ≡ b.keep_bytes → a.idle_waiting ≡ b.idle_waiting → a ≡ b
same_asked a b stdio_is listen_is policy_is workers_is keep_is connections_is idle_is unfinished_is keep_bytes_is idle_waiting_is =
    λ i. record {
      stdio = stdio_is i;
      listen = listen_is i;
      policy = policy_is i;
      workers = workers_is i;
      keep = keep_is i;
      connections = connections_is i;
      idle = idle_is i;
      unfinished = unfinished_is i;
      keep_bytes = keep_bytes_is i;
      idle_waiting = idle_waiting_is i;
    }
