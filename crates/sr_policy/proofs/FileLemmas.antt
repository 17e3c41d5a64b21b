-- What a policy file's tables are to the map that holds them.
use Rattle.std.proofs.Common.{◌≡◌, ◌+◌, ℕ, zero, suc, List, [], ◌∷◌, ◌++◌, length, map, Option, Some, None, option_map}
use Rattle.std.proofs.Common.{unwrap_or, refl, sym, ap, ◌∙◌, subst, append_assoc, append-nil, arith, get_or}
use Rattle.std.proofs.Common.{string_bytes, String, Global}
use Rattle.std.proofs.lemmas.Map.Keys.{sorted_head, sorted_tail}
use Rattle.std.specs.List.Sorted.{IsStrictlySortedBy}
use Rattle.std.specs.Map.{keys_of}
use Rattle.std.specs.Ordering.{is_lt}
use Rattle.std.specs.String.{string_cmp}
use Rattle.toml.specs.Data.{Members, no_members, as_table}
use Rattle.toml.specs.View.{members_view, view}
use Rattle.toml.specs.declared.value.Value.{Value}
use Rattle.toml.proofs.Views.{Entry}
use Rattle.sr_policy.specs.File.{natural_of, numbers_of, pairs_of, rates_of}
use Rattle.sr_policy.specs.Rules.{Text}
use Rattle.sr_bytes.specs.{AreInOrder, ComesBefore}

-- a table has as many pairs as its map has entries
pub length_pairs : (es : List Entry) → length (pairs_of (members_view es)) ≡ length es
length_pairs [] = refl
length_pairs (e ∷ es) = ap suc (length_pairs es)

-- the names of a table of numbers are its keys
names_are_keys : (es : List Entry) → map string_bytes (keys_of es) ≡ map (λ pair. pair.0) (numbers_of (members_view es))
names_are_keys [] = refl
names_are_keys (e ∷ es) = ap (λ names. string_bytes e.0 ∷ names) (names_are_keys es)

-- and so are the names of a table of rates
classes_are_keys : (es : List Entry) → map string_bytes (keys_of es) ≡ map (λ pair. pair.0) (rates_of (members_view es))
classes_are_keys [] = refl
classes_are_keys (e ∷ es) = ap (λ names. string_bytes e.0 ∷ names) (classes_are_keys es)

keys_in_order : (ks : List (String Global)) → IsStrictlySortedBy string_cmp ks
    → AreInOrder ComesBefore (map string_bytes ks)
keys_in_order [] sorted k d lt = absurd (omega arith)
keys_in_order (a ∷ []) sorted k d lt = absurd (omega arith)
keys_in_order (a ∷ b ∷ ks) sorted zero d lt = ap is_lt (sorted_head string_cmp a (b ∷ ks) sorted).0
keys_in_order (a ∷ b ∷ ks) sorted (suc k) d lt =
    let names : List (List ℕ) = map string_bytes (a ∷ b ∷ ks) in
    let e : suc (k + 1) ≡ suc k + 1 = omega arith in
    subst (λ n. ComesBefore (get_or names (suc k) d) (get_or names n d)) e
    (keys_in_order (b ∷ ks) (sorted_tail string_cmp a (b ∷ ks) sorted) k d (omega arith))

-- the keys of a map rise, and with them the names of a table of numbers or of rates
pub names_in_order : (es : List Entry) → IsStrictlySortedBy string_cmp (keys_of es)
    → AreInOrder ComesBefore (map (λ pair. pair.0) (numbers_of (members_view es)))
names_in_order es sorted = subst (AreInOrder ComesBefore) (names_are_keys es) (keys_in_order (keys_of es) sorted)

pub classes_in_order : (es : List Entry) → IsStrictlySortedBy string_cmp (keys_of es)
    → AreInOrder ComesBefore (map (λ pair. pair.0) (rates_of (members_view es)))
classes_in_order es sorted = subst (AreInOrder ComesBefore) (classes_are_keys es) (keys_in_order (keys_of es) sorted)

-- the table that a value is, or one without pairs
pub table_found : {B : Type 0} (f : B → Members) (found : Option B) (table : Option Members) (m : B)
    → option_map f found ≡ table
    → found ≡ Some m → f m ≡ unwrap_or table no_members
table_found {B} f found table m whole is =
    sym (ap (λ (o : Option B). unwrap_or (option_map f o) no_members) is)
    ∙ ap (λ (o : Option Members). unwrap_or o no_members) whole

pub no_table : {B : Type 0} (f : B → Members) (found : Option B) (table : Option Members) → option_map f found ≡ table
    → found ≡ None → no_members ≡ unwrap_or table no_members
no_table {B} f found table whole is =
    sym (ap (λ (o : Option B). unwrap_or (option_map f o) no_members) is)
    ∙ ap (λ (o : Option Members). unwrap_or o no_members) whole

-- the rates of one class more, and those of all
pub rates_more : (es left rest : List Entry) (key : String Global) (value : Value)
    (read now : List (Text × List (Text × ℕ)))
    (name : Text) (numbers : List (Text × ℕ)) → left ≡ (key, value) ∷ rest → name ≡ string_bytes key
    → numbers ≡ numbers_of (unwrap_or (as_table (view value)) no_members)
    → read ++ rates_of (members_view left) ≡ rates_of (members_view es) → now ≡ read ++ (name, numbers) ∷ []
    → now ++ rates_of (members_view rest) ≡ rates_of (members_view es)
rates_more es left rest key value read now name numbers first named counted before pushed =
    let more : List (Text × List (Text × ℕ)) = rates_of (members_view rest) in
    ap (λ (l : List (Text × List (Text × ℕ))). l ++ more) pushed ∙ append_assoc read ((name, numbers) ∷ []) more
    ∙ ap (λ (n : Text). read ++ (n, numbers) ∷ more) named
    ∙ ap (λ (ns : List (Text × ℕ)). read ++ (string_bytes key, ns) ∷ more) counted
    ∙ ap (λ (l : List Entry). read ++ rates_of (members_view l)) (sym first) ∙ before

pub rates_all : (es left : List Entry) (read : List (Text × List (Text × ℕ))) → left ≡ []
    → read ++ rates_of (members_view left) ≡ rates_of (members_view es) → read ≡ rates_of (members_view es)
rates_all es left read none whole =
    sym (append-nil read) ∙ ap (λ (l : List Entry). read ++ rates_of (members_view l)) (sym none) ∙ whole

-- one number more, and all of them
pub numbers_more : (es left rest : List Entry) (key : String Global) (value : Value) (read now : List (Text × ℕ))
    (name : Text) (number : ℕ)
    → left ≡ (key, value) ∷ rest → name ≡ string_bytes key → number ≡ unwrap_or (natural_of (view value)) 0
    → read ++ numbers_of (members_view left) ≡ numbers_of (members_view es) → now ≡ read ++ (name, number) ∷ []
    → now ++ numbers_of (members_view rest) ≡ numbers_of (members_view es)
numbers_more es left rest key value read now name number first named counted before pushed =
    let more : List (Text × ℕ) = numbers_of (members_view rest) in
    ap (λ (l : List (Text × ℕ)). l ++ more) pushed ∙ append_assoc read ((name, number) ∷ []) more
    ∙ ap (λ (n : Text). read ++ (n, number) ∷ more) named ∙ ap (λ (n : ℕ). read ++ (string_bytes key, n) ∷ more) counted
    ∙ ap (λ (l : List Entry). read ++ numbers_of (members_view l)) (sym first) ∙ before

pub numbers_all : (es left : List Entry) (read : List (Text × ℕ)) → left ≡ []
    → read ++ numbers_of (members_view left) ≡ numbers_of (members_view es) → read ≡ numbers_of (members_view es)
numbers_all es left read none whole =
    sym (append-nil read) ∙ ap (λ (l : List Entry). read ++ numbers_of (members_view l)) (sym none) ∙ whole
