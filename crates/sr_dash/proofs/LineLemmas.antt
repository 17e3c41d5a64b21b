-- A line is written column by column.
use Rattle.std.proofs.Common.{◌≡◌, ◌&&◌, Bool, true, false, ℕ, List, [], ◌∷◌, ◌++◌, Option, Some, None, Result, Ok, Err, OnOk, is_ok, if◌then◌else◌, option_map, refl, ap, append_assoc, ◌∙◌}
use Rattle.std.proofs.lemmas.Grind.{flat_map-append}
use Rattle.std.proofs.lemmas.List.{flat_map_more}
use Rattle.sr_group.specs.declared.consumer.Consumer.{Consumer}
use Rattle.std.specs.List.{list_all}
use Rattle.sr_dash.specs.Board.{columns, escaped, is_plain, on_the_right, since}

-- these bytes were written, if the text is that
pub wrote_these : {E : Type 0} (result : Result (Unit {0}) E) (old new text these : List ℕ) → new ≡ (if is_ok result then old ++ text else old) → text ≡ these → OnOk result (new ≡ old ++ these)
wrote_these (Ok done) old new text these wrote is = wrote ∙ ap (λ (l : List ℕ). old ++ l) is
wrote_these (Err fault) old new text these wrote is = tt

-- plain bytes are escaped as they are
pub escaped-plain : (name : List ℕ) → list_all is_plain name ≡ true → escaped name ≡ name
escaped-plain [] plain = refl
escaped-plain (byte ∷ name) plain = by (λ others. escaped-plain name others) (is_plain byte) refl plain
  where
    by : (list_all is_plain name ≡ true → escaped name ≡ name) → (test : Bool) → is_plain byte ≡ test → test && list_all is_plain name ≡ true → escaped (byte ∷ name) ≡ byte ∷ name
    by rest true is others = rw is (ap (λ (l : List ℕ). byte ∷ l) (rest others))
    by rest false is others = absurd cc

-- one more text after what was written
pub and_then : (start written more before after : List ℕ) → before ≡ start ++ written → after ≡ before ++ more → after ≡ start ++ (written ++ more)
and_then start written more before after e next = next ∙ ap (λ (l : List ℕ). l ++ more) e ∙ append_assoc start written more

-- one more column after those that were written
pub and_column : (start before after : List ℕ) (cells : List (ℕ × List ℕ)) (width : ℕ) (text : List ℕ) → before ≡ start ++ columns cells → after ≡ before ++ 0x20 ∷ on_the_right width text → after ≡ start ++ columns (cells ++ (width, text) ∷ [])
and_column start before after cells width text e next =
    next
    ∙ ap (λ (l : List ℕ). l ++ 0x20 ∷ on_the_right width text) e
    ∙ flat_map_more (λ (column : ℕ × List ℕ). 0x20 ∷ on_the_right column.0 column.1) start cells (width, text)

-- some more columns after those that were written
pub and_columns : (start before after : List ℕ) (cells more : List (ℕ × List ℕ)) → before ≡ start ++ columns cells → after ≡ before ++ columns more → after ≡ start ++ columns (cells ++ more)
and_columns start before after cells more e next =
    let both : columns (cells ++ more) ≡ columns cells ++ columns more = flat_map-append (λ (column : ℕ × List ℕ). 0x20 ∷ on_the_right column.0 column.1) cells more in
    rw (next, e, both, append_assoc start (columns cells) (columns more)) refl

-- how long ago a consumer was seen
pub since-seen : (moment : ℕ) (found : Option Consumer) → option_map (since moment) (option_map (λ c. c.seen) found) ≡ option_map (λ c. since moment c.seen) found
since-seen moment None = refl
since-seen moment (Some c) = refl
