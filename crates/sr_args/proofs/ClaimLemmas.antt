-- The words of XCLAIM: its ids, and what no word may be.
use Rattle.std.proofs.Common.{◌≡◌, ◌≢◌, ℕ, ℤ, ◌+◌, ◌≤◌, List, [], ◌∷◌, ◌++◌, length, map, take, Ok, Err, refl, sym, ap, ◌∙◌, subst, append_assoc, append-nil, arith, length-append, to_z, of_z, w64}
use Rattle.std.specs.Char.{to_ascii_lowercase}
use Rattle.std.specs.List.{flat_map}
use Rattle.std.proofs.lemmas.List.{take-append-le, take_all}
use Rattle.sr_ids.specs.declared.id.Id.{Id}
use Rattle.sr_args.specs.declared.call.Call.TheVariants.{Xclaim}
use Rattle.sr_args.specs.declared.commands.named.ConsumerNamed.{ConsumerNamed}
use Rattle.sr_args.specs.declared.name.OptionName.{OptionName}
use Rattle.sr_args.specs.declared.name.Choice.{Choice}
use Rattle.sr_args.specs.declared.name.OptionSet.{OptionSet}
use Rattle.sr_args.specs.declared.name.OptionSet.TheVariants as sets
use Rattle.sr_args.specs.declared.options.ValueFault.{ValueFault}
use Rattle.sr_args.specs.declared.options.ValueFault.TheVariants as faults
use Rattle.sr_args.specs.Number.{IsInt}
use Rattle.sr_args.specs.FormWord.{Word, FormWord, Stands, Fits, option, any, numeric, spelled, strict_id, HasNumbers, HasIds}
use Rattle.sr_args.specs.Name.{nothing}
use Rattle.sr_args.specs.Options.{Written, option_places, AreOptionsFit, IsUnnamed}
use Rattle.sr_args.specs.Form.{Reading, Reads, places, AreUnnamed, IsNoneOf, AreNoneOf, AreBarred, AreIds}
use Rattle.sr_args.specs.commands.Xclaim.{form, call, unsupported}
use Rattle.sr_args.specs.steps.Claims.{IsSkipped, claim_reading}
use Rattle.sr_args.specs.steps.Gives.{Gives, GivesCall}
use Rattle.sr_args.specs.steps.Options.{AreJudged, BeginsNoOptions, EndsOptions, fault_of}
use Rattle.sr_args.proofs.ChoiceLemmas.{HasNumbers-append, HasNumbers-back, HasIds-back, HasIds-front, Choose-numbers, count-back}
use Rattle.sr_args.proofs.FormLemmas.{named-option, ids-numbers}
use Rattle.sr_args.proofs.OptionLemmas.{IsPast-end}

AreUnnamed-append : (set : OptionSet) (words : List Word) (word : Word) → AreUnnamed set words → IsUnnamed set word → AreUnnamed set (words ++ word ∷ [])
AreUnnamed-append set [] word u v = (v, tt)
AreUnnamed-append set (w ∷ words) word u v = (u.0, AreUnnamed-append set words word u.1 v)

pub IsSkipped-more : (set : OptionSet) (words left rest : List Word) (word : Word) → IsSkipped set words left → left ≡ word ∷ rest → IsUnnamed set word → IsSkipped set words rest
IsSkipped-more set words left rest word s e u = record {
  skipped = s.skipped ++ word ∷ [];
  are = s.are ∙ ap (λ (ws : List Word). s.skipped ++ ws) e ∙ sym (append_assoc s.skipped (word ∷ []) rest);
  unnamed = AreUnnamed-append set s.skipped word s.unnamed u;
}

-- the words that are skipped are the ids of every reading, and its options follow
pub ids-skipped : (set : OptionSet) (rest skipped left ids : List Word) (os : List Written) → rest ≡ skipped ++ left → AreUnnamed set skipped → ((word : Word) (more : List Word) → left ≡ word ∷ more → IsUnnamed set word → ⊥) → AreUnnamed set ids → AreOptionsFit set os → Fits rest (map (spelled strict_id) ids ++ flat_map option_places os) → (ids ≡ skipped) × Fits left (flat_map option_places os)
ids-skipped set rest [] left [] os e u end v fit f = (refl, subst (λ (ws : List Word). Fits ws (flat_map option_places os)) e f)
ids-skipped set rest (s ∷ skipped) left [] os e u end v fit f =
    absurd (named-option set s (skipped ++ left) os fit.of_set (subst (λ (ws : List Word). Fits ws (flat_map option_places os)) e f) u.0)
ids-skipped set [] [] left (i ∷ ids) os e u end v fit f = absurd f
ids-skipped set (w ∷ rest) [] left (i ∷ ids) os e u end v fit f =
    absurd (end w rest (sym e) (subst (λ (x : Word). IsUnnamed set x) (sym f.0) v.0))
ids-skipped set rest (s ∷ skipped) left (i ∷ ids) os e u end v fit f =
    let known : Fits (s ∷ (skipped ++ left)) (map (spelled strict_id) (i ∷ ids) ++ flat_map option_places os) = subst (λ (ws : List Word). Fits ws (map (spelled strict_id) (i ∷ ids) ++ flat_map option_places os)) e f in
    let one = ids-skipped set (skipped ++ left) skipped left ids os refl u.1 end v.1 fit known.1 in
    let first : s ≡ i = known.0 in
    let others : ids ≡ skipped = one.0 in
    (cc, one.1)

-- no other words in the same places have a name that these words do not have
IsNoneOf-same : (names : List OptionName) (word other : Word) → map to_ascii_lowercase word ≡ map to_ascii_lowercase other → IsNoneOf names word → IsNoneOf names other
IsNoneOf-same [] word other e n = tt
IsNoneOf-same (name ∷ names) word other e n = (λ same. n.0 (e ∙ same), IsNoneOf-same names word other e n.1)

same_case : (word other : Word) (place : FormWord) → Stands word place → Stands other place → map to_ascii_lowercase word ≡ map to_ascii_lowercase other
same_case word other (option name) p q = p ∙ sym q
same_case word other (any x) p q = ap (map to_ascii_lowercase) (p ∙ sym q)
same_case word other (numeric range x) p q = ap (map to_ascii_lowercase) (p ∙ sym q)
same_case word other (spelled spelling x) p q = ap (map to_ascii_lowercase) (p ∙ sym q)

AreNoneOf-others : (names : List OptionName) (ps : List FormWord) (words others : List Word) → Fits words ps → AreNoneOf names words → Fits others ps → AreNoneOf names others
AreNoneOf-others names [] [] [] f n g = tt
AreNoneOf-others names [] (w ∷ words) others f n g = absurd f
AreNoneOf-others names [] [] (o ∷ others) f n g = absurd g
AreNoneOf-others names (p ∷ ps) [] others f n g = absurd f
AreNoneOf-others names (p ∷ ps) (w ∷ words) [] f n g = tt
AreNoneOf-others names (p ∷ ps) (w ∷ words) (o ∷ others) f n g =
    (IsNoneOf-same names w o (same_case w o p f.0 g.0) n.0, AreNoneOf-others names ps words others f.1 n.1 g.1)

pub AreBarred-from_words : (names : List OptionName) (ps : List FormWord) (words : List Word) → Fits words ps → AreNoneOf names words → AreBarred names ps
AreBarred-from_words names ps words f n = record { unnamed = λ others g. AreNoneOf-others names ps words others f n g }

-- the words of a reading after the least idle time
record IsClaimRest (rest : List Word) : Type 0 where
  pub ids : List Word
  pub written : List Written
  pub fits : Fits rest (map (spelled strict_id) ids ++ flat_map option_places written)
  pub some : ids ≢ []
  pub unnamed : AreUnnamed sets.Xclaim ids
  pub fit : AreOptionsFit sets.Xclaim written

claim-rest : (words left rest : List Word) (key group consumer least_idle : Word) → words ≡ key ∷ group ∷ consumer ∷ left → left ≡ least_idle ∷ rest → (reading : Reading form) → Reads form words reading → IsClaimRest rest
claim-rest words left rest key group consumer least_idle d e reading r =
    let fits = rw e at (rw d at r.fits).1.1.1 in
    record { ids = reading.1.1.1.1.0; written = reading.1.1.1.1.1; fits = fits.1; some = r.fit.1.0; unnamed = r.fit.1.1; fit = r.fit.1.2 }

-- where the options begin: every reading has these ids, and options that the words left fit
pub record IsClaimTail (rest left : List Word) (many : ℕ) : Type 0 where
  pub skipped : IsSkipped sets.Xclaim rest left
  pub count : many + length left ≡ length rest
  pub end : (word : Word) (more : List Word) → left ≡ word ∷ more → IsUnnamed sets.Xclaim word → ⊥

tail-many : (rest left : List Word) (many : ℕ) → (t : IsClaimTail rest left many) → length t.skipped.skipped ≡ many
tail-many rest left many t = omega (arith, t.count, ap length t.skipped.are, length-append t.skipped.skipped left)

no_length : (words : List Word) → length words ≡ 0 → words ≡ []
no_length [] e = refl
no_length (w ∷ words) e = absurd (omega arith)

tail-reading : (rest left : List Word) (many : ℕ) → (t : IsClaimTail rest left many) → (r : IsClaimRest rest) → (r.ids ≡ t.skipped.skipped) × Fits left (flat_map option_places r.written)
tail-reading rest left many t r = ids-skipped sets.Xclaim rest t.skipped.skipped left r.ids r.written t.skipped.are t.skipped.unnamed t.end r.unnamed r.fit r.fits

pub claim-no_ids : (words after rest left : List Word) (key group consumer least_idle : Word) (many : ℕ) → words ≡ key ∷ group ∷ consumer ∷ after → after ≡ least_idle ∷ rest → IsClaimTail rest left many → many ≡ 0 → (reading : Reading form) → Reads form words reading → ⊥
claim-no_ids words after rest left key group consumer least_idle many d e t none reading r =
    let c = claim-rest words after rest key group consumer least_idle d e reading r in
    let one = tail-reading rest left many t c in
    c.some (one.0 ∙ no_length t.skipped.skipped (tail-many rest left many t ∙ none))

pub claim-no_options : (words after rest left : List Word) (key group consumer least_idle : Word) (many : ℕ) → words ≡ key ∷ group ∷ consumer ∷ after → after ≡ least_idle ∷ rest → IsClaimTail rest left many → BeginsNoOptions sets.Xclaim left → (reading : Reading form) → Reads form words reading → ⊥
claim-no_options words after rest left key group consumer least_idle many d e t none reading r =
    let c = claim-rest words after rest key group consumer least_idle d e reading r in
    let one = tail-reading rest left many t c in
    none c.written [] c.fit (IsPast-end sets.Xclaim) (rw append-nil one.1)

pub claim-word_left : (words after rest left last more : List Word) (key group consumer least_idle word : Word) (many : ℕ) (written : List Written) → words ≡ key ∷ group ∷ consumer ∷ after → after ≡ least_idle ∷ rest → IsClaimTail rest left many → EndsOptions sets.Xclaim left written last → last ≡ word ∷ more → (reading : Reading form) → Reads form words reading → ⊥
claim-word_left words after rest left last more key group consumer least_idle word many written d e t ends g reading r =
    let c = claim-rest words after rest key group consumer least_idle d e reading r in
    let one = tail-reading rest left many t c in
    rw g at (ends.only c.written [] c.fit (IsPast-end sets.Xclaim) (rw append-nil one.1)).1

Fits-ids-then : (ids left : List Word) (ps : List FormWord) → Fits left ps → Fits (ids ++ left) (map (spelled strict_id) ids ++ ps)
Fits-ids-then [] left ps f = f
Fits-ids-then (i ∷ ids) left ps f = (refl, Fits-ids-then ids left ps f)

some-length : (words : List Word) → (length words ≡ 0 → ⊥) → words ≢ []
some-length words some e = some (ap length e)

take-skipped : (many : ℕ) (skipped left : List Word) → length skipped ≡ many → take many (skipped ++ left) ≡ skipped
take-skipped many skipped left e = let within : many ≤ length skipped = omega arith in let whole : length skipped ≤ many = omega arith in rw take-append-le (take_all many skipped whole)

pub claim-reads : (words after rest left last : List Word) (key group consumer least_idle : Word) (many : ℕ) (written : List Written) → words ≡ key ∷ group ∷ consumer ∷ after → after ≡ least_idle ∷ rest → AreNoneOf unsupported rest → IsClaimTail rest left many → (many ≡ 0 → ⊥) → EndsOptions sets.Xclaim left written last → last ≡ [] → Reads form words (claim_reading key group consumer least_idle (take many rest) written)
claim-reads words after rest left last key group consumer least_idle many written d e supported t some ends g =
    let ids = t.skipped.skipped in
    let same : take many rest ≡ ids = ap (take many) t.skipped.are ∙ take-skipped many ids left (tail-many rest left many t) in
    let none : Fits last [] = subst (λ (ws : List Word). Fits ws []) (sym g) tt in
    let options : Fits left (flat_map option_places written) = rw append-nil at (ends.fits [] none) in
    let tail : Fits rest (map (spelled strict_id) ids ++ flat_map option_places written) = subst (λ (ws : List Word). Fits ws (map (spelled strict_id) ids ++ flat_map option_places written)) (sym t.skipped.are) (Fits-ids-then ids left (flat_map option_places written) options) in
    let found : Reads form words (claim_reading key group consumer least_idle ids written) = record {
      fits = rw d (refl, (refl, (refl, rw e (refl, tail))));
      fit = (AreBarred-from_words unsupported (map (spelled strict_id) ids ++ flat_map option_places written) rest tail supported, (some-length ids (λ z. some (sym (tail-many rest left many t) ∙ z)), t.skipped.unnamed, ends.right));
    } in
    subst (λ (is : List Word). Reads form words (claim_reading key group consumer least_idle is written)) (sym same) found

-- a fault of the options is that of the command
pub claim-fault : (words : List Word) (key group consumer least_idle : Word) (ids : List Word) (written : List Written) (z : ℤ) (fault : ValueFault) → Reads form words (claim_reading key group consumer least_idle ids written) → IsInt least_idle z → AreJudged written (Err fault) → Gives form call words (Err (fault_of fault))
claim-fault words key group consumer least_idle ids written z faults.Number reads i judged =
    (claim_reading key group consumer least_idle ids written, reads, λ h. judged (HasNumbers-back (map (spelled strict_id) ids) (flat_map option_places written) h.1.1.1.1))
claim-fault words key group consumer least_idle ids written z faults.BadId reads i judged =
    (claim_reading key group consumer least_idle ids written, reads, (tt, (tt, (tt, ((z, i), HasNumbers-append (map (spelled strict_id) ids) (flat_map option_places written) (ids-numbers strict_id ids) judged.0)))), λ h. judged.1 (HasIds-back (map (spelled strict_id) ids) (flat_map option_places written) h.1.1.1.1))

pub claim-numbers : (key group consumer least_idle : Word) (ids : List Word) (written : List Written) (z : ℤ) (choice : Choice) → IsInt least_idle z → AreJudged written (Ok choice) → HasNumbers (places form (claim_reading key group consumer least_idle ids written))
claim-numbers key group consumer least_idle ids written z choice i judged =
    (tt, (tt, (tt, ((z, i), HasNumbers-append (map (spelled strict_id) ids) (flat_map option_places written) (ids-numbers strict_id ids) (Choose-numbers written nothing choice judged)))))

pub claim-ids : (key group consumer least_idle : Word) (ids : List Word) (written : List Written) → HasIds (places form (claim_reading key group consumer least_idle ids written)) → HasIds (map (spelled strict_id) ids)
claim-ids key group consumer least_idle ids written h = HasIds-front (map (spelled strict_id) ids) (flat_map option_places written) h.1.1.1.1

pub claim-gives : (words : List Word) (key group consumer least_idle : Word) (ids : List Word) (written : List Written) (named : ConsumerNamed) (z : ℤ) (list : List Id) (choice : Choice) → Reads form words (claim_reading key group consumer least_idle ids written) → named.key ≡ key → named.group ≡ group → named.consumer ≡ consumer → IsInt least_idle z → AreIds strict_id ids list → AreJudged written (Ok choice)
    → GivesCall form call words (Xclaim (record { key = named.key; group = named.group; consumer = named.consumer; least_idle = to_z w64 (of_z w64 z); ids = list; time = choice.time; count = choice.delivered; just_ids = choice.just_ids }))
claim-gives words key group consumer least_idle ids written named z list choice reads same_key same_group same_consumer i are judged = record {
  reading = claim_reading key group consumer least_idle ids written;
  reads = reads;
  values = (named.key, (named.group, (named.consumer, (z, (list, choice)))));
  means = (same_key, (same_group, (same_consumer, (i, (are, judged)))));
  is = ap (λ (n : ℤ). Xclaim (record { key = named.key; group = named.group; consumer = named.consumer; least_idle = n; ids = list; time = choice.time; count = choice.delivered; just_ids = choice.just_ids })) (count-back least_idle z i);
}
