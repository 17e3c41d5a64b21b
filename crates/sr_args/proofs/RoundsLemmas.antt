-- What RECOVER.PLAN and RECOVER.RUN answer, over the words after their group.
use Rattle.std.proofs.Common.{◌≡◌, ◌≢◌, ℕ, List, [], ◌∷◌, map, Option, Some, None, refl, sym, ap}
use Rattle.std.specs.Prelude.{unwrap_or}
use Rattle.sr_args.specs.declared.commands.recover.Rounds.{Rounds}
use Rattle.sr_args.specs.declared.name.OptionName.TheVariants.{Tries, Dead}
use Rattle.sr_args.specs.Name.{IsSameName, option_text}
use Rattle.sr_args.specs.FormWord.{Word, HasNumbers, any, option, tries}
use Rattle.sr_args.specs.Form.{Reading, Reads, places, named_places, IsNamedFirst}
use Rattle.sr_args.specs.commands.RecoverRun.{usual_tries}
use Rattle.sr_args.specs.steps.Gives.{GivesCall}
use Rattle.sr_args.specs.steps.Numbers.{IsAnyWord}
use Rattle.sr_args.specs.steps.Options.{Begins}
use Rattle.sr_args.specs.steps.Rounds.{dead_form, dead_of, rounds_form, rounds_of, IsMaybeTries}
use Rattle.sr_args.proofs.ChoiceLemmas.{HasNumbers-front}
use Rattle.sr_args.proofs.FormLemmas.{texts-from_fits}
use Rattle.sr_args.proofs.OptionLemmas.{Fits-texts}
use Rattle.sr_args.proofs.OptionLemmas.{name-one}

-- DEAD and the words after it
pub dead-reads : (words rest : List Word) (first : Word) → words ≡ first ∷ rest → IsSameName first (option_text Dead) → rest ≢ [] → Reads dead_form words rest
dead-reads words rest first e same some = record { fits = rw e (same, Fits-texts rest); fit = some }

pub dead-none_left : (words rest : List Word) (first : Word) → words ≡ first ∷ rest → rest ≡ [] → (reading : Reading dead_form) → Reads dead_form words reading → ⊥
dead-none_left words rest first e none reading r = r.fit (sym (texts-from_fits [] reading (rw none at (rw e at r.fits).1)))

pub dead-gives : (words dead copies : List Word) → Reads dead_form words dead → copies ≡ dead → GivesCall dead_form dead_of words copies
dead-gives words dead copies reads same = record { reading = dead; reads = reads; values = copies; means = same; is = refl }

-- a number of rounds before them, or none; the word DEAD is not TRIES
tries-no_dead : Tries ≡ Dead → ⊥
tries-no_dead e = cc

dead-first : (word : Option Word) (dead : List Word) → IsNamedFirst Tries word (option Dead ∷ map any dead)
dead-first None dead = record { unnamed = λ first words f same. tries-no_dead (name-one first Tries Dead same f.0) }
dead-first (Some word) dead = tt

pub rounds-reads : (words left : List Word) (word : Option Word) (dead : List Word) → Begins (named_places Tries tries) IsAnyWord (IsNamedFirst Tries) words word left → Reads dead_form left dead → Reads rounds_form words (word, dead)
rounds-reads words left word dead begins r = record { fits = begins.fits (places dead_form dead) r.fits; fit = (dead-first word dead, r.fit) }

pub rounds-none : (words left : List Word) (word : Option Word) → Begins (named_places Tries tries) IsAnyWord (IsNamedFirst Tries) words word left → ((reading : Reading dead_form) → Reads dead_form left reading → ⊥) → (reading : Reading rounds_form) → Reads rounds_form words reading → ⊥
rounds-none words left word begins none reading r =
    let one = begins.only reading.0 (places dead_form reading.1) tt r.fit.0 r.fits in
    none reading.1 (record { fits = one.1; fit = r.fit.1 })

tries-exists : (word : Option Word) → HasNumbers (named_places Tries tries word) → (n : Option ℕ) × IsMaybeTries word n
tries-exists None h = (None, tt)
tries-exists (Some word) h = (Some h.1.0.0, h.1.0.1)

pub rounds-no_number : (word : Option Word) (dead : List Word) → ((n : Option ℕ) → IsMaybeTries word n → ⊥) → HasNumbers (places rounds_form (word, dead)) → ⊥
rounds-no_number word dead none h =
    let found = tries-exists word (HasNumbers-front (named_places Tries tries word) (places dead_form dead) h) in
    none found.0 found.1

abbrev pub rounds_with : ℕ → List Word → Rounds
rounds_with many dead = record { tries = many; dead = dead }

pub rounds-gives : (words dead copies : List Word) (word : Option Word) (n : Option ℕ) (many : ℕ) → Reads rounds_form words (word, dead) → IsMaybeTries word n → many ≡ unwrap_or n usual_tries → copies ≡ dead → GivesCall rounds_form rounds_of words (rounds_with many copies)
rounds-gives words dead copies word n many reads writes is same = record {
  reading = (word, dead);
  reads = reads;
  values = (n, copies);
  means = (writes, same);
  is = ap (λ (k : ℕ). rounds_with k copies) is;
}
