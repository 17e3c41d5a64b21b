-- One reader serves several commands: what it answers is made into the call of each. And a reader of the last words of a form
-- serves the whole form.
use Rattle.std.proofs.Common.{◌≡◌, ◌≢◌, List, [], ◌∷◌, Option, Some, None, Err, refl, sym, ap, ◌∙◌}
use Rattle.sr_args.specs.declared.fault.CallFault.{CallFault}
use Rattle.sr_args.specs.declared.fault.CallFault.TheVariants as call_faults
use Rattle.sr_args.specs.FormWord.{Word, FormWord, Fits}
use Rattle.sr_args.specs.Form.{Form, text, maybe, Reading, Values, Reads, places}
use Rattle.sr_args.specs.steps.Gives.{Gives, GivesCall}

-- what is made of a call, or of a fault, is made of it by the form too
pub made_call : {A B : Type 0} (form : Form) (f : Values form → A) (g : Values form → B) (make : A → B) (words : List Word) (a : A)
    → ((values : Values form) → g values ≡ make (f values)) → GivesCall form f words a → GivesCall form g words (make a)
made_call form f g make words a same gives =
    record { reading = gives.reading; reads = gives.reads; values = gives.values; means = gives.means; is = ap make gives.is ∙ sym (same gives.values) }

pub made_fault : {A B : Type 0} (form : Form) (f : Values form → A) (g : Values form → B) (make : A → B) (words : List Word) (fault : CallFault)
    → ((values : Values form) → g values ≡ make (f values)) → Gives form f words (Err fault) → Gives form g words (Err fault)
made_fault form f g make words call_faults.Unknown same gives = gives
made_fault form f g make words call_faults.Arity same gives = gives
made_fault form f g make words call_faults.Syntax same gives = gives
made_fault form f g make words call_faults.Number same gives = gives
made_fault form f g make words call_faults.BadId same gives = gives
made_fault form f g make words call_faults.Memory same gives = (make gives.0, made_call form f g make words gives.0 same gives.1)

-- one word more before a form
text-reads : (form : Form) (words rest : List Word) (word : Word) → words ≡ word ∷ rest → (reading : Reading form) → Reads form rest reading → Reads (text form) words (word, reading)
text-reads form words rest word e reading r = record { fits = rw e (refl, r.fits); fit = r.fit }

text-reading : (form : Form) (words rest : List Word) (word : Word) → words ≡ word ∷ rest → (reading : Reading (text form)) → Reads (text form) words reading → Reads form rest reading.1
text-reading form words rest word e reading r = record { fits = (rw e at r.fits).1; fit = r.fit }

pub text_call : {A B : Type 0} (form : Form) (f : Values form → A) (g : Values (text form) → B) (make : Word → A → B) (words rest : List Word) (word copy : Word) (a : A)
    → words ≡ word ∷ rest → copy ≡ word → ((word : Word) (values : Values form) → g (word, values) ≡ make word (f values)) → GivesCall form f rest a → GivesCall (text form) g words (make copy a)
text_call form f g make words rest word copy a e same made gives = record {
  reading = (word, gives.reading);
  reads = text-reads form words rest word e gives.reading gives.reads;
  values = (copy, gives.values);
  means = (same, gives.means);
  is = ap (make copy) gives.is ∙ sym (made copy gives.values);
}

pub text_fault : {A B : Type 0} (form : Form) (f : Values form → A) (g : Values (text form) → B) (make : Word → A → B) (words rest : List Word) (word : Word) (fault : CallFault)
    → words ≡ word ∷ rest → ((word : Word) (values : Values form) → g (word, values) ≡ make word (f values)) → Gives form f rest (Err fault) → Gives (text form) g words (Err fault)
text_fault form f g make words rest word call_faults.Unknown e made gives = gives
text_fault form f g make words rest word call_faults.Arity e made gives = gives
text_fault form f g make words rest word call_faults.Syntax e made gives = λ reading r. gives reading.1 (text-reading form words rest word e reading r)
text_fault form f g make words rest word call_faults.Number e made gives =
    ((word, gives.0), text-reads form words rest word e gives.0 gives.1, λ h. gives.2 h.1)
text_fault form f g make words rest word call_faults.BadId e made gives =
    ((word, gives.0), text-reads form words rest word e gives.0 gives.1, (tt, gives.2), λ h. gives.3 h.1)
text_fault form f g make words rest word call_faults.Memory e made gives =
    (make word gives.0, text_call form f g make words rest word word gives.0 e refl made gives.1)

-- two words more before a form: a key and a group
pub in_group_call : {A B : Type 0} (form : Form) (f : Values form → A) (g : Values (text (text form)) → B) (make : Word → Word → A → B) (words after rest : List Word) (key group key′ group′ : Word) (a : A)
    → ((key group : Word) (values : Values form) → g (key, (group, values)) ≡ make key group (f values)) → words ≡ key ∷ after → after ≡ group ∷ rest → key′ ≡ key → group′ ≡ group → GivesCall form f rest a → GivesCall (text (text form)) g words (make key′ group′ a)
in_group_call {A} {B} form f g make words after rest key group key′ group′ a made d e same_key same_group gives =
    text_call (text form) (λ (v : Values (text form)). (v.0, f v.1)) g (λ (k : Word) (p : Word × A). make k p.0 p.1) words after key key′ (group′, a) d same_key (λ k v. made k v.0 v.1)
    (text_call form f (λ (v : Values (text form)). (v.0, f v.1)) (λ (k : Word) (x : A). (k, x)) after rest group group′ a e same_group (λ k v. refl) gives)

pub in_group_fault : {A B : Type 0} (form : Form) (f : Values form → A) (g : Values (text (text form)) → B) (make : Word → Word → A → B) (words after rest : List Word) (key group : Word) (fault : CallFault)
    → ((key group : Word) (values : Values form) → g (key, (group, values)) ≡ make key group (f values)) → words ≡ key ∷ after → after ≡ group ∷ rest → Gives form f rest (Err fault) → Gives (text (text form)) g words (Err fault)
in_group_fault {A} {B} form f g make words after rest key group fault made d e gives =
    text_fault (text form) (λ (v : Values (text form)). (v.0, f v.1)) g (λ (k : Word) (p : Word × A). make k p.0 p.1) words after key fault d (λ k v. made k v.0 v.1)
    (text_fault form f (λ (v : Values (text form)). (v.0, f v.1)) (λ (k : Word) (x : A). (k, x)) after rest group fault e (λ k v. refl) gives)

-- a form that may be left out, if there is a word
some_place : (words : List Word) (ps : List FormWord) → words ≢ [] → Fits words ps → ps ≢ []
some_place [] ps some f none = some refl
some_place (w ∷ words) ps some f none = rw none at f

maybe-reads : (form : Form) (words : List Word) → words ≢ [] → (reading : Reading form) → Reads form words reading → Reads (maybe form) words (Some reading)
maybe-reads form words some reading r = record { fits = r.fits; fit = (some_place words (places form reading) some r.fits, r.fit) }

no_word : (words : List Word) → words ≢ [] → Fits words [] → ⊥
no_word [] some f = some refl
no_word (w ∷ words) some f = f

maybe-none : (form : Form) (words : List Word) → words ≢ [] → ((reading : Reading form) → Reads form words reading → ⊥) → (reading : Reading (maybe form)) → Reads (maybe form) words reading → ⊥
maybe-none form words some none None r = no_word words some r.fits
maybe-none form words some none (Some reading) r = none reading (record { fits = r.fits; fit = r.fit.1 })

pub maybe_call : {A : Type 0} (form : Form) (f : Values form → A) (g : Values (maybe form) → Option A) (words : List Word) (a : A)
    → words ≢ [] → ((values : Values form) → g (Some values) ≡ Some (f values)) → GivesCall form f words a → GivesCall (maybe form) g words (Some a)
maybe_call form f g words a some made gives = record {
  reading = Some gives.reading;
  reads = maybe-reads form words some gives.reading gives.reads;
  values = Some gives.values;
  means = gives.means;
  is = ap Some gives.is ∙ sym (made gives.values);
}

pub maybe_fault : {A : Type 0} (form : Form) (f : Values form → A) (g : Values (maybe form) → Option A) (words : List Word) (fault : CallFault)
    → words ≢ [] → ((values : Values form) → g (Some values) ≡ Some (f values)) → Gives form f words (Err fault) → Gives (maybe form) g words (Err fault)
maybe_fault form f g words call_faults.Unknown some made gives = gives
maybe_fault form f g words call_faults.Arity some made gives = gives
maybe_fault form f g words call_faults.Syntax some made gives = maybe-none form words some gives
maybe_fault form f g words call_faults.Number some made gives = (Some gives.0, maybe-reads form words some gives.0 gives.1, gives.2)
maybe_fault form f g words call_faults.BadId some made gives = (Some gives.0, maybe-reads form words some gives.0 gives.1, gives.2, gives.3)
maybe_fault form f g words call_faults.Memory some made gives = (Some gives.0, maybe_call form f g words gives.0 some made gives.1)
