use Rattle.std.proofs.Common.{refl}
use Rattle.sr_args.specs.declared.name.OptionName.TheVariants as names
use Rattle.sr_args.specs.FormWord.{nat, numeric}
use Rattle.sr_args.specs.Options.{flag, numbered, count, count_place}
use Rattle.sr_args.specs.steps.Options.{trim_reading}
use Rattle.sr_args.proofs.PartLemmas.{BeginsNone-group, BeginsNone-trimming, BeginsNone-word, Begins-bare, Begins-group, Begins-trimming, Begins-word, count-stands}
use Rattle.sr_args.proofs.options.operand_words.Goals as goal

pub returns-in-Flag-clause-found : goal.returns-in-Flag-clause-found
returns-in-Flag-clause-found c = rw c.in-Flag.is (Begins-bare c.args.set (flag c.in-Flag.flag) c.args.words.now tt (λ ps. tt) refl)

pub returns-in_err-next-in-Numbered-clause-none : goal.returns-in_err-next-in-Numbered-clause-none
returns-in_err-next-in-Numbered-clause-none c =
    rw (c.from_residual.ensures, c.in-Numbered.is) (BeginsNone-word c.args.set (names.Numbered c.in-Numbered.which) c.args.words.now c.in_err-next-in-Numbered.ensures.none refl)

pub returns-in_ok-next-in-Numbered-clause-found : goal.returns-in_ok-next-in-Numbered-clause-found
returns-in_ok-next-in-Numbered-clause-found c =
    let word = c.in_ok-next-in-Numbered.field-0.now in
    rw c.in-Numbered.is (Begins-word c.args.set (numbered c.in-Numbered.which word) (numeric nat word) c.args.words.now c.next.new.self word c.in_ok-next-in-Numbered.ensures.some tt (λ ps. tt) refl refl)

pub returns-in_err-next-in-Count-clause-none : goal.returns-in_err-next-in-Count-clause-none
returns-in_err-next-in-Count-clause-none c =
    rw (c.from_residual-in_err-next-in-Count.ensures, c.in-Count.is) (BeginsNone-word c.args.set names.Count c.args.words.now c.in_err-next-in-Count.ensures.none refl)

pub returns-in_ok-next-in-Count-clause-found : goal.returns-in_ok-next-in-Count-clause-found
returns-in_ok-next-in-Count-clause-found c =
    let word = c.in_ok-next-in-Count.field-0.now in
    let range = c.count_range.result in
    rw c.in-Count.is (Begins-word c.args.set (count range word) (count_place range word) c.args.words.now c.next-in-Count.new.self word c.in_ok-next-in-Count.ensures.some c.count_range.ensures (λ ps. tt) refl (count-stands range word))

pub returns-in_err-group_words-in-Group-clause-none : goal.returns-in_err-group_words-in-Group-clause-none
returns-in_err-group_words-in-Group-clause-none c =
    rw (c.from_residual-in_err-group_words-in-Group.ensures, c.in-Group.is) (BeginsNone-group c.args.set c.args.words.now c.in_err-group_words-in-Group.ensures.none)

pub returns-in_ok-group_words-in-Group-clause-found : goal.returns-in_ok-group_words-in-Group-clause-found
returns-in_ok-group_words-in-Group-clause-found c =
    let read = c.in_ok-group_words-in-Group.field-0 in
    rw c.in-Group.is (Begins-group c.args.set c.args.words.now c.group_words.new.words read.group.now read.consumer.now c.in_ok-group_words-in-Group.ensures.found)

pub returns-in_err-trim_words-in-Trim-clause-none : goal.returns-in_err-trim_words-in-Trim-clause-none
returns-in_err-trim_words-in-Trim-clause-none c =
    rw (c.from_residual-in_err-trim_words-in-Trim.ensures, c.in-Trim.is) (BeginsNone-trimming c.args.set c.in-Trim.by c.args.words.now c.in_err-trim_words-in-Trim.ensures.none)

pub returns-in_ok-trim_words-in-Trim-clause-found : goal.returns-in_ok-trim_words-in-Trim-clause-found
returns-in_ok-trim_words-in-Trim-clause-found c =
    let read = c.in_ok-trim_words-in-Trim.field-0 in
    rw c.in-Trim.is (Begins-trimming c.args.set c.in-Trim.by c.args.words.now c.trim_words.new.words (trim_reading read) c.in_ok-trim_words-in-Trim.ensures.found)
