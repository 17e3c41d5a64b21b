use Rattle.std.proofs.Common.{◌≡◌, ℕ, ◌+◌, length, ap, ◌∙◌, arith, List, ◌++◌}
use Rattle.std.specs.Prelude.{codes, decimal}
use Rattle.sr_ids.proofs.WritingLemmas.{spelling-reads_back, written-text, written-rest}
use Rattle.sr_ids.proofs.write.write_id.Goals as goal

pub returns-clause-text : goal.returns-clause-text
returns-clause-text c =
    let out = c.args.out.now in
    let ms = c.copy_from_slice.new.self in
    let seq = c.copy_from_slice-2.new.self in
    let dash = length c.as_bytes-ms.result.now in
    let len = dash + 1 + length c.as_bytes-seq.result.now in
    let ms_is : ms ≡ decimal c.args.id.ms = c.copy_from_slice.ensures.after ∙ c.as_bytes-ms.ensures.value ∙ c.format.ensures.text in
    let seq_is : seq ≡ decimal c.args.id.seq = c.copy_from_slice-2.ensures.after ∙ c.as_bytes-seq.ensures.value ∙ c.format-2.ensures.text in
    written-text out ms seq dash len (omega arith) (omega arith) (omega arith) ∙ ap (λ (t : List ℕ). t ++ codes "-" ++ seq) ms_is ∙ ap (λ (t : List ℕ). decimal c.args.id.ms ++ codes "-" ++ t) seq_is

pub returns-clause-rest : goal.returns-clause-rest
returns-clause-rest c =
    let dash = length c.as_bytes-ms.result.now in
    let len = dash + 1 + length c.as_bytes-seq.result.now in
    written-rest c.args.out.now c.copy_from_slice.new.self c.copy_from_slice-2.new.self dash len (omega arith) (omega arith) (omega arith)

pub returns-clause-read_back : goal.returns-clause-read_back
returns-clause-read_back c = rw (returns-clause-text c) (spelling-reads_back 0 c.args.id (record { ms = omega arith; seq = omega arith }))
