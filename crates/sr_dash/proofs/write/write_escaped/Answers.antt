use Rattle.std.proofs.Common.{ℕ, List, ◌++◌, get_or, take, sym, ap, ◌∙◌, arith}
use Rattle.std.proofs.lemmas.List.{flat_map_more, take_all, take_more}
use Rattle.std.proofs.lemmas.Result.{IfOk-from_err}
use Rattle.sr_dash.specs.Board.{escaped, escaped_byte}
use Rattle.sr_dash.proofs.LineLemmas.{escaped-plain, wrote_these}
use Rattle.sr_dash.proofs.write.write_escaped.Goals as goal

pub returns-then-are_plain : goal.returns-then-are_plain
returns-then-are_plain c =
    let name = c.args.name.now in
    let plain = sym c.are_plain.ensures ∙ c.if-are_plain.true in
    wrote_these c.extend_from_slice.result c.args.out.now.items c.extend_from_slice.new.self.items name (escaped name) c.extend_from_slice.ensures.items (sym (escaped-plain name plain))

pub returns-in_err-write_byte : goal.returns-in_err-write_byte
returns-in_err-write_byte c = IfOk-from_err _ _ c.from_residual.ensures.0

pub loop-byte-preserved : goal.loop-byte-preserved
loop-byte-preserved c =
    let start = c.args.out.now.items in
    let name = c.args.name.now in
    let read = c.loop-byte.byte-index in
    let byte = get_or name read 0 in
    c.in_ok-write_byte.ensures
    ∙ ap (λ (l : List ℕ). l ++ escaped_byte byte) c.loop-byte.invariant
    ∙ flat_map_more escaped_byte start (take read name) byte
    ∙ ap (λ (l : List ℕ). start ++ escaped l) (sym (take_more name read 0 c.loop-byte-test.true))

pub returns : goal.returns
returns c = c.loop-byte.invariant ∙ ap (λ (l : List ℕ). c.args.out.now.items ++ escaped l) (take_all c.loop-byte.byte-index c.args.name.now (omega arith))
