use Rattle.std.proofs.Common.{◌++◌, List, ℕ, length, sym, ap, ◌∙◌}
use Rattle.sr_resp.specs.Stream.{Progress}
use Rattle.sr_resp.proofs.TakeLemmas.{reader_stands, start_within}
use Rattle.sr_resp.proofs.reader.Reader.take_fresh.Goals as goal

pub sort_out-sorted-requires : goal.sort_out-sorted-requires
sort_out-sorted-requires c =
    let none = ap (λ (p : Progress). p.rest) c.self.view_is ∙ c.requires.fresh in
    reader_stands _ _ c.args.piece.now _ _ _ _ c.self.invariant
    (ap (λ (p : Progress). p.failed) c.self.view_is ∙ c.requires.open)
    (ap (λ (r : List ℕ). r ++ c.args.piece.now) (sym none)) (ap length (sym none))

pub keep_rest-requires : goal.keep_rest-requires
keep_rest-requires c = start_within _ _ _ _ c.sort_out-sorted.result c.sort_out-sorted.ensures.ok
