use Rattle.std.proofs.Common.{rules, ◌≡◌, ◌++◌, ◌∷◌, [], List, ℕ, decimal, length, option_map, sym, ap, append-nil, append_assoc, ◌∙◌}
use Rattle.sr_pending.specs.declared.nack.Nack.{Nack}
use Rattle.sr_pending.specs.{owned_by}
use Rattle.sr_dash.specs.Board as boards
use Rattle.sr_dash.specs.Board.{Row, on_the_left, on_the_right, cell, cells, columns, escaped, fee_in, room_in, since, soft_in, tier_cells}
use Rattle.sr_dash.proofs.LineLemmas.{and_column, and_columns, and_then}
use Rattle.sr_dash.proofs.line.write_line.Goals as goal

pub returns : goal.returns
returns c =
    let view = c.args.view.now in
    let row : Row = record (boards.row_of view.group.now.shown view.moment view.policy.now c.args.name.now) { idle = option_map (since view.moment) c.args.seen } in
    let start = c.args.out.now.items in
    let name : List ℕ = on_the_left 20 (escaped row.name) in
    let pending : List ℕ = decimal row.pending in
    let limit : List ℕ = cell row.limit in
    let room : List ℕ = cell (room_in row) in
    let oldest : List ℕ = cell row.oldest in
    let idle : List ℕ = cell row.idle in
    let tier : List (ℕ × List ℕ) = tier_cells view.wide (cell (soft_in row)) (cell (fee_in row)) in
    let line_end : List ℕ = 0x0a ∷ [] in
    let seen : c.since-idle.result ≡ row.idle = c.since-idle.ensures in
    let counted = c.count_of-pending.ensures.value ∙ ap (λ (nacks : List Nack). length (owned_by c.args.name.now nacks)) c.pending.ensures.nacks in
    let is_name : c.write_name.new.out.items ≡ start ++ name = search rules in
    let is_pending : c.write_number.new.out.items ≡ c.write_name.new.out.items ++ 0x20 ∷ on_the_right 8 pending = search rules in
    let is_limit : c.write_number-2.new.out.items ≡ c.write_number.new.out.items ++ 0x20 ∷ on_the_right 8 limit = search rules in
    let is_room : c.write_number-3.new.out.items ≡ c.write_number-2.new.out.items ++ 0x20 ∷ on_the_right 8 room = search rules in
    let is_oldest : c.write_number-4.new.out.items ≡ c.write_number-3.new.out.items ++ 0x20 ∷ on_the_right 12 oldest = search rules in
    let is_idle : c.write_number-5.new.out.items ≡ c.write_number-4.new.out.items ++ 0x20 ∷ on_the_right 12 idle = search rules in
    let is_tier : c.write_tier.new.out.items ≡ c.write_number-5.new.out.items ++ columns tier = search rules in
    let is_end : c.push.new.self.items ≡ c.write_tier.new.out.items ++ line_end = search rules in
    let with_name : c.write_name.new.out.items ≡ start ++ name ++ columns [] = is_name ∙ sym (append-nil (start ++ name)) in
    let with_pending = and_column (start ++ name) _ _ [] 8 pending with_name is_pending in
    let with_limit = and_column (start ++ name) _ _ ((8, pending) ∷ []) 8 limit with_pending is_limit in
    let with_room = and_column (start ++ name) _ _ ((8, pending) ∷ (8, limit) ∷ []) 8 room with_limit is_room in
    let with_oldest = and_column (start ++ name) _ _ ((8, pending) ∷ (8, limit) ∷ (8, room) ∷ []) 12 oldest with_room is_oldest in
    let with_idle = and_column (start ++ name) _ _ ((8, pending) ∷ (8, limit) ∷ (8, room) ∷ (12, oldest) ∷ []) 12 idle with_oldest is_idle in
    let with_tier = and_columns (start ++ name) _ _ (cells pending limit room oldest idle) tier with_idle is_tier in
    let all : List ℕ = columns (cells pending limit room oldest idle ++ tier) in
    and_then start (name ++ all) line_end _ _ (with_tier ∙ append_assoc start name all) is_end
