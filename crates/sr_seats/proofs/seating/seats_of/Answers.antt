use Rattle.std.proofs.Common.{◌≡◌, ◌+◌, ◌<◌, ℕ, List, [], ◌∷◌, ◌++◌, refl, sym, ap, ap₂, ◌∙◌, arith}
use Rattle.std.proofs.lemmas.Result.{IfOk-from_err}
use Rattle.sr_seats.specs.Held.{SeatState, new_seats}
use Rattle.sr_seats.proofs.HeldLemmas.{new_seat_is, new_seats-more, part_is_left}
use Rattle.sr_seats.proofs.seating.seats_of.Goals as goal

one_more_seat : (before n part : ℕ) (seats after : List SeatState) (seat : SeatState) → after ≡ seats ++ seat ∷ [] → seats ≡ new_seats before n
    → seat ≡ record { number = n; before = part; share = 0; front = 0 } → (n ≡ 0 → part ≡ before) → (0 < n → part ≡ 0) → after ≡ new_seats before (n + 1)
one_more_seat before n part seats after seat pushed so_far one first others =
    pushed ∙ ap₂ (λ (xs : List SeatState) (x : SeatState). xs ++ x ∷ []) so_far (one ∙ new_seat_is before n part first others) ∙ sym (new_seats-more before n)

none_left : (part old new : ℕ) → part ≡ old → new + part ≡ old → new ≡ 0
none_left part old new all left = omega (arith, all, left)

no_more_first : (n left before : ℕ) → n + 1 ≡ 0 → left ≡ before
no_more_first n left before none = absurd (omega (arith, none))

pub loop-number-preserved : goal.loop-number-preserved
loop-number-preserved g c =
    let here = c.loop-number.invariant in
    let part = c.part_before-part.ensures in
    let all = part_is_left c.args.before c.loop-number.number c.part_before-part.result c.loop-number.rest.amount part.first part.others here.first here.others in
    record {
      parts = omega (arith, c.split_off-share.ensures.parts_left, here.parts);
      first = λ none. no_more_first c.loop-number.number _ c.args.before none;
      others = λ some. none_left c.part_before-part.result c.loop-number.rest.amount _ all c.split_off-share.ensures.amount_left;
      seats = one_more_seat c.args.before c.loop-number.number c.part_before-part.result c.loop-number.seats.items c.push_reserved.new.self.items c.new.result c.push_reserved.ensures.items here.seats c.new.ensures
          part.first part.others;
      many = omega (arith, c.push_reserved.ensures.len, here.many);
      room = omega (arith, c.push_reserved.ensures.capacity, here.room);
    }

pub loop-number-init : goal.loop-number-init
loop-number-init g c = record {
  parts = omega (arith, c.add.ensures.parts, c.open-made.ensures.parts, c.requires.parts);
  first = λ none. omega (arith, c.add.ensures.amount, c.open-made.ensures.amount);
  others = λ some. absurd (omega (arith, some));
  seats = c.in_ok-seats.ensures.items;
  many = c.in_ok-seats.ensures.len;
  room = c.in_ok-seats.ensures.capacity;
}

pub returns : goal.returns
returns g c =
    let all : c.loop-number.number ≡ c.args.n = omega (arith, c.loop-number-test.false, c.loop-number.auto.number-end) in
    record {
      total = omega (arith, c.add.ensures.total, c.open-made.ensures.total);
      seats = c.loop-number.invariant.seats ∙ ap (new_seats c.args.before) all;
    }

pub add-requires : goal.add-requires
add-requires g c = omega (arith, c.open-made.ensures.parts, c.requires.parts, c.requires.whole, c.requires.some)

pub new-requires : goal.new-requires
new-requires g c = record { part = c.split_off-share.ensures.parts; unused = c.split_off-share.ensures.amount }

pub returns-in_err-seats : goal.returns-in_err-seats
returns-in_err-seats g c = record { total = IfOk-from_err _ _ c.from_residual.ensures.0; seats = IfOk-from_err _ _ c.from_residual.ensures.0 }

pub push_reserved-requires : goal.push_reserved-requires
push_reserved-requires g c =
    let here = c.loop-number.invariant in
    omega (arith, here.many, here.room, c.loop-number-test.true)

pub split_off-share-requires : goal.split_off-share-requires
split_off-share-requires g c =
    let here = c.loop-number.invariant in
    let part = c.part_before-part.ensures in
    let all = part_is_left c.args.before c.loop-number.number c.part_before-part.result c.loop-number.rest.amount part.first part.others here.first here.others in
    record {
      has_parts = omega (arith, here.parts, c.loop-number-test.true);
      has_amount = omega (arith, all);
      left_backed = λ _. all;
      given_backed = λ none. absurd (omega (arith, none));
    }

pub open-made-requires : goal.open-made-requires
open-made-requires g c = record { name = c.requires.name; parts = c.requires.whole }
