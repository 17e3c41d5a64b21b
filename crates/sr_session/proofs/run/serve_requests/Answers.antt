use Rattle.std.proofs.Common.{◌+◌, [], ◌++◌, take, rules, refl, ◌∙◌, subst}
use Rattle.std.proofs.KnownBytes.{Appends-nil, Appends-trans, Consumes-kept, Consumes-nil, Consumes-trans}
use Rattle.sr_session.specs.steps.Underway.{IsPieceEnd}
use Rattle.sr_session.proofs.RunLemmas.{Closed≢ReadFault, Closed≢SendFault, Closed≢Turns, Consumes-none, CountsReads-more, CountsReads-none, IsNoted-sent, IsNoted-unsent, ReadFault≢Closed, ReadFault≢SendFault, ReadFault≢Turns, Turns≢Closed, Turns≢ReadFault, Turns≢SendFault, all_turns, next_turn, some_read}
use Rattle.sr_session.proofs.UnderwayLemmas.{IsAnswered-from_goes_on}
use Rattle.sr_session.proofs.run.serve_requests.Goals as goal

pub loop-turn-init : goal.loop-turn-init
loop-turn-init g c =
    let new = c.new-requests.ensures in
    record {
      bytes = ([], [], Consumes-nil _, Appends-nil _, record { requests = []; stands = new.stands; answered = (refl, refl); none_wait = new.fresh.0; sound = new.fresh.1; count = c.new-replies.ensures.1 });
      none_gathered = c.new-replies.ensures.0;
      idle = c.requires.idle;
      reads = CountsReads-none _;
      ended = refl;
      read_failed = refl;
      write_failed = refl;
      same = refl;
    }

pub returns-in-Ok-eq0 : goal.returns-in-Ok-eq0
returns-in-Ok-eq0 g c =
    let i = c.loop-turn.invariant in
    let b = i.bytes in
    let none = c.in-Ok-eq0.field-0-test in
    record {
      session = (b.0, b.1, Consumes-none _ _ _ b.0 _ _ none b.2 c.in-Ok-eq0.ensures.bytes.0, b.3, IsAnswered-from_goes_on _ _ b.0 b.1 _ _ _ b.4);
      reads = (c.loop-turn._turn + 1, next_turn _ _ c.loop-turn-test.true, CountsReads-more _ _ _ _ i.reads c.in-Ok-eq0.ensures.count, λ e. absurd (Closed≢Turns e));
      same = i.same;
      closed = λ e. c.in-Ok-eq0.ensures.end none (search rules);
      read_fault = λ e. absurd (Closed≢ReadFault e);
      send_fault = λ sent e. absurd (Closed≢SendFault sent e);
      heeds_end = λ other. absurd (other refl);
      heeds_read_fault = λ other. c.in-Ok-eq0.ensures.ok ∙ i.read_failed;
      heeds_send_fault = λ other. i.write_failed;
    }

pub returns-in-Err : goal.returns-in-Err
returns-in-Err g c =
    let i = c.loop-turn.invariant in
    let b = i.bytes in
    record {
      session = (b.0, b.1, Consumes-kept _ _ _ b.0 b.2 c.in-Err.ensures.bytes, b.3, IsAnswered-from_goes_on _ _ b.0 b.1 _ _ _ b.4);
      reads = (c.loop-turn._turn + 1, next_turn _ _ c.loop-turn-test.true, CountsReads-more _ _ _ _ i.reads c.in-Err.ensures.count, λ e. absurd (ReadFault≢Turns e));
      same = i.same;
      closed = λ e. absurd (ReadFault≢Closed e);
      read_fault = λ e. c.in-Err.ensures.err;
      send_fault = λ sent e. absurd (ReadFault≢SendFault sent e);
      heeds_end = λ other. c.in-Err.ensures.err_end ∙ i.ended;
      heeds_read_fault = λ other. absurd (other refl);
      heeds_send_fault = λ other. i.write_failed;
    }

pub returns-in-Err-take_piece : goal.returns-in-Err-take_piece
returns-in-Err-take_piece g c =
    let i = c.loop-turn.invariant in
    let b = i.bytes in
    let one = c.in-Err-take_piece.ensures.err in
    let end = c.in-Err-take_piece.ensures.end in
    let noted = c.in-Err-take_piece.ensures.noted in
    record {
      session = (
        b.0 ++ take c.in-Ok.count c.read.new.buffer,
        b.1 ++ one.0,
        Consumes-trans _ _ _ b.0 _ b.2 c.in-Ok.ensures.bytes.0,
        Appends-trans _ _ _ b.1 one.0 b.3 one.1,
        one.2 _ b.0 b.1 b.4,
      );
      reads = (c.loop-turn._turn + 1, next_turn _ _ c.loop-turn-test.true, CountsReads-more _ _ _ _ i.reads c.in-Ok.ensures.count, λ e. absurd (subst IsPieceEnd e end));
      same = c.take_piece.ensures.same ∙ i.same;
      closed = λ e. absurd (subst IsPieceEnd e end);
      read_fault = λ e. absurd (subst IsPieceEnd e end);
      send_fault = λ sent e. IsNoted-sent _ _ _ sent noted e;
      heeds_end = λ other. c.in-Ok.ensures.more (some_read _ c.in-Ok.count-test.1) ∙ i.ended;
      heeds_read_fault = λ other. c.in-Ok.ensures.ok ∙ i.read_failed;
      heeds_send_fault = λ other. IsNoted-unsent _ _ _ noted other ∙ i.write_failed;
    }

pub loop-turn-preserved : goal.loop-turn-preserved
loop-turn-preserved g c =
    let i = c.loop-turn.invariant in
    let b = i.bytes in
    let one = c.in-Ok-take_piece.ensures.ok in
    record {
      bytes = (
        b.0 ++ take c.in-Ok.count c.read.new.buffer,
        b.1 ++ one.0,
        Consumes-trans _ _ _ b.0 _ b.2 c.in-Ok.ensures.bytes.0,
        Appends-trans _ _ _ b.1 one.0 b.3 one.1,
        one.2 _ b.0 b.1 b.4,
      );
      none_gathered = c.in-Ok-take_piece.ensures.gathered;
      idle = c.in-Ok-take_piece.ensures.idle;
      reads = CountsReads-more _ _ _ _ i.reads c.in-Ok.ensures.count;
      ended = c.in-Ok.ensures.more (some_read _ c.in-Ok.count-test.1) ∙ i.ended;
      read_failed = c.in-Ok.ensures.ok ∙ i.read_failed;
      write_failed = c.in-Ok-take_piece.ensures.noted ∙ i.write_failed;
      same = c.take_piece.ensures.same ∙ i.same;
    }

pub returns : goal.returns
returns g c =
    let i = c.loop-turn.invariant in
    let b = i.bytes in
    record {
      session = (b.0, b.1, b.2, b.3, IsAnswered-from_goes_on _ _ b.0 b.1 _ _ _ b.4);
      reads = (c.loop-turn._turn, c.loop-turn.auto._turn-end, i.reads, λ e. all_turns _ _ c.loop-turn.auto._turn-end c.loop-turn-test.false);
      same = i.same;
      closed = λ e. absurd (Turns≢Closed e);
      read_fault = λ e. absurd (Turns≢ReadFault e);
      send_fault = λ sent e. absurd (Turns≢SendFault sent e);
      heeds_end = λ other. i.ended;
      heeds_read_fault = λ other. i.read_failed;
      heeds_send_fault = λ other. i.write_failed;
    }
