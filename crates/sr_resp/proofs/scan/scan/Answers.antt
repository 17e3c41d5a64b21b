use Rattle.std.proofs.Common.{arith}
use Rattle.sr_resp.proofs.ScanLemmas.{Scanning-nothing, Scanning-on, Scanning-word, Scans-request, Scans-empty, Scans-fault, Scans-part, kept}
use Rattle.sr_resp.proofs.scan.scan.Goals as goal

pub loop-at-init : goal.loop-at-init
loop-at-init c = record { scanning = Scanning-nothing c.args.item.now c.args.from c.args.entered c.args.places.now.items c.requires.within c.requires.sound; rises = omega arith; looked = omega arith }

pub advance-step-requires-clause-sound : goal.advance-step-requires-clause-sound
advance-step-requires-clause-sound c = c.loop-at.invariant.scanning.sound

pub loop-at-preserved-in-On : goal.loop-at-preserved-in-On
loop-at-preserved-in-On c = record {
  scanning = Scanning-on _ _ _ _ _ _ _ _ _ _ c.loop-at.invariant.scanning c.advance-step.ensures c.in-On.is;
  rises = omega (arith, c.loop-at.invariant.rises, c.saturating_add.ensures);
  looked = omega (arith, c.loop-at.invariant.looked, c.saturating_add.ensures, c.advance-step.ensures.forward, c.advance-step.ensures.within);
}

pub loop-at-preserved : goal.loop-at-preserved
loop-at-preserved c = record {
  scanning = Scanning-word _ _ _ _ _ _ _ _ _ _ _ _ c.loop-at.invariant.scanning c.advance-step.ensures c.in-Word.is c.in_ok-push-in-Word.ensures.items;
  rises = omega (arith, c.loop-at.invariant.rises, c.saturating_add.ensures);
  looked = omega (arith, c.loop-at.invariant.looked, c.saturating_add.ensures, c.advance-step.ensures.forward, c.advance-step.ensures.within);
}

pub returns-in_err-push-in-Word-clause-kept : goal.returns-in_err-push-in-Word-clause-kept
returns-in_err-push-in-Word-clause-kept c = rw c.in_err-push-in-Word.ensures.items (kept c.args.places.now.items c.loop-at.places.items c.loop-at.invariant.scanning.added c.loop-at.invariant.scanning.whole)

pub returns-in_err-push-in-Word-clause-looked : goal.returns-in_err-push-in-Word-clause-looked
returns-in_err-push-in-Word-clause-looked c = (omega (arith, c.loop-at.invariant.rises, c.saturating_add.ensures), omega (arith, c.loop-at.invariant.looked, c.saturating_add.ensures, c.advance-step.ensures.forward, c.advance-step.ensures.within))

pub returns-in-Whole-clause-ok : goal.returns-in-Whole-clause-ok
returns-in-Whole-clause-ok c = Scans-request _ _ _ _ _ _ _ _ _ c.loop-at.invariant.scanning c.advance-step.ensures c.in-Whole.is

pub returns-in-Whole-clause-kept : goal.returns-in-Whole-clause-kept
returns-in-Whole-clause-kept c = kept c.args.places.now.items c.loop-at.places.items c.loop-at.invariant.scanning.added c.loop-at.invariant.scanning.whole

pub returns-in-Whole-clause-looked : goal.returns-in-Whole-clause-looked
returns-in-Whole-clause-looked c = (omega (arith, c.loop-at.invariant.rises, c.saturating_add.ensures), omega (arith, c.loop-at.invariant.looked, c.saturating_add.ensures, c.advance-step.ensures.forward, c.advance-step.ensures.within))

pub returns-in-Empty-clause-ok : goal.returns-in-Empty-clause-ok
returns-in-Empty-clause-ok c = Scans-empty _ _ _ _ _ _ _ _ _ c.loop-at.invariant.scanning c.advance-step.ensures c.in-Empty.is

pub returns-in-Empty-clause-kept : goal.returns-in-Empty-clause-kept
returns-in-Empty-clause-kept c = kept c.args.places.now.items c.loop-at.places.items c.loop-at.invariant.scanning.added c.loop-at.invariant.scanning.whole

pub returns-in-Empty-clause-looked : goal.returns-in-Empty-clause-looked
returns-in-Empty-clause-looked c = (omega (arith, c.loop-at.invariant.rises, c.saturating_add.ensures), omega (arith, c.loop-at.invariant.looked, c.saturating_add.ensures, c.advance-step.ensures.forward, c.advance-step.ensures.within))

pub returns-in-Bad-clause-ok : goal.returns-in-Bad-clause-ok
returns-in-Bad-clause-ok c = Scans-fault _ _ _ _ _ _ _ _ _ c.loop-at.invariant.scanning c.advance-step.ensures c.in-Bad.is

pub returns-in-Bad-clause-kept : goal.returns-in-Bad-clause-kept
returns-in-Bad-clause-kept c = kept c.args.places.now.items c.loop-at.places.items c.loop-at.invariant.scanning.added c.loop-at.invariant.scanning.whole

pub returns-in-Bad-clause-looked : goal.returns-in-Bad-clause-looked
returns-in-Bad-clause-looked c = (omega (arith, c.loop-at.invariant.rises, c.saturating_add.ensures), omega (arith, c.loop-at.invariant.looked, c.saturating_add.ensures, c.advance-step.ensures.forward, c.advance-step.ensures.within))

pub returns-clause-ok : goal.returns-clause-ok
returns-clause-ok c = Scans-part _ _ _ _ _ _ _ c.loop-at.invariant.scanning c.loop-at-test.false

pub returns-clause-kept : goal.returns-clause-kept
returns-clause-kept c = kept c.args.places.now.items c.loop-at.places.items c.loop-at.invariant.scanning.added c.loop-at.invariant.scanning.whole

pub returns-clause-looked : goal.returns-clause-looked
returns-clause-looked c = (c.loop-at.invariant.rises, omega (arith, c.loop-at.invariant.looked))

pub returns-in-Whole-clause-once : goal.returns-in-Whole-clause-once
returns-in-Whole-clause-once c = omega (arith, c.loop-at.invariant.looked, c.saturating_add.ensures, c.advance-step.ensures.forward, c.advance-step.ensures.within)

pub returns-in-Empty-clause-once : goal.returns-in-Empty-clause-once
returns-in-Empty-clause-once c = omega (arith, c.loop-at.invariant.looked, c.saturating_add.ensures, c.advance-step.ensures.forward, c.advance-step.ensures.within)

pub returns-in-Bad-clause-once : goal.returns-in-Bad-clause-once
returns-in-Bad-clause-once c = omega (arith, c.loop-at.invariant.looked, c.saturating_add.ensures, c.advance-step.ensures.forward, c.advance-step.ensures.within)

pub returns-clause-once : goal.returns-clause-once
returns-clause-once c = omega (arith, c.loop-at.invariant.looked)
