-- The set of those that wait, as it is walked through for the nearest.
use Rattle.std.proofs.Common.{◌≡◌, ℕ, ◌+◌, ◌<◌, ◌≤◌, ◌⊎◌, true, false, List, length, Option, Some, None, refl, sym, ap, ◌∙◌, inl}
use Rattle.std.proofs.Common.{inr, arith}
use Rattle.std.specs.Prelude.{IfSome, IfNone}
use Rattle.std.proofs.Math.ListN.{set}
use Rattle.std.proofs.lemmas.List.{get_or-set_same, get_or-set_other}
use Rattle.std.proofs.lemmas.Bool.{cases_eq, cases_lt, false≢true}
use Rattle.sr_solver.specs.declared.label.Label.{Label}
use Rattle.sr_solver.specs.declared.set.ConsumerSet.{ConsumerSet}
use Rattle.sr_solver.specs.Labels.{no_label, unreached, label_at, reach_of}
use Rattle.sr_solver.specs.Cutoff.{IsBeyond, IsLimit, IsNoLater}
use Rattle.sr_solver.specs.Limits.{greatest_way, far}
use Rattle.sr_solver.specs.Sets.{IsIn, IsWith, IsWithout, AreWaiting}
use Rattle.sr_solver.specs.Search.{IsNextOf, AreDoneOf}
use Rattle.sr_solver.proofs.CutoffLemmas.{cases_bool}

-- one more is compared
pub compared_more : (labels : List Label) (waiting rest next : ConsumerSet) (t least less : ℕ)
    → IsWithout t rest next → less ≤ least → less ≤ reach_of (label_at labels t)
    → ((c : ℕ) → IsIn waiting c → IsIn rest c ⊎ (least ≤ reach_of (label_at labels c)))
    → (c : ℕ) → IsIn waiting c → IsIn next c ⊎ (less ≤ reach_of (label_at labels c))
compared_more labels waiting rest next t least less without le near compared c is = elim (cases_eq c t) [
  | inl e ↦ inr (rw e near)
  | inr ne ↦ elim (compared c is) [
    | inl before ↦ inl (without.kept c ne before)
    | inr passed ↦ inr (omega (arith, passed, le))
  ]
]

-- what lies beyond the cutoff, and what does not, by the limit
beyond_limit : (cutoff : Option ℕ) (limit dist : ℕ) → IsLimit cutoff limit → IsBeyond cutoff 0 dist → limit ≤ dist
beyond_limit None limit dist is beyond = absurd beyond
beyond_limit (Some end) limit dist is beyond = omega (arith, is, beyond)

past_limit : (cutoff : Option ℕ) (limit dist : ℕ) → IsLimit cutoff limit → dist < far → limit ≤ dist
    → IsBeyond cutoff 0 dist
past_limit None limit dist is near past = absurd (omega (arith, is, near, past))
past_limit (Some end) limit dist is near past = omega (arith, is, past)

past_guess : (cutoff : Option ℕ) (limit guess : ℕ) → IsLimit cutoff limit → guess ≤ far → limit ≤ guess
    → (guess ≡ far) ⊎ IsBeyond cutoff 0 guess
past_guess None limit guess is near past = inl (omega (arith, is, near, past))
past_guess (Some end) limit guess is near past = inr (omega (arith, is, past))

-- the limit is not beyond what is far
limit_far : (cutoff : Option ℕ) (limit : ℕ) → IsLimit cutoff limit → IfSome cutoff (λ dist. dist ≤ greatest_way)
    → limit ≤ far
limit_far None limit is small = omega (arith, is)
limit_far (Some end) limit is small = omega (arith, is, small)

-- all were compared
pub nearest_of_all : (n : ℕ) (labels : List Label) (cutoff : Option ℕ) (waiting rest : ConsumerSet)
    (best : Option ℕ) (limit least : ℕ)
    → IsLimit cutoff limit → IfSome cutoff (λ dist. dist ≤ greatest_way) → AreWaiting n cutoff labels waiting
    → ((c : ℕ) → IsIn rest c → ⊥)
    → ((c : ℕ) → IsIn waiting c → IsIn rest c ⊎ (least ≤ reach_of (label_at labels c)))
    → IfSome best (λ b. IsIn waiting b × (reach_of (label_at labels b) ≡ least) × (least < limit))
    → IfSome best (λ b. IsNextOf n labels b × (IsBeyond cutoff 0 (reach_of (label_at labels b)) → ⊥))
nearest_of_all n labels cutoff waiting rest None limit least is small are empty compared found = tt
nearest_of_all n labels cutoff waiting rest (Some b) limit least is small are empty compared found =
    let lt : b < n = are.within b found.0 in
    let most : limit ≤ far = limit_far cutoff limit is small in (
      record {
        consumer = lt;
        not_closed = (are.at b lt).waits found.0;
        near = omega (arith, found.1, found.2, most);
        least = λ c ltc up is_open. elim ((are.at c ltc).each up is_open) [
          | inl waiting_still ↦ elim (compared c waiting_still) [
            | inl still ↦ absurd (empty c still)
            | inr passed ↦ omega (arith, passed, found.1)
          ]
          | inr beyond ↦
              omega (arith, beyond_limit cutoff limit (label_at labels c).dist is beyond, found.1, found.2)
        ];
        guesses = λ c ltc is_open. elim ((are.at c ltc).guesses is_open) [
          | inl waiting_still ↦ elim (compared c waiting_still) [
            | inl still ↦ absurd (empty c still)
            | inr passed ↦ omega (arith, passed, found.1)
          ]
          | inr (inl none) ↦ omega (arith, none, most, found.1, found.2)
          | inr (inr beyond) ↦
              omega (arith, beyond_limit cutoff limit (label_at labels c).guess is beyond, found.1, found.2)
        ];
      },
      λ beyond.
          omega (arith, beyond_limit cutoff limit (reach_of (label_at labels b)) is beyond, found.1, found.2),
    )

-- and none was found
pub none_of_all : (n : ℕ) (labels : List Label) (cutoff : Option ℕ) (waiting rest : ConsumerSet)
    (best : Option ℕ) (limit least : ℕ)
    → IsLimit cutoff limit → AreWaiting n cutoff labels waiting → ((c : ℕ) → IsIn rest c → ⊥)
    → ((c : ℕ) → c < n → 0 < (label_at labels c).hops → (label_at labels c).dist < far)
    → ((c : ℕ) → c < n → (label_at labels c).guess ≤ far)
    → ((c : ℕ) → IsIn waiting c → IsIn rest c ⊎ (least ≤ reach_of (label_at labels c)))
    → IfNone best (least ≡ limit) → IfNone best (AreDoneOf n cutoff labels)
none_of_all n labels cutoff waiting rest (Some b) limit least is are empty near hints compared none = tt
none_of_all n labels cutoff waiting rest None limit least is are empty near hints compared none = record {
  reached = λ c lt up.
      elim (cases_bool (label_at labels c).closed) [
        | inl closed ↦ inl closed
        | inr is_open ↦ elim ((are.at c lt).each up is_open) [
          | inr beyond ↦ inr beyond
          | inl waiting_still ↦ elim (compared c waiting_still) [
            | inl still ↦ absurd (empty c still)
            | inr passed ↦
                inr (past_limit cutoff limit (label_at labels c).dist is (near c lt up) (omega (arith, passed, none)))
          ]
        ]
      ];
  guesses = λ c lt is_open. elim ((are.at c lt).guesses is_open) [
    | inr done ↦ done
    | inl waiting_still ↦ elim (compared c waiting_still) [
      | inl still ↦ absurd (empty c still)
      | inr passed ↦
          past_guess cutoff limit (label_at labels c).guess is (hints c lt) (omega (arith, passed, none))
    ]
  ];
}

-- one that is no nearer than the cutoff waits no longer
pub kept_less : (labels : List Label) (waiting kept next : ConsumerSet) (t limit : ℕ)
    → IsWithout t kept next → limit ≤ reach_of (label_at labels t)
    → ((c : ℕ) → IsIn waiting c → IsIn kept c ⊎ (limit ≤ reach_of (label_at labels c)))
    → (c : ℕ) → IsIn waiting c → IsIn next c ⊎ (limit ≤ reach_of (label_at labels c))
kept_less labels waiting kept next t limit without past are c is = elim (cases_eq c t) [
  | inl e ↦ inr (rw e past)
  | inr ne ↦ elim (are c is) [
    | inl before ↦ inl (without.kept c ne before)
    | inr passed ↦ inr passed
  ]
]

-- those that still wait
pub waiting_kept : (n : ℕ) (labels : List Label) (cutoff : Option ℕ) (old new : ConsumerSet) (limit : ℕ)
    → IsLimit cutoff limit → ((c : ℕ) → c < n → 0 < (label_at labels c).hops → (label_at labels c).dist < far)
    → ((c : ℕ) → c < n → (label_at labels c).guess ≤ far)
    → ((c : ℕ) → IsIn new c → IsIn old c)
    → ((c : ℕ) → IsIn old c → IsIn new c ⊎ (limit ≤ reach_of (label_at labels c)))
    → AreWaiting n cutoff labels old → AreWaiting n cutoff labels new
waiting_kept n labels cutoff old new limit is near hints back kept are = record {
  within = λ c here. are.within c (back c here);
  at = λ c lt. record {
    waits = λ here. (are.at c lt).waits (back c here);
    each = λ up is_open. elim ((are.at c lt).each up is_open) [
      | inr beyond ↦ inr beyond
      | inl before ↦ elim (kept c before) [
        | inl still ↦ inl still
        | inr past ↦
            inr (past_limit cutoff limit (label_at labels c).dist is (near c lt up) (omega (arith, past)))
      ]
    ];
    guesses = λ is_open. elim ((are.at c lt).guesses is_open) [
      | inr done ↦ inr done
      | inl before ↦ elim (kept c before) [
        | inl still ↦ inl still
        | inr past ↦ inr (past_guess cutoff limit (label_at labels c).guess is (hints c lt) (omega (arith, past)))
      ]
    ];
  };
}

-- those that wait by a later cutoff
pub waiting_later : (n : ℕ) (labels : List Label) (old new : Option ℕ) (set : ConsumerSet) → IsNoLater old new
    → AreWaiting n old labels set → AreWaiting n new labels set
waiting_later n labels old new set later are = record {
  within = are.within;
  at = λ c lt. record {
    waits = (are.at c lt).waits;
    each = λ up is_open. elim ((are.at c lt).each up is_open) [
      | inl waits ↦ inl waits
      | inr beyond ↦ inr (later 0 (label_at labels c).dist beyond)
    ];
    guesses = λ is_open. elim ((are.at c lt).guesses is_open) [
      | inl waits ↦ inl waits
      | inr (inl none) ↦ inr (inl none)
      | inr (inr beyond) ↦ inr (inr (later 0 (label_at labels c).guess beyond))
    ];
  };
}

-- consumer t is closed, and waits no more
pub waiting_closing : (n : ℕ) (cutoff : Option ℕ) (labels : List Label) (old new : ConsumerSet) (t : ℕ) (label : Label)
    → t < length labels → label.closed ≡ true → IsWithout t old new → AreWaiting n cutoff labels old
    → AreWaiting n cutoff (set labels t label) new
waiting_closing n cutoff labels old new t label lt closed without are = record {
  within = λ c is. are.within c (without.back c is);
  at = λ c ltc. elim (cases_eq c t) [
    | inl e ↦
        rw (e, get_or-set_same labels t label no_label lt) (
        record {
          waits = λ is. absurd (without.gone is);
          each = λ up is_open. absurd (false≢true (sym is_open ∙ closed));
          guesses = λ is_open. absurd (false≢true (sym is_open ∙ closed));
        }
        )
    | inr ne ↦
        rw (get_or-set_other labels t c label no_label ne) (
        record {
          waits = λ is. (are.at c ltc).waits (without.back c is);
          each = λ up is_open. elim ((are.at c ltc).each up is_open) [
            | inl was ↦ inl (without.kept c ne was)
            | inr beyond ↦ inr beyond
          ];
          guesses = λ is_open. elim ((are.at c ltc).guesses is_open) [
            | inl was ↦ inl (without.kept c ne was)
            | inr done ↦ inr done
          ];
        }
        )
  ];
}

-- consumer b has a label by which it is open, and waits
pub waiting_moved : (n : ℕ) (cutoff : Option ℕ) (labels : List Label) (old new : ConsumerSet) (b : ℕ) (label : Label)
    → b < n → n ≡ length labels → label.closed ≡ false → IsWith b old new → AreWaiting n cutoff labels old
    → AreWaiting n cutoff (set labels b label) new
waiting_moved n cutoff labels old new b label lt every still_open is_with are = record {
  within = λ c is. elim (is_with.back c is) [
    | inl e ↦ rw e lt
    | inr was ↦ are.within c was
  ];
  at = λ c ltc. elim (cases_eq c b) [
    | inl e ↦
        rw (e, get_or-set_same labels b label no_label (omega (arith, lt, every))) (
        record {
          waits = λ is. still_open;
          each = λ reached is_open. inl is_with.here;
          guesses = λ is_open. inl is_with.here;
        }
        )
    | inr ne ↦
        rw (get_or-set_other labels b c label no_label ne) (
        record {
          waits = λ is. elim (is_with.back c is) [
            | inl e ↦ absurd (ne e)
            | inr was ↦ (are.at c ltc).waits was
          ];
          each = λ reached is_open. elim ((are.at c ltc).each reached is_open) [
            | inl was ↦ inl (is_with.kept c was)
            | inr beyond ↦ inr beyond
          ];
          guesses = λ is_open. elim ((are.at c ltc).guesses is_open) [
            | inl was ↦ inl (is_with.kept c was)
            | inr done ↦ inr done
          ];
        }
        )
  ];
}

-- consumers that are not reached do not wait
pub waiting_skips : (n m : ℕ) (cutoff : Option ℕ) (labels : List Label) (set : ConsumerSet) → n ≤ m
    → ((c : ℕ) → n ≤ c → c < m → label_at labels c ≡ unreached) → AreWaiting n cutoff labels set → AreWaiting m cutoff labels set
waiting_skips n m cutoff labels set le none are = record {
  within = λ c is. omega (arith, are.within c is);
  at = λ c lt. elim (cases_lt c n) [
    | inl below ↦ are.at c below
    | inr above ↦ record {
      waits = λ is. absurd (omega (arith, are.within c is));
      each = λ up is_open. absurd (
          let hops : (label_at labels c).hops ≡ 0 = ap (λ l. l.hops) (none c (omega arith) lt) in omega arith
          );
      guesses = λ is_open. inr (inl (ap (λ l. l.guess) (none c (omega arith) lt)));
    }
  ];
}

-- the next consumer is reached, and waits
pub waiting_more : (n : ℕ) (cutoff : Option ℕ) (labels : List Label) (old new : ConsumerSet) (label : Label)
    → n < length labels → label.closed ≡ false → IsWith n old new → AreWaiting n cutoff labels old
    → AreWaiting (n + 1) cutoff (set labels n label) new
waiting_more n cutoff labels old new label lt still_open is_with are = record {
  within = λ c is. elim (is_with.back c is) [
    | inl e ↦ omega arith
    | inr was ↦ omega (arith, are.within c was)
  ];
  at = λ c ltc. elim (cases_eq c n) [
    | inl e ↦
        rw (e, get_or-set_same labels n label no_label lt) (
        record {
          waits = λ is. still_open;
          each = λ reached is_open. inl is_with.here;
          guesses = λ is_open. inl is_with.here;
        }
        )
    | inr ne ↦
        rw (get_or-set_other labels n c label no_label ne) (
        record {
          waits = λ is. elim (is_with.back c is) [
            | inl e ↦ absurd (ne e)
            | inr was ↦ (are.at c (omega (arith, ltc, ne))).waits was
          ];
          each = λ reached is_open. elim ((are.at c (omega (arith, ltc, ne))).each reached is_open) [
            | inl was ↦ inl (is_with.kept c was)
            | inr beyond ↦ inr beyond
          ];
          guesses = λ is_open. elim ((are.at c (omega (arith, ltc, ne))).guesses is_open) [
            | inl was ↦ inl (is_with.kept c was)
            | inr done ↦ inr done
          ];
        }
        )
  ];
}

-- what was guessed of consumer b is forgotten: it waits on if it is reached
pub waiting_forgot : (n : ℕ) (cutoff : Option ℕ) (labels : List Label) (old new : ConsumerSet) (b : ℕ)
    → b < length labels → ((d : ℕ) → IsIn new d → IsIn old d)
    → ((d : ℕ) → (d ≡ b → ⊥) ⊎ (0 < (label_at labels b).hops) → IsIn old d → IsIn new d)
    → AreWaiting n cutoff labels old
    → AreWaiting n cutoff (set labels b (record (label_at labels b) { guess = far })) new
waiting_forgot n cutoff labels old new b lt back kept are = record {
  within = λ c is. are.within c (back c is);
  at = λ c ltc. elim (cases_eq c b) [
    | inl e ↦
        rw (e, get_or-set_same labels b (record (label_at labels b) { guess = far }) no_label lt) (
        record {
          waits = λ is. (are.at b (rw e at ltc)).waits (back b is);
          each = λ up is_open. elim ((are.at b (rw e at ltc)).each up is_open) [
            | inl was ↦ inl (kept b (inr up) was)
            | inr beyond ↦ inr beyond
          ];
          guesses = λ is_open. inr (inl refl);
        }
        )
    | inr ne ↦
        rw (get_or-set_other labels b c (record (label_at labels b) { guess = far }) no_label ne) (
        record {
          waits = λ is. (are.at c ltc).waits (back c is);
          each = λ up is_open. elim ((are.at c ltc).each up is_open) [
            | inl was ↦ inl (kept c (inl ne) was)
            | inr beyond ↦ inr beyond
          ];
          guesses = λ is_open. elim ((are.at c ltc).guesses is_open) [
            | inl was ↦ inl (kept c (inl ne) was)
            | inr done ↦ inr done
          ];
        }
        )
  ];
}
