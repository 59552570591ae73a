-- The calls of the engine, one after another, as the entries of one closing.
--   follows_begun, follows_then     no entry; one more
--   divided_run, extended_run       the events of a division and of a completion are those of the closing
--   divided_follows, extended_follows     so the entries of such a call go on from those before
--   division_out, extension_out     a call that is out of units leaves a closing that is
--   division_past, extension_past   one that stops since what comes next is past leaves a closing that does
--   division_over, rest_none, rest_some, start_none, start_some, extension_over     what comes where a task has ended
--   begin_out                       a task that can't begin
use Rattle.std.proofs.Common.{◌≡◌, ◌⊎◌, inl, inr, ℕ, true, List, [], ◌∷◌, ◌++◌, map, refl, sym, ap, subst, Some, ◌≢◌, suc}
use Rattle.algebra.specs.Fraction.{Fraction, rationals, fractions}
use Rattle.polynomials.specs.Terms.{Terms}
use Rattle.polynomials.specs.Order.{grevlex}
use Rattle.machines.specs.Division as division
use Rattle.machines.specs.Elimination as elimination
use Rattle.machines.specs.Event.{Event}
use Rattle.machines.specs.Journal.{Entry, Did, Extend, counts, units_of, Begin}
use Rattle.machines.specs.Past as past
use Rattle.machines.specs.Run.{IsRun, HasEnded}
use Rattle.machines.specs.Work.{Work, IsExhausted, PastAfter}
use Rattle.machines.proofs.Runs.{run_joined}
use Rattle.loops.specs.Program.{Expr, Program}
use Rattle.closures.specs.Closing.{Candidate, State, fresh, dividing, extending, goes, next_extended, begin_extended, divided, extended, next, move_of, moves, by_rest, by_start, from_waiting, from_start, with_polynomial, countered, extended_list}
use Rattle.closures.specs.Follows.{Follows, IsOut, IsPastTask}

module _ {At : Type 0} (program : Program (Expr At)) (P : List (Terms Fraction)) where
  pub follows_begun : Follows program P [] fresh
  unfolding IsRun
  follows_begun = record { run = refl }

  pub follows_then : (es : List Entry) (s t : State) (e : Entry) → Follows program P es s
      → next program P s ≡ goes e t → Follows program P (es ++ e ∷ []) t
  unfolding IsRun
  follows_then es s t e f n = record {
    run =
        run_joined (moves program P) fresh s t es (e ∷ []) f.run
        (t, ap (move_of program P) n, refl);
  }

  module _ (n : ℕ) (gs : List (Terms Fraction)) (kept : List Candidate) (x : Candidate)
      (waiting : List Candidate) where
    abbrev D : division.State Fraction → State
    D d = dividing n gs kept x waiting d

    abbrev E : elimination.State Fraction → State
    E c = extending n gs kept x waiting c

    pub divided_next : (d u : division.State Fraction) (e : Event)
        → division.next rationals grevlex gs d ≡ Some (e, u)
        → next program P (dividing n gs kept x waiting d)
        ≡ goes (Did e) (dividing n gs kept x waiting u)
    unfolding next divided
    divided_next d u e c = ap (divided program n gs kept x waiting d) c

    pub extended_next : (c u : elimination.State Fraction) (e : Event)
        → next_extended c ≡ Some (e, u)
        → next program P (extending n gs kept x waiting c)
        ≡ goes (Did e) (extending n gs kept x waiting u)
    unfolding next extended
    extended_next c u e i = ap (extended program n gs kept x waiting c) i

    divided_run : (es : List Event) (d u : division.State Fraction)
        → IsRun (division.next rationals grevlex gs) d es u
        → IsRun (moves program P) (D d) (map Did es) (D u)
    unfolding IsRun
    divided_run [] d u h = ap D h
    divided_run (e ∷ es) d u (v, c, r) =
        (D v, ap (move_of program P) (divided_next d v e c), divided_run es v u r)

    extended_run : (es : List Event) (c u : elimination.State Fraction)
        → IsRun next_extended c es u → IsRun (moves program P) (E c) (map Did es) (E u)
    unfolding IsRun
    extended_run [] c u h = ap E h
    extended_run (e ∷ es) c u (v, i, r) =
        (E v, ap (move_of program P) (extended_next c v e i), extended_run es v u r)

    module _ (before after : List Entry) where
      pub divided_follows : (d u : division.State Fraction)
          → Work (division.next rationals grevlex gs) d before after u
          → Follows program P before (dividing n gs kept x waiting d)
          → Follows program P after (dividing n gs kept x waiting u)
      divided_follows d u w f = record {
        run =
            subst (λ es. IsRun (moves program P) fresh es (D u)) (sym w.entries)
            (run_joined (moves program P) fresh (D d) (D u) before (map Did w.events) f.run
            (divided_run w.events d u w.run));
      }

      pub extended_follows : (c u : elimination.State Fraction)
          → Work next_extended c before after u
          → Follows program P before (extending n gs kept x waiting c)
          → Follows program P after (extending n gs kept x waiting u)
      extended_follows c u w f = record {
        run =
            subst (λ es. IsRun (moves program P) fresh es (E u)) (sym w.entries)
            (run_joined (moves program P) fresh (E c) (E u) before (map Did w.events) f.run
            (extended_run w.events c u w.run));
      }

      -- ---- out of units
      pub division_out : (limit : ℕ) (d : division.State Fraction)
          → IsExhausted (division.next rationals grevlex gs) d limit before after
          → Follows program P before (dividing n gs kept x waiting d)
          → IsOut program P limit after
      division_out limit d s f = record {
        state = D s.at;
        follows = divided_follows d s.at s.work f;
        entry = Did s.event;
        following = D s.following;
        comes = divided_next s.at s.following s.event s.comes;
        unit = s.unit;
        exhausted = s.exhausted;
      }

      pub extension_out : (limit : ℕ) (c : elimination.State Fraction)
          → IsExhausted next_extended c limit before after
          → Follows program P before (extending n gs kept x waiting c)
          → IsOut program P limit after
      extension_out limit c s f = record {
        state = E s.at;
        follows = extended_follows c s.at s.work f;
        entry = Did s.event;
        following = E s.following;
        comes = extended_next s.at s.following s.event s.comes;
        unit = s.unit;
        exhausted = s.exhausted;
      }

      -- ---- past
      pub division_past : (d : division.State Fraction)
          → PastAfter (division.next rationals grevlex gs)
          (past.IsPastDivision fractions rationals gs) d before after
          → Follows program P before (dividing n gs kept x waiting d)
          → IsPastTask program P after x
      division_past d s f = record {
        state = D s.at;
        follows = divided_follows d s.at s.work f;
        past = (refl, s.past);
      }

      pub extension_past : PastAfter next_extended
          (past.IsPastElimination fractions rationals grevlex grevlex (λ hs. hs))
          (begin_extended gs x.polynomial) before after
          ⊎ ((after ≡ before) × past.IsPastStart fractions rationals (gs ++ x.polynomial ∷ []))
          → Follows program P before
          (extending n gs kept x waiting (begin_extended gs x.polynomial))
          → IsPastTask program P after x
      extension_past (inl s) f = record {
        state = E s.at;
        follows = extended_follows (begin_extended gs x.polynomial) s.at s.work f;
        past = (refl, inl s.past);
      }
      extension_past (inr r) f = record {
        state = E (begin_extended gs x.polynomial);
        follows =
            subst (λ es. Follows program P es (E (begin_extended gs x.polynomial))) (sym r.0) f;
        past = (refl, inr (refl, r.1));
      }

    -- ---- where a task has ended
    pub division_over : (d : division.State Fraction)
        → HasEnded (division.next rationals grevlex gs) d
        → next program P (dividing n gs kept x waiting d)
        ≡ by_rest program n gs kept x waiting (division.remainder d)
    unfolding next divided
    division_over d e = ap (divided program n gs kept x waiting d) e

    pub rest_none : (r : Terms Fraction) → r ≡ []
        → by_rest program n gs kept x waiting r ≡ from_waiting program (suc n) gs kept waiting
    unfolding by_rest
    rest_none r e = ap (by_rest program n gs kept x waiting) e

    pub rest_some : (r : Terms Fraction) → r ≢ []
        → by_rest program n gs kept x waiting r
        ≡ by_start program n gs kept (with_polynomial r x) waiting (from_start program r)
    unfolding by_rest
    rest_some [] h = absurd (h refl)
    rest_some (t ∷ r) h = refl

    pub start_none : (y : Candidate) (q : Terms Fraction) → q ≡ []
        → by_start program n gs kept y waiting q
        ≡ goes (Begin (Extend n))
        (extending n gs kept y waiting (begin_extended gs y.polynomial))
    unfolding by_start
    start_none y q e = ap (by_start program n gs kept y waiting) e

    pub start_some : (y : Candidate) (q : Terms Fraction) → q ≢ []
        → by_start program n gs kept y waiting q ≡ countered y q
    unfolding by_start
    start_some y [] h = absurd (h refl)
    start_some y (t ∷ q) h = refl

    pub extension_over : (c : elimination.State Fraction) → HasEnded next_extended c
        → next program P (extending n gs kept x waiting c)
        ≡ from_waiting program (suc n) (extended_list c) (kept ++ x ∷ []) waiting
    unfolding next extended
    extension_over c e = ap (extended program n gs kept x waiting c) e

  -- a task that can't begin
  pub begin_out : (limit : ℕ) (es : List Entry) (s t : State) (e : Entry)
      → Follows program P es s → next program P s ≡ goes e t → counts e ≡ true
      → units_of es ≡ limit → IsOut program P limit es
  begin_out limit es s t e f c u p = record {
    state = s;
    follows = f;
    entry = e;
    following = t;
    comes = c;
    unit = u;
    exhausted = p;
  }
