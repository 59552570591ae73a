-- The calls of the divisions behind a closing, one after another, as its entries.
--   proof_begins          behind a closing that ends with a list the tests come next
--   start_past            where the composition that a test divides is past, so is the proof there
--   test_begins           a test begins
--   test_follows          the entries of its division go on from those before
--   test_over             where it has ended the next one comes
--   test_out, test_past   where it is out of units, or stops since what comes next is past
--   proof_over            where no test is left, all have ended
use Rattle.std.proofs.Common.{◌≡◌, inl, inr, ℕ, List, [], ◌∷◌, ◌++◌, map, refl, sym, ap, subst, ◌∙◌, Option, Some}
use Rattle.std.proofs.lemmas.List.{append-nil, append_assoc}
use Rattle.algebra.specs.Fraction.{Fraction, rationals, fractions}
use Rattle.polynomials.specs.Terms.{Terms}
use Rattle.polynomials.specs.Order.{grevlex}
use Rattle.polynomials.specs.Weight.{IsPastComposition}
use Rattle.machines.specs.Division as division
use Rattle.machines.specs.Event.{Event}
use Rattle.machines.specs.Journal.{Entry, Begin, Did}
use Rattle.machines.specs.Past as past
use Rattle.machines.specs.Run.{IsRun, HasEnded}
use Rattle.machines.specs.Work.{Work, IsExhausted, PastAfter}
use Rattle.machines.proofs.Runs.{run_joined}
use Rattle.loops.specs.Program.{Expr, Program}
use Rattle.closures.specs.Closing.{closed}
use Rattle.closures.specs.Ends.{ComesNext}
use Rattle.closures.specs.Proving.{Test, State, testing, dividing, task_of, tests, iteration_of, images_of, begin, divided, next, FollowsProof, AwaitsTests, IsOutProof, IsPastProof}

module _ {At : Type 0} (program : Program (Expr At)) (P gs bs : List (Terms Fraction)) where
  abbrev N : State → Option (Entry × State)
  N s = next program gs s

  follows_more : (es fs : List Entry) (s t : State) → FollowsProof program P gs bs es s
      → IsRun (next program gs) s fs t → FollowsProof program P gs bs (es ++ fs) t
  follows_more es fs s t f r = record {
    before = f.before;
    closes = f.closes;
    behind = f.behind ++ fs;
    order = ap (λ xs. xs ++ fs) f.order ∙ append_assoc f.before f.behind fs;
    run = run_joined (next program gs) (testing (tests program bs)) s t f.behind fs f.run r;
  }

  pub proof_begins : (es : List Entry) → ComesNext program P es (closed gs)
      → AwaitsTests program P gs bs es (tests program bs)
  unfolding IsRun next
  proof_begins es c = record {
    state = testing (tests program bs);
    follows =
        record { before = es; closes = c; behind = []; order = sym (append-nil es); run = refl };
    is = refl;
  }

  module _ (t : Test) (w : List Test) where
    abbrev D : division.State Fraction → State
    D d = dividing t w d

    pub test_begins : (es : List Entry) → AwaitsTests program P gs bs es (t ∷ w)
        → FollowsProof program P gs bs (es ++ Begin (task_of t) ∷ [])
        (dividing t w (division.initial_state gs (iteration_of program t)))
    unfolding IsRun begin
    test_begins es a = follows_more es (Begin (task_of t) ∷ []) a.state _ a.follows (_, a.is, refl)

    divided_next : (d u : division.State Fraction) (e : Event)
        → division.next rationals grevlex gs d ≡ Some (e, u)
        → next program gs (dividing t w d) ≡ Some (Did e, dividing t w u)
    unfolding next divided
    divided_next d u e c = ap (divided program gs t w d) c

    divided_run : (es : List Event) (d u : division.State Fraction)
        → IsRun (division.next rationals grevlex gs) d es u
        → IsRun (next program gs) (D d) (map Did es) (D u)
    unfolding IsRun
    divided_run [] d u h = ap D h
    divided_run (e ∷ es) d u (v, c, r) = (D v, divided_next d v e c, divided_run es v u r)

    module _ (before after : List Entry) where
      pub test_follows : (d u : division.State Fraction)
          → Work (division.next rationals grevlex gs) d before after u
          → FollowsProof program P gs bs before (dividing t w d)
          → FollowsProof program P gs bs after (dividing t w u)
      test_follows d u k f =
          subst (λ es. FollowsProof program P gs bs es (dividing t w u)) (sym k.entries)
          (follows_more before (map Did k.events) (D d) (D u) f (divided_run k.events d u k.run))

      pub test_over : (u : division.State Fraction)
          → HasEnded (division.next rationals grevlex gs) u
          → FollowsProof program P gs bs after (dividing t w u)
          → AwaitsTests program P gs bs after w
      unfolding next divided
      test_over u e f = record {
        state = dividing t w u;
        follows = f;
        is = ap (divided program gs t w u) e;
      }

      pub test_out : (limit : ℕ) (d : division.State Fraction)
          → IsExhausted (division.next rationals grevlex gs) d limit before after
          → FollowsProof program P gs bs before (dividing t w d)
          → IsOutProof program P gs bs limit after
      test_out limit d s f = record {
        state = D s.at;
        follows = test_follows d s.at s.work f;
        entry = Did s.event;
        following = D s.following;
        comes = divided_next s.at s.following s.event s.comes;
        unit = s.unit;
        exhausted = s.exhausted;
      }

      pub test_past : (d : division.State Fraction)
          → PastAfter (division.next rationals grevlex gs)
          (past.IsPastDivision fractions rationals gs) d before after
          → FollowsProof program P gs bs before (dividing t w d)
          → IsPastProof program P gs bs after t
      test_past d s f = record {
        waiting = w;
        state = s.at;
        follows = test_follows d s.at s.work f;
        past = inl s.past;
      }

    pub start_past : (es : List Entry)
        → FollowsProof program P gs bs es
        (dividing t w (division.initial_state gs (iteration_of program t)))
        → IsPastComposition fractions t.element (images_of program t)
        → IsPastProof program P gs bs es t
    start_past es f p = record {
      waiting = w;
      state = division.initial_state gs (iteration_of program t);
      follows = f;
      past = inr (refl, p);
    }

  pub proof_over : (es : List Entry) (a : AwaitsTests program P gs bs es [])
      → HasEnded (next program gs) a.state
  unfolding begin
  proof_over es a = a.is
