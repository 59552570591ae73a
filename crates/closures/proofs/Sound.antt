-- What holds at each state of a closing, from its beginning on.
--   begun_sound          at the beginning
--   step_sound, run_sound     after what comes next, and so along each run
--   ends_sound           at its end
--   run_holds            and what its list has at each moment
use Rattle.std.proofs.Common.{◌≡◌, inl, ℕ, List, [], ◌∷◌, map, length, refl, sym, ap, subst, Some}
use Rattle.std.proofs.lemmas.List.Elements.{All-nil}
use Rattle.algebra.specs.Each.{Each}
use Rattle.algebra.specs.In.{In}
use Rattle.algebra.specs.Ring.{CommRing}
use Rattle.algebra.proofs.Each.{each-map}
use Rattle.algebra.proofs.In.{each_in, each_from, map-in}
use Rattle.algebra.specs.Fraction.{Fraction, ℚ, rationals}
use Rattle.algebra.proofs.Fractions.{ℚ_ring}
use Rattle.polynomials.specs.Terms.{Terms}
use Rattle.polynomials.specs.Order.{grevlex}
use Rattle.polynomials.specs.Polynomial.{Arity, IsPolynomial}
use Rattle.polynomials.proofs.Poly.{Poly, poly_ring}
use Rattle.ideals.proofs.Ideal.{in_ideal_same}
use Rattle.machines.specs.Division as division
use Rattle.machines.specs.Journal.{Entry}
use Rattle.machines.specs.Run.{IsRun}
use Rattle.loops.specs.Program.{Expr, Program}
use Rattle.rounds.specs.Word.{IsLetter, after_word}
use Rattle.rounds.proofs.Word.{arity-after_word}
use Rattle.closures.specs.Closure.{InClosure}
use Rattle.closures.specs.Closing.{Candidate, first_candidate, State, fresh, dividing, extending, Step, goes, closed, countered, next_extended, next, move_of, moves}
use Rattle.closures.specs.Ends.{ComesNext, IsListAt, HoldsAt}
use Rattle.closures.proofs.Closures.{closure_has}
use Rattle.closures.proofs.Levels.{first_item, InLevel, level_begun, level_next}
use Rattle.closures.proofs.Parts.{of, nothing_reduced, letter_map, of_word}
use Rattle.closures.proofs.Closing as parts

module _ {At : Type 0} (program : Program (Expr At)) (Ps : List (Terms Fraction))
    (ps : Each (IsPolynomial ℚ grevlex (length program.names)) Ps) where
  abbrev m : ℕ
  m = length program.names

  abbrev R : CommRing (Poly m ℚ_ring)
  R = poly_ring m ℚ_ring

  -- ---- the beginning
  first_are : (qs : List (Terms Fraction)) → ((q : Terms Fraction) → In q qs → In q Ps)
      → Each (parts.IsCandidate program Ps ps) (map first_candidate qs)
  first_are qs f =
      each-map (parts.IsCandidate program Ps ps) first_candidate qs
      (each_from qs (λ q i. record {
        given = f q i;
        letters = All-nil (IsLetter program);
        polynomial = each_in (IsPolynomial ℚ grevlex m) Ps q ps (f q i);
        in_closure = each_in (InClosure program Ps) Ps q
            (closure_has program Ps (parts.arities program Ps ps)) (f q i);
      }))

  first_items : (qs : List (Terms Fraction))
      → map (parts.item program Ps ps) (map first_candidate qs) ≡ map first_item
      (parts.list program Ps ps qs)
  first_items [] = refl
  first_items (q ∷ qs) = ap (λ l. first_item (of m q) ∷ l) (first_items qs)

  begun_sound : parts.IsSound program Ps ps [] [] (map first_candidate Ps)
  unfolding Each
  begun_sound = record {
    number = 0;
    before = [];
    level =
        subst (λ ys. InLevel R (letter_map program) (IsLetter program) (parts.list program Ps ps Ps)
        0 [] [] ys [])
        (sym (first_items Ps))
        (level_begun R (letter_map program) (IsLetter program) (parts.list program Ps ps Ps));
    reduced = nothing_reduced m;
    in_closure = tt;
    from_start = tt;
    kept_are = tt;
    waiting_are = first_are Ps (λ q i. i);
  }

  pub step_sound : (s : State) → parts.Sound program Ps ps s
      → parts.SoundStep program Ps ps (next program Ps s)
  unfolding next parts.Sound
  step_sound fresh h = parts.waiting_sound program Ps ps 0 [] [] (map first_candidate Ps)
      begun_sound
  step_sound (dividing n gs kept x waiting d) h =
      parts.divided_sound program Ps ps n gs kept x waiting h.0 d h.1
      (division.next rationals grevlex gs d) refl
  step_sound (extending n gs kept x waiting c) h =
      parts.extended_sound program Ps ps n gs kept x waiting h.0 c h.1 (next_extended c) refl

  move_sound : (t : Step) → parts.SoundStep program Ps ps t → (e : Entry) (u : State)
      → move_of program Ps t ≡ Some (e, u) → parts.Sound program Ps ps u
  unfolding parts.SoundStep
  move_sound (goes e s) h f u i =
      let p : ◌≡◌ {A = Entry × State} (e, s) (f, u) = cc in
      subst (parts.Sound program Ps ps) (ap (λ (x : Entry × State). x.1) p) h
  move_sound (closed gs) h f u i = absurd (cc)
  move_sound (countered x q) h f u i = absurd (cc)

  run_sound : (es : List Entry) (s t : State) → parts.Sound program Ps ps s
      → IsRun (moves program Ps) s es t
      → parts.Sound program Ps ps t
  unfolding IsRun
  run_sound [] s t h r = subst (parts.Sound program Ps ps) r h
  run_sound (e ∷ es) s t h (u, c, r) =
      run_sound es u t (move_sound (next program Ps s) (step_sound s h) e u c) r

  pub ends_sound : (es : List Entry) (step : Step) → ComesNext program Ps es step
      → parts.SoundStep program Ps ps step
  unfolding parts.Sound
  ends_sound es step c =
      subst (parts.SoundStep program Ps ps) c.is
      (step_sound c.state (run_sound es fresh c.state tt c.run))

  -- ---- at each moment
  list_at : (n : ℕ) (gs : List (Terms Fraction)) (kept : List Candidate) (x : Candidate)
      (waiting : List Candidate) → parts.IsSound program Ps ps gs kept (x ∷ waiting)
      → IsListAt program Ps gs x
  list_at n gs kept x waiting s =
      let next = level_next R (letter_map program) (IsLetter program) (parts.list program Ps ps Ps)
      s.number
      s.before (map (parts.item program Ps ps) kept) (parts.item program Ps ps x)
      (map (parts.item program Ps ps) waiting) (parts.list program Ps ps gs) s.level in
      let is = each_in (parts.IsCandidate program Ps ps) (x ∷ waiting) x s.waiting_are (inl refl) in
      let ga = parts.list_arity program Ps ps gs s.reduced in
      record {
        reduced = s.reduced;
        in_closure = s.in_closure;
        from_start = s.from_start;
        earlier = λ p i v all e.
            let a = each_in (Arity m) Ps p (parts.arities program Ps ps) i in
            (parts.in_list program Ps ps) gs ga (after_word program v p)
            (arity-after_word program v p a)
            (in_ideal_same R (of_word program v p a)
            (next.earlier (of m p) (map-in (of m) Ps p i) v all e));
        differs =
            (parts.differs_member program Ps ps) gs ga x.polynomial (after_word program x.word x.of)
            is.polynomial.arity (arity-after_word program x.word x.of
            ((parts.of_arity program Ps ps) x is))
            (in_ideal_same R (ap (λ w. R.add (of m x.polynomial) (R.neg w))
            (of_word program x.word x.of ((parts.of_arity program Ps ps) x is))) next.same);
      }

  holds_at : (s : State) → parts.Sound program Ps ps s → HoldsAt program Ps s
  unfolding parts.Sound
  holds_at fresh h = tt
  holds_at (dividing n gs kept x waiting d) h = list_at n gs kept x waiting h.0
  holds_at (extending n gs kept x waiting c) h = let e = h.0 in e.sound.from_start

  pub run_holds : (es : List Entry) (s : State) → IsRun (moves program Ps) fresh es s
      → HoldsAt program Ps s
  unfolding parts.Sound
  run_holds es s r = holds_at s (run_sound es fresh s tt r)
