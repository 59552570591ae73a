-- Recurrences have a solution, and one only.
--   solution       the values that the loop computes
--   one_solution   solutions have the same values
use Rattle.std.proofs.Common.{◌≡◌, ℕ, zero, suc, ◌+◌, ◌<◌, List, [], ◌∷◌, ◌++◌, map, length, get_or, arith, refl, sym, ap, ap₂, ◌∙◌}
use Rattle.std.proofs.lemmas.List.{append_assoc, length-append, length-map, map-append, get_or_append_left}
use Rattle.algebra.specs.Fraction.{Fraction, ℚ}
use Rattle.loops.specs.Program.{Expr}
use Rattle.loops.specs.Effect.{value_of}
use Rattle.loops.specs.Run.{value}
use Rattle.loops.specs.Sequences.{Sequence, order, given_values}
use Rattle.loops.specs.Turning.{all_given, variables_from, iteration, first_places}
use Rattle.loops.specs.Solutions.{values, window, Satisfies, AreSatisfied, IsSolution}
use Rattle.loops.proofs.Lists.{along, behind_place, more_before}
use Rattle.loops.proofs.Windows.{window_place}
use Rattle.loops.proofs.Iterations.{length-variables, turned, turned_behind}
use Rattle.loops.proofs.RecurrenceStarts.{closed_values, window_starts}

-- values by their places
values_are : (f : ℕ → Fraction) (n r : ℕ) (xs : List Fraction) → length xs ≡ r
    → ((i : ℕ) → i < r → get_or xs i ℚ.zero ≡ f (n + i)) → values f n r ≡ xs
unfolding values
values_are f n zero [] l h = refl
values_are f n zero (x ∷ xs) l h = absurd (omega arith)
values_are f n (suc r) [] l h = absurd (omega arith)
values_are f n (suc r) (x ∷ xs) l h =
    ap₂ ◌∷◌ (sym (h 0 (omega arith) ∙ ap f (omega arith)))
    (values_are f (suc n) r xs (omega arith) (λ i k. h (suc i) (omega arith) ∙ ap f (omega arith)))

module _ {At : Type 0} where
  -- the states of the loop, from the values that are given
  unfoldable state : List (Sequence (Expr At)) → ℕ → List Fraction
  state qs zero = closed_values (all_given qs)
  state qs (suc n) = map (λ (e : Expr At). value e (state qs n)) (iteration 0 qs)

  -- the values of the variables at a place and on
  variable_at : (s : List Fraction) (a r i : ℕ) (after : List (Expr At)) → i < r
      → get_or (map (λ (e : Expr At). value e s) (variables_from a r ++ after)) i ℚ.zero ≡ get_or s
      (a + i) ℚ.zero
  unfolding variables_from value_of
  variable_at s a zero i after l = absurd (omega arith)
  variable_at s a (suc r) zero after l = ap (λ k. get_or s k ℚ.zero) (omega arith)
  variable_at s a (suc r) (suc i) after l = variable_at s (suc a) r i after (omega arith)
      ∙ ap (λ k. get_or s k ℚ.zero) (omega arith)

  next_at : (s : List Fraction) (a r : ℕ) (e : Expr At) (after : List (Expr At))
      → get_or (map (λ (e : Expr At). value e s) (variables_from a r ++ e ∷ after)) r ℚ.zero ≡ value
      e s
  unfolding variables_from
  next_at s a zero e after = refl
  next_at s a (suc r) e after = next_at s (suc a) r e after

  -- states that go on by iterations, behind what comes before
  record Goes (st : ℕ → List Fraction) (a : ℕ) (qs : List (Sequence (Expr At))) : Type 0 where
    before : List (Expr At)
    size_before : length before ≡ a
    start_before : List Fraction
    start_size : length start_before ≡ a
    starts : st 0 ≡ start_before ++ closed_values (all_given qs)
    iterations : (n : ℕ) → st (suc n) ≡ map (λ (e : Expr At). value e (st n))
        (before ++ iteration a qs)

  abbrev found : (ℕ → List Fraction) → ℕ → List (Sequence (Expr At)) → ℕ → ℕ → Fraction
  found st a qs j n = get_or (st n) (get_or (first_places a qs) j 0) ℚ.zero

  module _ (st : ℕ → List Fraction) (a : ℕ) (q : Sequence (Expr At))
      (qs : List (Sequence (Expr At))) (goes : Goes st a (q ∷ qs)) where
    r : ℕ
    r = length q.later

    f : ℕ → Fraction
    f n = get_or (st n) a ℚ.zero

    behind : (n i : ℕ) → get_or (st (suc n)) (a + i) ℚ.zero ≡ get_or
        (map (λ (e : Expr At). value e (st n)) (iteration a (q ∷ qs))) i ℚ.zero
    behind n i =
        let v : List (Expr At) → List Fraction = map (λ (e : Expr At). value e (st n)) in
        ap (λ s. get_or s (a + i) ℚ.zero) (goes.iterations n
        ∙ map-append (λ (e : Expr At). value e (st n)) goes.before (iteration a (q ∷ qs)))
        ∙ ap (λ k. get_or (v goes.before ++ v (iteration a (q ∷ qs))) (k + i) ℚ.zero)
        (sym goes.size_before ∙ sym (length-map goes.before (λ (e : Expr At). value e (st n))))
        ∙ behind_place (v goes.before) (v (iteration a (q ∷ qs))) i ℚ.zero

    moves : (n i : ℕ) → i < length q.later
        → get_or (st (suc n)) (a + i) ℚ.zero ≡ get_or (st n) (a + suc i) ℚ.zero
    unfolding iteration
    moves n i l = behind n i
        ∙ variable_at (st n) (suc a) (length q.later) i (q.next ∷ iteration (a + order q) qs) l
        ∙ ap (λ k. get_or (st n) k ℚ.zero) (omega arith)

    last : (n : ℕ) → get_or (st (suc n)) (a + length q.later) ℚ.zero ≡ value q.next (st n)
    unfolding iteration
    last n = behind n (length q.later)
        ∙ next_at (st n) (suc a) (length q.later) q.next (iteration (a + order q) qs)

    later : (i n : ℕ) → i < order q → f (n + i) ≡ get_or (st n) (a + i) ℚ.zero
    unfolding f
    later zero n l = along (λ j. get_or (st j) a ℚ.zero) (n + 0) n (omega arith)
        ∙ along (λ k. get_or (st n) k ℚ.zero) a (a + 0) (omega arith)
    later (suc i) n l = along (λ j. get_or (st j) a ℚ.zero) (n + suc i) (suc n + i) (omega arith)
        ∙ later i (suc n) (omega arith) ∙ moves n i (omega arith)

    meets : Satisfies f st q
    unfolding f all_given
    meets =
        let xs = closed_values (given_values q) in
        let rest = closed_values (all_given qs) in
        record {
          starts = values_are f 0 (order q) xs (length-map (given_values q) (λ e. value e []))
              (λ i l. sym (get_or_append_left xs rest ℚ.zero i
              (let k = length-map (given_values q) (λ (e : Expr At). value e []) in omega arith))
              ∙ sym (behind_place goes.start_before (xs ++ rest) i ℚ.zero)
              ∙ ap (λ k. get_or (goes.start_before ++ (xs ++ rest)) (k + i) ℚ.zero) goes.start_size
              ∙ ap (λ s. get_or s (a + i) ℚ.zero)
              (ap (λ l. goes.start_before ++ l)
              (sym (map-append (λ e. value e []) (given_values q) (all_given qs)))
              ∙ sym goes.starts)
              ∙ sym (later i 0 l));
          goes = λ n. along (λ j. get_or (st j) a ℚ.zero) (n + order q) (suc n + length q.later)
              (omega arith) ∙ later (length q.later) (suc n) (omega arith) ∙ last n;
        }

    goes_on : Goes st (a + order q) qs
    unfolding iteration all_given
    goes_on =
        let vs : List (Expr At) = variables_from (suc a) (length q.later) ++ q.next ∷ [] in
        let xs = closed_values (given_values q) in
        record {
          before = goes.before ++ vs;
          size_before = length-append goes.before vs
              ∙ ap₂ ◌+◌ goes.size_before
              (length-append (variables_from {At = At} (suc a) (length q.later)) (q.next ∷ [])
              ∙ ap (λ n. n + 1) (length-variables At (suc a) (length q.later)) ∙ omega arith);
          start_before = goes.start_before ++ xs;
          start_size = length-append goes.start_before xs
              ∙ ap₂ ◌+◌ goes.start_size (length-map (given_values q) (λ e. value e []));
          starts = goes.starts ∙ ap (λ l. goes.start_before ++ l)
              (map-append (λ e. value e []) (given_values q) (all_given qs))
              ∙ sym (append_assoc goes.start_before xs (closed_values (all_given qs)));
          iterations = λ n. goes.iterations n
              ∙ ap (map (λ (e : Expr At). value e (st n)))
              (ap (λ l. goes.before ++ l)
              (more_before (variables_from (suc a) (length q.later)) q.next
              (iteration (a + order q) qs))
              ∙ sym (append_assoc goes.before vs (iteration (a + order q) qs)));
        }

  are_satisfied : (st : ℕ → List Fraction) (a : ℕ) (qs : List (Sequence (Expr At))) → Goes st a qs
      → AreSatisfied (found st a qs) st qs
  unfolding AreSatisfied first_places f
  are_satisfied st a [] goes = tt
  are_satisfied st a (q ∷ qs) goes =
      (meets st a q qs goes, are_satisfied st (a + order q) qs (goes_on st a q qs goes))

  are_satisfied_same : (fs : ℕ → ℕ → Fraction) (v w : ℕ → List Fraction)
      (qs : List (Sequence (Expr At)))
      → ((n : ℕ) → v n ≡ w n) → AreSatisfied fs v qs → AreSatisfied fs w qs
  unfolding AreSatisfied
  are_satisfied_same fs v w [] h m = tt
  are_satisfied_same fs v w (q ∷ qs) h m = (
    record { starts = m.0.starts; goes = λ n. m.0.goes n ∙ ap (value q.next) (h n) },
    are_satisfied_same (λ j. fs (suc j)) v w qs h m.1,
  )

  module _ (qs : List (Sequence (Expr At))) where
    all_go : Goes (state qs) 0 qs
    unfolding state
    all_go = record {
      before = [];
      size_before = refl;
      start_before = [];
      start_size = refl;
      starts = refl;
      iterations = λ n. refl;
    }

    met : AreSatisfied (found (state qs) 0 qs) (state qs) qs
    met = are_satisfied (state qs) 0 qs all_go

    windows : (n : ℕ) → state qs n ≡ window (found (state qs) 0 qs) n qs
    unfolding window all_go all_given
    windows zero = all_go.starts ∙ sym (window_starts (found (state qs) 0 qs) (state qs) qs met)
    windows (suc n) = all_go.iterations n
        ∙ turned_behind (found (state qs) 0 qs) (state qs) n [] 0 refl qs (windows n) met

    pub solution : (fs : ℕ → ℕ → Fraction) × IsSolution qs fs
    solution = (
      found (state qs) 0 qs,
      are_satisfied_same (found (state qs) 0 qs) (state qs)
          (λ n. window (found (state qs) 0 qs) n qs) qs windows met,
    )

    same_windows : (fs gs : ℕ → ℕ → Fraction) → IsSolution qs fs → IsSolution qs gs → (n : ℕ)
        → window fs n qs ≡ window gs n qs
    same_windows fs gs f g zero = window_starts fs (λ n. window fs n qs) qs f
        ∙ sym (window_starts gs (λ n. window gs n qs) qs g)
    same_windows fs gs f g (suc n) = sym (turned fs qs f n)
        ∙ ap (λ s. map (λ (e : Expr At). value e s) (iteration 0 qs)) (same_windows fs gs f g n)
        ∙ turned gs qs g n

    pub one_solution : (fs gs : ℕ → ℕ → Fraction) → IsSolution qs fs → IsSolution qs gs → (j n : ℕ)
        → j < length qs → fs j n ≡ gs j n
    one_solution fs gs f g j n l = go qs l
      where
        place : Sequence (Expr At) → fs j n ≡ gs j n
        place p =
            let k = get_or (first_places 0 qs) j 0 + 0 in
            along (fs j) n (n + 0) (omega arith) ∙ sym (window_place qs fs n j 0 p l (omega arith))
            ∙ ap (λ s. get_or s k ℚ.zero) (same_windows fs gs f g n)
            ∙ window_place qs gs n j 0 p l (omega arith) ∙ along (gs j) (n + 0) n (omega arith)

        go : (ps : List (Sequence (Expr At))) → j < length ps → fs j n ≡ gs j n
        go [] l = absurd (omega arith)
        go (p ∷ ps) l = place p
