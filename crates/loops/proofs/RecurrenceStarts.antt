-- The loop has one start: the window at 0.
--   length-names          as many variables as values are given
--   value_closed          an expression without variables has one value
--   window_starts         the window at 0 is the values that are given
--   start_is, is_start    the one start
use Rattle.std.proofs.Common.{◌≡◌, ℕ, zero, suc, ◌+◌, List, [], ◌∷◌, ◌++◌, map, length, get_or, arith, refl, sym, ap, ap₂, subst, ◌∙◌, All}
use Rattle.std.proofs.lemmas.List.{length-append, map-append}
use Rattle.std.proofs.lemmas.List.Elements.{All-nil, All-cons, All-head, All-tail}
use Rattle.algebra.specs.Each.{Each}
use Rattle.algebra.specs.Arithmetic as numeral
use Rattle.algebra.proofs.Each.{each-append}
use Rattle.algebra.specs.Fraction.{Fraction, ℚ, whole, inverse}
use Rattle.loops.specs.Program.{Expr, number, variable, neg, add, sub, mul, divide, power, Equation}
use Rattle.loops.specs.Effect.{value_of}
use Rattle.loops.specs.Run.{value, IsStart}
use Rattle.loops.specs.WellFormed.{Uses}
use Rattle.loops.specs.Sequences.{Sequence, order, given_values, size, AreFormed}
use Rattle.loops.specs.Turning.{indexed_names, names, names_of, all_given, equations, program_of}
use Rattle.loops.specs.Solutions.{window, AreSatisfied, IsSolution}
use Rattle.loops.proofs.Lists.{at_place, more_before, length-more}
use Rattle.loops.proofs.Windows.{length-window}

pub length-indexed : (w : List ℕ) (i r : ℕ) → length (indexed_names w i r) ≡ r
unfolding indexed_names
length-indexed w i zero = refl
length-indexed w i (suc r) = ap suc (length-indexed w (suc i) r)

module _ {E : Type 0} where
  pub length-names : (qs : List (Sequence E)) → length (names qs) ≡ size qs
  unfolding names size
  length-names [] = refl
  length-names (q ∷ qs) = length-append (names_of q) (names qs)
      ∙ ap₂ ◌+◌ (ap suc (length-indexed q.name 1 (length q.later))) (length-names qs)

  pub length-given : (qs : List (Sequence E)) → length (all_given qs) ≡ size qs
  unfolding all_given size
  length-given [] = refl
  length-given (q ∷ qs) = length-append (given_values q) (all_given qs)
      ∙ ap (λ n. order q + n) (length-given qs)

  pub each_given : (P : E → Type 0) (qs : List (Sequence E))
      → Each (λ q. Each P (given_values q)) qs
      → Each P (all_given qs)
  unfolding all_given Each
  each_given P [] h = tt
  each_given P (q ∷ qs) h = each-append P (given_values q) (all_given qs) h.0 (each_given P qs h.1)

module _ {At : Type 0} where
  pub value_closed : (e : Expr At) (s t : List Fraction) → Uses (λ i. ⊥) e → value e s ≡ value e t
  unfolding Uses value_of
  value_closed (number n) s t u = refl
  value_closed (variable i) s t u = absurd u
  value_closed (neg at e) s t u = ap ℚ.neg (value_closed e s t u)
  value_closed (add at e f) s t u = ap₂ ℚ.add (value_closed e s t u.0) (value_closed f s t u.1)
  value_closed (sub at e f) s t u =
      ap₂ ℚ.add (value_closed e s t u.0) (ap ℚ.neg (value_closed f s t u.1))
  value_closed (mul at e f) s t u = ap₂ ℚ.mul (value_closed e s t u.0) (value_closed f s t u.1)
  value_closed (divide at e n) s t u =
      ap (λ x. ℚ.mul x (inverse (whole n))) (value_closed e s t u.0)
  value_closed (power at e n) s t u = ap (λ x. numeral.power ℚ x n) (value_closed e s t u)

  abbrev pub closed_values : List (Expr At) → List Fraction
  closed_values es = map (λ e. value e []) es

  pub window_starts : (fs : ℕ → ℕ → Fraction) (w : ℕ → List Fraction)
      (qs : List (Sequence (Expr At))) → AreSatisfied fs w qs
      → window fs 0 qs ≡ closed_values (all_given qs)
  unfolding window AreSatisfied all_given
  window_starts fs w [] m = refl
  window_starts fs w (q ∷ qs) m = ap₂ ◌++◌ m.0.starts (window_starts (λ j. fs (suc j)) w qs m.1)
      ∙ sym (map-append (λ e. value e []) (given_values q) (all_given qs))

  abbrev Holds : List Fraction → Equation (Expr At) → Type 0
  Holds s e = get_or s e.name ℚ.zero ≡ value e.value s

  held : (before xs : List Fraction) (i : ℕ) → i ≡ length before → (es : List (Expr At))
      → Each (Uses (λ i. ⊥)) es → length xs ≡ length es
      → All (Holds (before ++ xs)) (equations i es) → xs ≡ closed_values es
  unfolding equations Each
  held before [] i p [] u l h = refl
  held before [] i p (e ∷ es) u l h = absurd (omega arith)
  held before (x ∷ xs) i p [] u l h = absurd (omega arith)
  held before (x ∷ xs) i p (e ∷ es) u l h =
      let s = before ++ x ∷ xs in
      let first : Holds s (record { name = i; value = e }) =
      All-head (Holds s) (record { name = i; value = e }) (equations (suc i) es) h in
      let rest : All (Holds s) (equations (suc i) es) =
      All-tail (Holds s) (record { name = i; value = e }) (equations (suc i) es) h in
      ap₂ ◌∷◌
      (sym (at_place before x xs ℚ.zero) ∙ ap (λ k. get_or s k ℚ.zero) (sym p) ∙ first
      ∙ value_closed e s [] u.0)
      (held (before ++ x ∷ []) xs (suc i) (ap suc p ∙ sym (length-more before x)) es u.1
      (omega arith) (subst (λ t. All (Holds t) (equations (suc i) es))
      (more_before before x xs) rest))

  holds : (before : List Fraction) (i : ℕ) → i ≡ length before → (es : List (Expr At))
      → Each (Uses (λ i. ⊥)) es → All (Holds (before ++ closed_values es)) (equations i es)
  unfolding equations Each
  holds before i p [] u = All-nil _
  holds before i p (e ∷ es) u =
      let x = value e [] in
      let xs = closed_values es in
      let s = before ++ x ∷ xs in
      All-cons (Holds s) (record { name = i; value = e }) (equations (suc i) es)
      (ap (λ k. get_or s k ℚ.zero) p ∙ at_place before x xs ℚ.zero ∙ value_closed e [] s u.0)
      (subst (λ t. All (Holds t) (equations (suc i) es)) (sym (more_before before x xs))
      (holds (before ++ x ∷ []) (suc i) (ap suc p ∙ sym (length-more before x)) es u.1))

  module _ (qs : List (Sequence (Expr At))) (formed : AreFormed qs) (fs : ℕ → ℕ → Fraction)
      (solution : IsSolution qs fs) where
    closed : Each (Uses (λ i. ⊥)) (all_given qs)
    closed = each_given (Uses (λ i. ⊥)) qs formed.values

    pub start_is : (s : List Fraction) → IsStart (program_of qs) s → s ≡ window fs 0 qs
    start_is s start = held [] s 0 refl (all_given qs) closed (start.state ∙ length-names qs
        ∙ sym (length-given qs)) start.holds
        ∙ sym (window_starts fs (λ n. window fs n qs) qs solution)

    pub is_start : IsStart (program_of qs) (window fs 0 qs)
    is_start = record {
      state = length-window fs 0 qs ∙ sym (length-names qs);
      holds = subst (λ t. All (Holds t) (equations 0 (all_given qs)))
          (sym (window_starts fs (λ n. window fs n qs) qs solution))
          (holds [] 0 refl (all_given qs) closed);
    }
