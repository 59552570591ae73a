-- The polynomials of a start, one variable after another (wanted in loops and in rounds).
--   start_map_at               the start map has the value of each equation at its variable
--   value_without              which is without that variable
--   starts_to                  the start list's polynomials of the first variables
--   zip_place, any_seen        of lists
--   start_set, start_unset     the start list's next variable, where init sets it and where it doesn't
use Rattle.std.proofs.Common.{◌≡◌, ◌≢◌, ◌⊎◌, inl, inr, ℕ, zero, suc, ◌<◌, Bool, true, false, cond, eqb, List, [], ◌∷◌, ◌++◌, map, get_or, set, length, arith, refl, sym, ap, ap₂, subst, ◌∙◌, filter}
use Rattle.std.specs.List.{All, AllZip, list_any}
use Rattle.std.specs.Prelude.{◌||◌}
use Rattle.std.proofs.lemmas.List.{get_or-set_same, get_or-set_other, length-set, map-append, append-nil}
use Rattle.std.proofs.lemmas.List.Elements.{All-head, All-tail}
use Rattle.algebra.specs.Arithmetic as numeral
use Rattle.algebra.specs.Arithmetic.{Arithmetic}
use Rattle.algebra.specs.Each.{Each}
use Rattle.algebra.proofs.Basics.{equal_or_not}
use Rattle.algebra.proofs.Each.{each-append}
use Rattle.algebra.specs.Fraction.{Fraction, ℚ, rationals, whole, inverse}
use Rattle.algebra.proofs.Fractions.{ℚ_ring}
use Rattle.polynomials.specs.Algebra as Algebra
use Rattle.polynomials.specs.Exponent.{exponents}
use Rattle.polynomials.specs.Order.{grevlex}
use Rattle.polynomials.specs.Polynomial.{Arity, IsPolynomial}
use Rattle.polynomials.specs.Terms.{Terms, Same, constant, variables, lists, negate}
use Rattle.polynomials.proofs.Arity.{arity_at, arity-append, arity-negate, arity-variables}
use Rattle.polynomials.proofs.Distinct.{each_occurring, terms_occur}
use Rattle.polynomials.proofs.Exponent.{get_or-zeros, get_or-plus}
use Rattle.polynomials.proofs.Orders.{grevlex_order}
use Rattle.polynomials.proofs.Same.{Same-refl, same_append, same_negate}
use Rattle.solvable_maps.specs.Uses.{unit}
use Rattle.machines.specs.Collect.{collect}
use Rattle.loops.specs.Effect.{value_of, start_from}
use Rattle.loops.specs.Map.{start_map}
use Rattle.loops.specs.Program.{Expr, number, variable, neg, add, sub, mul, divide, power, Equation, Program}
use Rattle.loops.specs.WellFormed.{IsWellFormed, Uses, AreDistinct}
use Rattle.loops.proofs.Effects.{Closed, value_in}
use Rattle.loops.proofs.Maps.{length-variables, arity_closed}
use Rattle.loops.proofs.Starts.{uses_weaker, start_from_free, start_from_holds}
use Rattle.rounds.specs.Form.{variable_at}
use Rattle.rounds.specs.Start.{start_polynomial, in_order}
use Rattle.expo.proofs.Results.{collected_same}
use Rattle.task_lists.specs.Starts.{value_less, IsWithout}
use Rattle.rounds.proofs.RelationTerms.{variable_is}

-- ---- a value depends on the variables in use alone
module _ {A At : Type 0} (N : Arithmetic A) (of : Fraction → A) where
  value_of_alike : (s t : List A) (e : Expr At) → Uses (λ i. get_or s i N.zero ≡ get_or t i N.zero)
      e → value_of N of s e ≡ value_of N of t e
  unfolding Uses value_of
  value_of_alike s t (number n) u = refl
  value_of_alike s t (variable i) u = u
  value_of_alike s t (neg at e) u = ap N.neg (value_of_alike s t e u)
  value_of_alike s t (add at e f) u = ap₂ N.add (value_of_alike s t e u.0)
      (value_of_alike s t f u.1)
  value_of_alike s t (sub at e f) u = ap₂ N.add (value_of_alike s t e u.0)
      (ap N.neg (value_of_alike s t f u.1))
  value_of_alike s t (mul at e f) u = ap₂ N.mul (value_of_alike s t e u.0)
      (value_of_alike s t f u.1)
  value_of_alike s t (divide at e n) u = ap (λ x. N.mul x (of (inverse (whole n))))
      (value_of_alike s t e u.0)
  value_of_alike s t (power at e n) u = ap (λ x. numeral.power N x n) (value_of_alike s t e u)

-- ---- without a variable
module _ (i : ℕ) where
  abbrev Without : Terms Fraction → Type 0
  Without p = Each (λ t. get_or t.0 i 0 ≡ 0) p

  pub without_all : (p : Terms Fraction) → Without p → IsWithout i p
  unfolding Each
  without_all [] h k d l = absurd (omega (arith, l))
  without_all (t ∷ p) h zero d l = h.0
  without_all (t ∷ p) h (suc k) d l = without_all p h.1 k d (omega (arith, l))

  constant_without : (m : ℕ) (c : Fraction) → Without (constant m c)
  unfolding constant Each
  constant_without m c = (get_or-zeros m i, tt)

  shift_without : (d : List ℕ) (c : Fraction) (q : Terms Fraction) → get_or d i 0 ≡ 0 → Without q
      → Without (Algebra.shift exponents ℚ d c q)
  unfolding Algebra.shift Each
  shift_without d c [] z h = tt
  shift_without d c (t ∷ q) z h = (
    (let a = get_or-plus d t.0 i in let b = h.0 in omega (arith, a, b, z)),
    shift_without d c q z h.1,
  )

  times_without : (p q : Terms Fraction) → Without p → Without q
      → Without (Algebra.times exponents ℚ p q)
  unfolding Algebra.times Each
  times_without [] q h k = tt
  times_without (t ∷ p) q h k =
      each-append (λ t. get_or t.0 i 0 ≡ 0) _ _ (shift_without t.0 t.1 q h.0 k)
      (times_without p q h.1 k)

  negate_without : (p : Terms Fraction) → Without p → Without (negate ℚ p)
  unfolding Algebra.negate Each
  negate_without [] h = tt
  negate_without (t ∷ p) h = (h.0, negate_without p h.1)

  without_closed : (m : ℕ) → Closed (lists ℚ m) (constant m) (λ p. Each (λ t. get_or t.0 i 0 ≡ 0) p)
  unfolding Each
  without_closed m = record {
    zero_in = tt;
    one_in = constant_without m ℚ.one;
    add_in = λ p q a b. each-append (λ t. get_or t.0 i 0 ≡ 0) p q a b;
    mul_in = times_without;
    neg_in = negate_without;
    number_in = constant_without m;
  }

  each_places : (xs : List (Terms Fraction)) → ((j : ℕ) → j < length xs → Without (get_or xs j []))
      → Each (λ p. Each (λ t. get_or t.0 i 0 ≡ 0) p) xs
  unfolding Each
  each_places [] h = tt
  each_places (x ∷ xs) h = (h 0 (omega arith), each_places xs (λ j l. h (suc j) (omega (arith, l))))

  unit_other : (m j : ℕ) → j ≢ i → get_or (unit m j) i 0 ≡ 0
  unit_other m j n = go m j i n
    where
      go : (m j i : ℕ) → j ≢ i → get_or (unit m j) i 0 ≡ 0
      go zero j i n = refl
      go (suc m) zero zero n = absurd (n refl)
      go (suc m) zero (suc i) n = get_or-zeros m i
      go (suc m) (suc j) zero n = refl
      go (suc m) (suc j) (suc i) n = go m j i (λ e. n (ap suc e))

  variable_without : (m j : ℕ) → j < m → j ≢ i → Without (get_or (variables ℚ m) j [])
  unfolding Each
  variable_without m j l n = subst Without (sym (variable_is m j l)) (unit_other m j n, tt)

  others_without : (m : ℕ) → Each (λ p. Each (λ t. get_or t.0 i 0 ≡ 0) p) (set (variables ℚ m) i [])
  unfolding Each
  others_without m = each_places (set (variables ℚ m) i []) (λ j l.
      at j (let a = length-set (variables ℚ m) i [] in let b = length-variables m in
      omega (arith, a, b, l)) (let c : (j ≡ i) ⊎ (j ≢ i) = equal_or_not j i in c))
    where
      at : (j : ℕ) → j < m → (j ≡ i) ⊎ (j ≢ i) → Without (get_or (set (variables ℚ m) i []) j [])
      at j l (inl e) = subst Without (sym (ap (λ k. get_or (set (variables ℚ m) i []) k []) e
          ∙ get_or-set_same (variables ℚ m) i [] [] (let b = length-variables m in
          omega (arith, b, l, e)))) tt
      at j l (inr n) = subst Without (sym (get_or-set_other (variables ℚ m) i j [] [] n))
          (variable_without m j l n)

abbrev pub starts_to : {At : Type 0} → Program (Expr At) → ℕ → List (Terms Fraction)
starts_to program n = map (collect rationals grevlex) (map (start_polynomial program)
    (in_order n program.init))

pub zip_place : {X Y : Type 0} (R : X → Y → Type 0) (xs : List X) (ys : List Y) (i : ℕ) (d : X)
    (e : Y) → AllZip R xs ys → i < length xs → R (get_or xs i d) (get_or ys i e)
zip_place R [] ys i d e h l = absurd (omega (arith, l))
zip_place R (x ∷ xs) [] i d e h l = absurd h
zip_place R (x ∷ xs) (y ∷ ys) zero d e h l = h.0
zip_place R (x ∷ xs) (y ∷ ys) (suc i) d e h l = zip_place R xs ys i d e h.1 (omega (arith, l))

pub any_seen : {X Y : Type 0} (f : X → Y) (p : Y → Bool) (xs : List X) → list_any (λ x. p (f x)) xs
    ≡ list_any p (map f xs)
any_seen f p [] = refl
any_seen f p (x ∷ xs) = ap (λ b. p (f x) || b) (any_seen f p xs)

module _ {At : Type 0} (program : Program (Expr At)) (w : IsWellFormed program) where
  abbrev m : ℕ
  m = length program.names

  abbrev pub start_value : Equation (Expr At) → Terms Fraction
  start_value e = value_of (lists ℚ m) (constant m) (variables ℚ m) e.value

  -- the values of init's equations stand at their variables
  pub start_map_at : All (λ (e : Equation (Expr At)). get_or (start_map program) e.name []
      ≡ start_value e) program.init
  unfolding start_map
  start_map_at k d l =
      let e = get_or program.init k d in
      let start = start_from (lists ℚ m) (constant m) program (variables ℚ m) in
      start_from_holds (lists ℚ m) (constant m) program w (variables ℚ m) (length-variables m) k d l
      ∙ value_of_alike (lists ℚ m) (constant m) start (variables ℚ m) e.value
      (uses_weaker _ (λ i. get_or start i [] ≡ get_or (variables ℚ m) i []) (λ i u.
      start_from_free (lists ℚ m) (constant m) program (variables ℚ m) i [] u.1) e.value
      (w.free k d l))

  -- in which these variables don't occur
  pub value_without : All (λ (e : Equation (Expr At)). Each (λ t. get_or t.0 e.name 0 ≡ 0)
      (start_value e)) program.init
  value_without k d l =
      let e = get_or program.init k d in
      let others = set (variables ℚ m) e.name [] in
      let is : start_value e ≡ value_of (lists ℚ m) (constant m) others e.value =
      value_of_alike (lists ℚ m) (constant m) (variables ℚ m) others e.value
      (uses_weaker _ (λ i. get_or (variables ℚ m) i [] ≡ get_or others i []) (λ i u.
      sym (get_or-set_other (variables ℚ m) e.name i [] [] (u.1 k d l))) e.value
      (w.free k d l)) in
      subst (λ p. Each (λ t. get_or t.0 e.name 0 ≡ 0) p) (sym is)
      (value_in (lists ℚ m) (constant m) (λ p. Each (λ t. get_or t.0 e.name 0 ≡ 0) p)
      (without_closed e.name m) others (others_without e.name m) e.value)

  variable_arity : (i : ℕ) → Arity m (variable_at m i)
  variable_arity i = arity_at m (variables ℚ m) (arity-variables m ℚ) i

  value_arity : (e : Equation (Expr At)) → Arity m (start_value e)
  value_arity e = value_in (lists ℚ m) (constant m) (Arity m) (arity_closed m) (variables ℚ m)
      (arity-variables m ℚ) e.value

  -- ---- the equation of a variable, if there is one
  abbrev sets : ℕ → Equation (Expr At) → Bool
  sets n e = eqb e.name n

  abbrev names_of : List (Equation (Expr At)) → List ℕ
  names_of es = map (λ (e : Equation (Expr At)). e.name) es

  record Only (n : ℕ) (es : List (Equation (Expr At))) : Type 0 where
    place : ℕ
    equation : Equation (Expr At)
    within : place < length es
    at : (d : Equation (Expr At)) → get_or es place d ≡ equation
    name : equation.name ≡ n
    filtered : filter (sets n) es ≡ equation ∷ []

  none_left : (n : ℕ) (es : List (Equation (Expr At))) → All (λ y. y ≢ n) (names_of es)
      → filter (sets n) es ≡ []
  none_left n [] a = refl
  none_left n (e ∷ es) a =
      go (eqb e.name n) refl (none_left n es (All-tail (λ y. y ≢ n) e.name (names_of es) a))
    where
      go : (b : Bool) → eqb e.name n ≡ b → filter (sets n) es ≡ []
          → cond b (e ∷ filter (sets n) es) (filter (sets n) es) ≡ []
      go true h ih = absurd (All-head (λ y. y ≢ n) e.name (names_of es) a (let z : e.name ≡ n =
          grind arith in z))
      go false h ih = ih

  none_set : (n : ℕ) (es : List (Equation (Expr At))) → list_any (sets n) es ≡ false
      → filter (sets n) es ≡ []
  none_set n [] h = refl
  none_set n (e ∷ es) h = go (eqb e.name n) h (none_set n es)
    where
      go : (b : Bool) → (b || list_any (sets n) es) ≡ false → (list_any (sets n) es ≡ false
          → filter (sets n) es ≡ []) → cond b (e ∷ filter (sets n) es) (filter (sets n) es) ≡ []
      go true h ih = absurd (let z : ⊥ = cc in z)
      go false h ih = ih h

  only_one : (n : ℕ) (es : List (Equation (Expr At))) → AreDistinct (names_of es)
      → list_any (sets n) es ≡ true → Only n es
  unfolding AreDistinct
  only_one n [] d h = absurd (let z : ⊥ = cc in z)
  only_one n (e ∷ es) d h = go (eqb e.name n) refl h (only_one n es d.1)
    where
      go : (b : Bool) → eqb e.name n ≡ b → (b || list_any (sets n) es) ≡ true
          → (list_any (sets n) es ≡ true → Only n es) → Only n (e ∷ es)
      go true h q ih =
          let name : e.name ≡ n = grind arith in
          record {
            place = 0;
            equation = e;
            within = omega arith;
            at = λ x. refl;
            name = name;
            filtered = ap (λ b. cond b (e ∷ filter (sets n) es) (filter (sets n) es)) h
                ∙ ap (λ l. e ∷ l) (none_left n es (subst (λ k. All (λ y. y ≢ k) (names_of es)) name
                d.0));
          }
      go false h q ih =
          let i = ih q in
          record {
            place = suc i.place;
            equation = i.equation;
            within = (let l = i.within in omega (arith, l));
            at = i.at;
            name = i.name;
            filtered = ap (λ b. cond b (e ∷ filter (sets n) es) (filter (sets n) es)) h
                ∙ i.filtered;
          }

  -- ---- the start list, one variable after another
  starts_more : (n : ℕ) → starts_to program (suc n) ≡ starts_to program n
      ++ map (collect rationals grevlex) (map (start_polynomial program)
      (filter (sets n) program.init))
  unfolding in_order
  starts_more n = ap (map (collect rationals grevlex)) (map-append (start_polynomial program)
      (in_order n program.init) (filter (sets n) program.init))
      ∙ map-append (collect rationals grevlex) (map (start_polynomial program)
      (in_order n program.init)) (map (start_polynomial program)
      (filter (sets n) program.init))

  pub start_unset : (n : ℕ) → list_any (sets n) program.init ≡ false → starts_to program (suc n)
      ≡ starts_to program n
  start_unset n h = starts_more n
      ∙ ap (λ es. starts_to program n ++ map (collect rationals grevlex)
      (map (start_polynomial program) es)) (none_set n program.init h)
      ∙ append-nil (starts_to program n)

  module _ (n : ℕ) (h : list_any (sets n) program.init ≡ true) {value : Terms Fraction}
      (p : IsPolynomial ℚ grevlex (length program.names) value)
      (is : Same ℚ value (get_or (start_map program) n [])) where
    one : Only n program.init
    one = only_one n program.init w.set_once h

    value_is : Same ℚ value (start_value one.equation)
    value_is =
        let o = one in
        subst (Same ℚ value) (ap (λ k. get_or (start_map program) k []) (sym o.name)
        ∙ ap (λ (e : Equation (Expr At)). get_or (start_map program) e.name [])
        (sym (o.at o.equation)) ∙ start_map_at o.place o.equation o.within
        ∙ ap start_value (o.at o.equation)) is

    -- the value has nothing of the variable
    pub start_other : IsWithout n value
    start_other =
        let o = one in
        let e = o.equation in
        let free : Each (λ t. get_or t.0 e.name 0 ≡ 0) (start_value e) =
        subst (λ (f : Equation (Expr At)). Each (λ t. get_or t.0 f.name 0 ≡ 0) (start_value f))
        (o.at e) (value_without o.place e o.within) in
        let all = without_all e.name (start_value e) free in
        λ k d l. subst (λ i. get_or (get_or value k d).0 i 0 ≡ 0) o.name
        (each_occurring ℚ_ring (λ x. get_or x e.name 0 ≡ 0) (start_value e) all (get_or value k d).0
        (λ z. terms_occur ℚ_ring grevlex grevlex_order m value p k d l
        (value_is.at (get_or value k d).0 ∙ z)))

    made : value_less m n value ≡ collect rationals grevlex (start_polynomial program one.equation)
    unfolding start_polynomial
    made =
        let o = one in
        collected_same m _ _ (arity-append m (variable_at m n) (negate ℚ value) (variable_arity n)
        (arity-negate m ℚ value p.arity)) (arity-append m _ _ (variable_arity o.equation.name)
        (arity-negate m ℚ (start_value o.equation) (value_arity o.equation))) (same_append ℚ_ring
        (subst (λ k. Same ℚ (variable_at m n) (variable_at m k)) (sym o.name)
        (Same-refl ℚ (variable_at m n))) (same_negate ℚ_ring value_is))

    pub start_set : {list : List (Terms Fraction)} (q : Terms Fraction) → list ≡ starts_to program n
        → q ≡ value_less m n value → list ++ q ∷ [] ≡ starts_to program (suc n)
    start_set q a b =
        ap₂ (λ l x. l ++ x ∷ []) a (b ∙ made)
        ∙ ap (λ es. starts_to program n ++ map (collect rationals grevlex)
        (map (start_polynomial program) es)) (sym one.filtered)
        ∙ sym (starts_more n)
