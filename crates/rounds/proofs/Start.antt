-- The start list generates the polynomials that are zero at every start.
--   passes_start            what is zero at each start is, composed with the start map, zero
--   start_list_generates    the members of the start list's ideal are what is zero at each start
--   start_list_arity        the start list has polynomials in the program's variables
--   zero_member             what is zero at each start is in its ideal
use Rattle.std.proofs.Common.{◌≡◌, ℕ, zero, suc, ◌<◌, ◌⊎◌, inl, inr, Bool, true, false, cond, eqb, List, [], ◌∷◌, ◌++◌, map, get_or, set, length, arith, refl, sym, ap, ap₂, subst, ◌∙◌, All, filter}
use Rattle.std.specs.List.{AllZip}
use Rattle.std.proofs.lemmas.Bool.{eq-eqb}
use Rattle.std.proofs.lemmas.List.Elements.{All-nil, All-head, All-tail, All-append, All-filter, All-map, All-weaker}
use Rattle.algebra.specs.Ring.{CommRing}
use Rattle.algebra.proofs.Each.{each-map, each_of}
use Rattle.algebra.specs.Fraction.{Fraction, ℚ}
use Rattle.algebra.proofs.Fractions.{ℚ_ring, ℚ_zero_test}
use Rattle.polynomials.specs.Terms.{Terms, Same, constant, variables, lists, negate, combination, value_at}
use Rattle.polynomials.specs.Polynomial.{Arity, AllArity}
use Rattle.polynomials.proofs.Arity.{arity-compose, arity-variables}
use Rattle.polynomials.proofs.Composition.{poly-compose, same_compose-variables}
use Rattle.polynomials.proofs.Poly.{Poly, poly, poly_ring, poly_same, poly-nil, poly-append, poly-negate, poly_constant, poly_evaluate-list}
use Rattle.polynomials.proofs.ValueAt.{combination_zero, value_at_same, value_at-variables}
use Rattle.ideals.specs.Ideal.{InIdeal, IsCongruent}
use Rattle.ideals.specs.Members.{IsMember}
use Rattle.ideals.proofs.Ideal.{in_ideal_same, in_ideal_zero, in_ideal_head, in_ideal_tail}
use Rattle.ideals.proofs.Members.{member_out}
use Rattle.loops.specs.Program.{Expr, Program, Equation, variable}
use Rattle.loops.specs.Effect.{value_of, store, after_statement, init_statement, start_from}
use Rattle.loops.specs.Run.{IsState, value}
use Rattle.loops.specs.Map.{start_map, composition}
use Rattle.loops.specs.WellFormed.{IsWellFormed}
use Rattle.loops.proofs.Effects.{value_in, to-value_of}
use Rattle.loops.proofs.Invariants.{start_from_is}
use Rattle.loops.proofs.Maps.{value_at_start, arity-start_map, arity_closed, value_at_carries}
use Rattle.rounds.specs.Word.{IsZeroAtStarts}
use Rattle.rounds.specs.Generate.{Generates}
use Rattle.rounds.specs.Start.{start_polynomial, in_order, start_list}
use Rattle.polynomials.proofs.ByValues.{zero_by_values}
use Rattle.ideals.proofs.Congruence.{congruent_same, congruent_refl, congruent_member, congruent_gather}

module _ {At : Type 0} (program : Program (Expr At)) where
  abbrev m : ℕ
  m = length program.names

  pub passes_start : IsWellFormed program → (p : Terms Fraction) → Arity (length program.names) p
      → IsZeroAtStarts program p → Same ℚ (composition program p (start_map program)) []
  passes_start w p a h = zero_by_values m (composition program p (start_map program))
      (arity-compose m ℚ p (start_map program) (arity-start_map program))
      (λ s is. value_at_start program p s is ∙ h.zero _ (start_from_is program w s is))

  -- ---- the equations that set a variable below m, in order, are those of init
  In : Equation (Expr At) → List (Equation (Expr At)) → Type 0
  In e [] = ⊥
  In e (f ∷ fs) = (e ≡ f) ⊎ In e fs

  in_left : (e : Equation (Expr At)) (fs hs : List (Equation (Expr At))) → In e fs → In e (fs ++ hs)
  unfolding In
  in_left e [] hs i = absurd i
  in_left e (f ∷ fs) hs (inl h) = inl h
  in_left e (f ∷ fs) hs (inr h) = inr (in_left e fs hs h)

  in_right : (e : Equation (Expr At)) (fs hs : List (Equation (Expr At))) → In e hs
      → In e (fs ++ hs)
  unfolding In
  in_right e [] hs i = i
  in_right e (f ∷ fs) hs i = inr (in_right e fs hs i)

  in_filter : (e : Equation (Expr At)) (n : ℕ) (fs : List (Equation (Expr At)))
      → eqb e.name n ≡ true → In e fs → In e (filter (λ (e : Equation (Expr At)). eqb e.name n) fs)
  unfolding In
  in_filter e n [] t i = absurd i
  in_filter e n (f ∷ fs) t (inl h) =
      go (eqb f.name n) (ap (λ (x : Equation (Expr At)). eqb x.name n) (sym h) ∙ t)
    where
      go : (b : Bool) → b ≡ true
          → In e (cond b (f ∷ filter (λ (e : Equation (Expr At)). eqb e.name n) fs)
          (filter (λ (e : Equation (Expr At)). eqb e.name n) fs))
      go true t = inl h
      go false t = absurd (cc)
  in_filter e n (f ∷ fs) t (inr h) = go (eqb f.name n) (in_filter e n fs t h)
    where
      go : (b : Bool) → In e (filter (λ (e : Equation (Expr At)). eqb e.name n) fs)
          → In e (cond b (f ∷ filter (λ (e : Equation (Expr At)). eqb e.name n) fs)
          (filter (λ (e : Equation (Expr At)). eqb e.name n) fs))
      go true i = inr i
      go false i = i

  in_in_order : (e : Equation (Expr At)) (n : ℕ) (fs : List (Equation (Expr At))) → e.name < n
      → In e fs → In e (in_order n fs)
  unfolding in_order
  in_in_order e zero fs l i = absurd (omega arith)
  in_in_order e (suc n) fs l i = go (grind arith) (λ k. in_in_order e n fs k i)
    where
      go : (e.name < n) ⊎ (e.name ≡ n) → (e.name < n → In e (in_order n fs))
          → In e (in_order n fs ++ filter (λ (e : Equation (Expr At)). eqb e.name n) fs)
      go (inl k) h = in_left e (in_order n fs) _ (h k)
      go (inr s) h = in_right e (in_order n fs) _ (in_filter e n fs (eq-eqb e.name n s) i)

  all_in_order : (P : Equation (Expr At) → Type 0) (n : ℕ) (fs : List (Equation (Expr At)))
      → All P fs → All P (in_order n fs)
  unfolding in_order
  all_in_order P zero fs h = All-nil P
  all_in_order P (suc n) fs h = All-append P (in_order n fs) _ (all_in_order P n fs h)
      (All-filter (λ (e : Equation (Expr At)). eqb e.name n) P fs h)

  -- ---- what the start list is made of
  vars : List (Terms Fraction)
  vars = variables ℚ m

  vars_arity : AllArity m vars
  unfolding vars
  vars_arity = arity-variables m ℚ

  start_value : Equation (Expr At) → Terms Fraction
  start_value e = value_of (lists ℚ m) (constant m) vars e.value

  polynomial_arity : (e : Equation (Expr At)) → Arity m (start_polynomial program e)
  unfolding start_polynomial vars value_of
  polynomial_arity e = (arity_closed m).add_in _ _
      (value_in (lists ℚ m) (constant m) (Arity m) (arity_closed m) {At = At} vars vars_arity
      (variable e.name))
      ((arity_closed m).neg_in _ (value_in (lists ℚ m) (constant m) (Arity m) (arity_closed m) vars
      vars_arity e.value))

  pub start_list_arity : AllArity m (start_list program)
  unfolding start_list
  start_list_arity = each-map (Arity m) (start_polynomial program) (in_order m program.init)
      (each_of (λ e. Arity m (start_polynomial program e)) polynomial_arity
      (in_order m program.init))

  -- ---- members are zero at starts
  value_there : (s : List Fraction) → IsState program s → (e : Expr At)
      → value_at ℚ (value_of (lists ℚ m) (constant m) vars e) s ≡ value e s
  unfolding vars
  value_there s is e =
      to-value_of (lists ℚ m) ℚ (constant m) (λ c. c) (λ p. value_at ℚ p s) (value_at_carries m s)
      vars e
      ∙ ap (λ t. value_of ℚ (λ c. c) t e) (value_at-variables ℚ_ring m s is)

  polynomial_zero : (s : List Fraction) → IsState program s → (e : Equation (Expr At))
      → get_or s e.name ℚ.zero ≡ value e.value s → value_at ℚ (start_polynomial program e) s
      ≡ ℚ.zero
  unfolding start_polynomial start_value vars value_of
  polynomial_zero s is e h =
      (value_at_carries m s).to-add (get_or vars e.name []) (negate ℚ (start_value e))
      ∙ ap₂ ℚ.add (value_there s is (variable e.name)) ((value_at_carries m s).to-neg
      (start_value e) ∙ ap ℚ.neg (value_there s is e.value))
      ∙ ap (λ x. ℚ.add x (ℚ.neg (value e.value s))) h
      ∙ ℚ_ring.add-neg (value e.value s)

  pub members_zero : (p : Terms Fraction) → IsMember ℚ m (start_list program) p
      → IsZeroAtStarts program p
  unfolding start_list
  members_zero p i = record {
    zero = λ s is.
        value_at_same ℚ_ring p (combination ℚ i.cofactors (start_list program)) s i.is
        ∙ combination_zero ℚ_ring i.cofactors (start_list program) s
        (All-map (λ g. value_at ℚ g s ≡ ℚ.zero) (start_polynomial program) (in_order m program.init)
        (All-weaker (λ (e : Equation (Expr At)). get_or s e.name ℚ.zero ≡ value e.value s)
        (λ (e : Equation (Expr At)). value_at ℚ (start_polynomial program e) s ≡ ℚ.zero)
        (λ e h. polynomial_zero s is.state e h)
        (in_order m program.init) (all_in_order (λ (e : Equation (Expr At)). get_or s e.name ℚ.zero
        ≡ value e.value s) m program.init is.holds)));
  }

  -- ---- and what is zero at starts is a member
  abbrev P : CommRing (Poly m ℚ_ring)
  P = poly_ring m ℚ_ring

  abbrev of : Terms Fraction → Poly m ℚ_ring
  of p = poly m ℚ_ring p

  abbrev G : List (Poly m ℚ_ring)
  G = map (poly m ℚ_ring) (start_list program)

  Near : List (Terms Fraction) → List (Terms Fraction) → Type 0
  Near xs ys = AllZip (IsCongruent P G) (map (λ p. of p) xs) (map (λ p. of p) ys)

  near_itself : (xs : List (Terms Fraction)) → Near xs xs
  unfolding Near
  near_itself [] = tt
  near_itself (x ∷ xs) = (congruent_refl P G (of x), near_itself xs)

  near_set : (xs ys : List (Terms Fraction)) (i : ℕ) (y : Terms Fraction) → Near xs ys
      → IsCongruent P G (of (get_or xs i [])) (of y) → Near xs (set ys i y)
  unfolding Near
  near_set [] [] i y h c = tt
  near_set [] (b ∷ ys) i y h c = absurd h
  near_set (a ∷ xs) [] i y h c = absurd h
  near_set (a ∷ xs) (b ∷ ys) zero y h c = (c, h.1)
  near_set (a ∷ xs) (b ∷ ys) (suc i) y h c = (h.0, near_set xs ys i y h.1 c)

  in_generators : (e : Equation (Expr At)) (es : List (Equation (Expr At))) → In e es
      → InIdeal P (map of (map (start_polynomial program) es)) (of (start_polynomial program e))
  unfolding In
  in_generators e [] i = absurd i
  in_generators e (f ∷ es) (inl h) = in_ideal_same P (ap (λ x. of (start_polynomial program x)) h)
      (in_ideal_head P)
  in_generators e (f ∷ es) (inr h) = in_ideal_tail P (in_generators e es h)

  -- the variable that an equation of init sets is congruent to its value
  set_congruent : (e : Equation (Expr At)) → e.name < m → In e program.init
      → IsCongruent P G (of (get_or vars e.name [])) (of (start_value e))
  unfolding start_list start_polynomial start_value vars value_of
  set_congruent e l i = record {
    difference = in_ideal_same P
        (sym (poly-append m ℚ_ring (get_or vars e.name []) (negate ℚ (start_value e))
        ∙ ap (P.add (of (get_or vars e.name []))) (poly-negate m ℚ_ring (start_value e))))
        (in_generators e (in_order m program.init) (in_in_order e m program.init l i));
  }

  near_store : (es : List (Equation (Expr At))) (ys : List (Terms Fraction))
      → ((e : Equation (Expr At)) → In e es → IsCongruent P G (of (get_or vars e.name []))
      (of (start_value e))) → Near vars ys
      → Near vars (store (map (λ (e : Equation (Expr At)). e.name) es)
      (map (value_of (lists ℚ m) (constant m) vars) (map (λ (e : Equation (Expr At)). e.value)
      es)) ys)
  unfolding store start_value In
  near_store [] ys h n = n
  near_store (e ∷ es) ys h n = near_store es (set ys e.name (start_value e)) (λ f i. h f (inr i))
      (near_set vars ys e.name (start_value e) n (h e (inl refl)))

  in_all : (Q : Equation (Expr At) → Type 0) (es : List (Equation (Expr At))) → All Q es
      → (e : Equation (Expr At)) → In e es → Q e
  unfolding In
  in_all Q [] h e i = absurd i
  in_all Q (f ∷ es) h e (inl s) = subst Q (sym s) (All-head Q f es h)
  in_all Q (f ∷ es) h e (inr i) = in_all Q es (All-tail Q f es h) e i

  near_start_map : IsWellFormed program → Near vars (start_map program)
  unfolding start_map start_from after_statement init_statement vars
  near_start_map w = near_store program.init vars (λ e i.
      set_congruent e (in_all (λ (e : Equation (Expr At)). e.name < m) program.init w.set e i) i)
      (near_itself vars)

  start_congruent : IsWellFormed program → (p : Terms Fraction) → Arity m p
      → IsCongruent P G (of p) (of (composition program p (start_map program)))
  unfolding Near vars
  start_congruent w p a =
      let f = poly_constant m ℚ_ring in
      congruent_same P G
      (sym (poly_same m ℚ_ring (same_compose-variables ℚ_ring m p a))
      ∙ poly-compose ℚ_ring m m p vars a ∙ poly_evaluate-list m f (map (λ q. of q) vars) p a)
      (poly-compose ℚ_ring m m p (start_map program) a
      ∙ poly_evaluate-list m f (map (λ q. of q) (start_map program)) p a)
      (congruent_gather P G f (map (λ q. of q) vars) (map (λ q. of q) (start_map program)) p
      (near_start_map w))

  pub zero_member : IsWellFormed program → (p : Terms Fraction) → Arity m p
      → IsZeroAtStarts program p → IsMember ℚ m (start_list program) p
  zero_member w p a h = member_out m ℚ_ring ℚ_zero_test (start_list program) p start_list_arity a
      (congruent_member P G (of p) (of (composition program p (start_map program)))
      (start_congruent w p a)
      (in_ideal_same P (poly_same m ℚ_ring (passes_start w p a h) ∙ poly-nil m ℚ_ring)
      (in_ideal_zero P)))

  pub start_list_generates : IsWellFormed program
      → Generates (length program.names) (start_list program) (IsZeroAtStarts program)
  start_list_generates w = record {
    arities = start_list_arity;
    only = λ p a i. members_zero p i;
    all = λ p a h. zero_member w p a h;
  }
