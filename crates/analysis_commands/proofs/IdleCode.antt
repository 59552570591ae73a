-- Code that leaves the one variable as it is, and its elimination from no polynomials: that what is said of code can be met.
--   x_program bs      the loop of one variable with these branches
--   idle_code         the code x = x
--   idle_mapped          its elimination has ended, with no entry and with no polynomial
--   idle_fits         neither making its list nor what comes next is past
--   idle_unexhausted      no budget is exhausted in it
use Rattle.std.proofs.Common.{◌≡◌, inl, inr, ℕ, zero, suc, ◌<◌, pos, List, [], ◌∷◌, get_or, slice_get, refl, sym, ap, subst, ◌∙◌, arith, Option, Some, None}
use Rattle.algebra.specs.Arithmetic.{power}
use Rattle.algebra.specs.Sum.{sum_over}
use Rattle.algebra.specs.Fraction as fraction_words
use Rattle.algebra.specs.Fraction.{Fraction, fraction, whole, ℚ, rationals, fractions}
use Rattle.algebra.specs.Gcd.{gcd, lcm}
use Rattle.algebra.specs.Ratio.{is_lowest, reduce}
use Rattle.algebra.specs.Size.{Size, size, IsPast}
use Rattle.polynomials.specs.Algebra as Algebra
use Rattle.polynomials.specs.Exponent as exponents
use Rattle.polynomials.specs.Exponent.{unit_exponents}
use Rattle.polynomials.specs.Order.{compare, grevlex, blocks}
use Rattle.polynomials.specs.Terms.{Terms, constant, variables, evaluate, monomial_at}
use Rattle.polynomials.specs.Weight.{weight, degrees, composition_weight, composition_degrees, FitsMonomial, IsPastComposition, IsPastSum}
use Rattle.machines.specs.Collect.{collect, insert, place, scale_terms}
use Rattle.machines.specs.Completion as completion
use Rattle.machines.specs.Completion.{next_completion, next_pair, with_element, with_elements}
use Rattle.machines.specs.Cut.{lead_of, lead_number, monic}
use Rattle.machines.specs.Elimination as elimination
use Rattle.machines.specs.Elimination.{all_free, free_part}
use Rattle.machines.specs.Event.{Event}
use Rattle.machines.specs.Journal.{Entry}
use Rattle.machines.specs.Pairs.{skip_covered, with_new}
use Rattle.machines.specs.Past.{IsPastStart, IsPastMonic, IsPastElimination}
use Rattle.machines.specs.Run.{IsRun, HasEnded}
use Rattle.machines.specs.Tidying as tidying
use Rattle.machines.specs.Tidying.{next_tail, next_drop, drop_from, tail_from, by_lead}
use Rattle.machines.proofs.Working.{work_begun}
use Rattle.loops.specs.Effect.{after_branch, after_statement, store, value_of}
use Rattle.loops.specs.Map.{branch_map}
use Rattle.loops.specs.Program.{Expr, Program, Statement, variable}
use Rattle.corollaries.specs.Between.{starting, value_at_code, IsPastDifference, IsPastMaking, between, IsMapped, IsExhaustedLeading, IsPastLeading}
use Rattle.corollaries.specs.CodeBetween.{variable_of, of_what_was, was}

abbrev pub x_program : List (List (Statement (Expr ℕ))) → Program (Expr ℕ)
x_program bs = record { names = (120 ∷ []) ∷ []; locals = []; init = []; branches = bs }

abbrev pub idle_code : List (Statement (Expr ℕ))
idle_code = record { targets = 0 ∷ []; values = variable 0 ∷ [] } ∷ []

abbrev one : Fraction
one = whole (pos 1)

abbrev minus_one : Fraction
minus_one = ℚ.neg (whole (pos 1))

-- the copy, less the variable
abbrev element : Terms Fraction
element = ((1 ∷ 0 ∷ []), minus_one) ∷ ((0 ∷ 1 ∷ []), one) ∷ []

fits : (a : Size) → a.size < 1000 → a.den < 1000 → IsPast a → ⊥
fits a s d (inl l) = omega (arith, s, l)
fits a s d (inr l) = omega (arith, d, l)

ended_here : HasEnded (elimination.next rationals (blocks 1 grevlex grevlex) grevlex (free_part 1))
    (elimination.initial_state rationals (blocks 1 grevlex grevlex) (element ∷ []))
unfolding elimination.next completion.next next_completion next_pair with_elements with_element
    with_new skip_covered
    tidying.next next_drop drop_from next_tail tail_from by_lead free_part all_free lead_of
    lead_number
    monic scale_terms
    exponents.same fraction fraction_words.product fraction_words.opposite fraction_words.inverse
    is_lowest reduce gcd
ended_here = refl

nothing_kept : [] ≡ elimination.list_of grevlex (free_part 1)
    (elimination.initial_state rationals (blocks 1 grevlex grevlex) (element ∷ []))
unfolding with_elements with_element free_part all_free lead_of lead_number monic scale_terms
    by_lead
    exponents.same fraction fraction_words.product fraction_words.opposite fraction_words.inverse
    is_lowest reduce gcd
nothing_kept = refl

-- ---- nothing is past
monic_fits : IsPastMonic fractions rationals element → ⊥
unfolding lead_number weight fraction fraction_words.opposite is_lowest gcd lcm
monic_fits h = fits (size 2 1) (omega arith) (omega arith) h.1

start_fits : IsPastStart fractions rationals (element ∷ []) → ⊥
start_fits s = go s.place s.element s.at s.past
  where
    go : (place : ℕ) (e : Terms Fraction) → slice_get (element ∷ []) place ≡ Some e
        → IsPastMonic fractions rationals e → ⊥
    go zero e at past = (
        let same : element ≡ e = cc in
        monic_fits (subst (IsPastMonic fractions rationals) (sym same) past))
    go (suc n) e at past = cc

next_fits : IsPastElimination fractions rationals (blocks 1 grevlex grevlex) grevlex (free_part 1)
    (elimination.initial_state rationals (blocks 1 grevlex grevlex) (element ∷ [])) → ⊥
unfolding with_elements with_element with_new skip_covered free_part all_free lead_of lead_number
    monic scale_terms
    drop_from tail_from by_lead exponents.same fraction fraction_words.product
    fraction_words.opposite
    fraction_words.inverse is_lowest reduce gcd
next_fits (inl h) = h
next_fits (inr h) = h.1

abbrev copy : Terms Fraction
copy = ((1 ∷ 0 ∷ []), one) ∷ []

fits_exponents : FitsMonomial (1 ∷ 0 ∷ [])
fits_exponents zero l = omega arith
fits_exponents (suc zero) l = omega arith
fits_exponents (suc (suc i)) l = absurd (omega (arith, l))

module _ (bs : List (List (Statement (Expr ℕ)))) where
  code_map : branch_map (x_program bs) idle_code ≡ ((1 ∷ [], one) ∷ []) ∷ []
  unfolding branch_map after_branch after_statement store value_of variables unit_exponents
  code_map = refl

  list_is : starting (x_program bs) idle_code [] ≡ element ∷ []
  unfolding branch_map after_branch after_statement store value_of variables unit_exponents constant
      evaluate monomial_at sum_over exponents.plus collect insert place compare blocks grevlex
      fraction fraction_words.sum fraction_words.product fraction_words.opposite is_lowest reduce
      gcd lcm Algebra.negate Algebra.times Algebra.shift power
  list_is = refl

  value_is : value_at_code (x_program bs) idle_code 0 ≡ ((1 ∷ [], one) ∷ [])
  unfolding branch_map after_branch after_statement store value_of variables unit_exponents collect
      insert fraction is_lowest gcd
  value_is = refl

  was_is : was 1 idle_code ≡ copy ∷ []
  unfolding variables unit_exponents
  was_is = refl

  composition_fits : IsPastComposition fractions ((1 ∷ [], one) ∷ []) (copy ∷ []) → ⊥
  unfolding composition_weight composition_degrees evaluate monomial_at sum_over weight degrees
      exponents.lcm exponents.plus power lcm gcd fraction is_lowest
  composition_fits (inl p) = fits (size 1 1) (omega arith) (omega arith) p
  composition_fits (inr h) = h fits_exponents

  put_is : of_what_was (x_program bs) idle_code ((1 ∷ [], one) ∷ []) ≡ copy
  unfolding variables unit_exponents constant evaluate monomial_at sum_over exponents.plus
      fraction fraction_words.product is_lowest reduce gcd lcm Algebra.times Algebra.shift power
  put_is = refl

  sum_fits : IsPastSum fractions (variable_of 2 1) (collect rationals grevlex copy) → ⊥
  unfolding variables unit_exponents weight collect insert fraction is_lowest gcd lcm
  sum_fits p = fits (size 2 1) (omega arith) (omega arith) p

  difference_fits : IsPastDifference (x_program bs) idle_code 0 → ⊥
  difference_fits (inl p) =
      composition_fits (subst (IsPastComposition fractions ((1 ∷ [], one) ∷ []))
      was_is (subst (λ f. IsPastComposition fractions f (was 1 idle_code)) value_is p))
  difference_fits (inr p) = sum_fits (subst (λ f. IsPastSum fractions (variable_of 2 1)
      (collect rationals grevlex f)) put_is
      (subst (λ f. IsPastSum fractions (variable_of 2 1)
      (collect rationals grevlex (of_what_was (x_program bs) idle_code f))) value_is p))

  making_fits : IsPastMaking (x_program bs) idle_code [] → ⊥
  making_fits (inl (i, g, l, at, p)) = omega (arith, l)
  making_fits (inr (i, y, l, at, p)) = go i l at
    where
      go : (i : ℕ) → i < 1 → get_or (0 ∷ []) i y ≡ y → ⊥
      go zero l at = difference_fits (subst (IsPastDifference (x_program bs) idle_code) (sym at) p)
      go (suc i) l at = omega (arith, l)

  -- ---- what is known of its elimination
  ended : HasEnded (between (x_program bs) idle_code []).next
      (between (x_program bs) idle_code []).start
  ended = subst (λ l. HasEnded (elimination.next rationals (blocks 1 grevlex grevlex) grevlex
      (free_part 1)) (elimination.initial_state rationals (blocks 1 grevlex grevlex) l))
      (sym list_is) ended_here

  pub idle_mapped : IsMapped (x_program bs) idle_code [] [] []
  idle_mapped = record {
    last = (between (x_program bs) idle_code []).start;
    finished = record {
      work = work_begun (between (x_program bs) idle_code []).next
          (between (x_program bs) idle_code []).start [];
      ended = ended;
    };
    list = subst (λ l. [] ≡ elimination.list_of grevlex (free_part 1)
        (elimination.initial_state rationals (blocks 1 grevlex grevlex) l)) (sym list_is)
        nothing_kept;
  }

  -- nothing has been done in it
  only_start : (events : List Event) (s : elimination.State Fraction)
      → IsRun (between (x_program bs) idle_code []).next
      (between (x_program bs) idle_code []).start events s
      → (between (x_program bs) idle_code []).start ≡ s
  unfolding IsRun
  only_start [] s r = r
  only_start (e ∷ events) s (u, n, r) =
      absurd (let z : ◌≡◌ {A = Option (Event × elimination.State Fraction)} None (Some (e, u)) =
      sym ended ∙ n in cc)

  pub idle_fits : (es : List Entry) → IsPastLeading (x_program bs) idle_code [] es → ⊥
  idle_fits es (inl p) =
      next_fits (subst (λ l. IsPastElimination fractions rationals (blocks 1 grevlex grevlex)
      grevlex (free_part 1) (elimination.initial_state rationals (blocks 1 grevlex grevlex) l))
      list_is
      (subst (IsPastElimination fractions rationals (blocks 1 grevlex grevlex) grevlex
      (free_part 1))
      (sym (only_start p.work.events p.at p.work.run)) p.past))
  idle_fits es (inr (none, inl p)) = making_fits p
  idle_fits es (inr (none, inr p)) = start_fits (subst (IsPastStart fractions rationals) list_is p)

  pub idle_unexhausted : (limit : ℕ) (es : List Entry)
      → IsExhaustedLeading (x_program bs) idle_code [] limit es → ⊥
  idle_unexhausted limit es h =
      let z : ◌≡◌ {A = Option (Event × elimination.State Fraction)} None
      (Some (h.event, h.following)) =
      sym ended ∙ ap (between (x_program bs) idle_code []).next
      (only_start h.work.events h.at h.work.run) ∙ h.comes in
      let q : ⊥ = cc in q
