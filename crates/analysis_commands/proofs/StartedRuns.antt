-- A loop of one variable that begins with 1, and whose branch does nothing.
--   one_program          the loop;  A form: the setting of its analysis, where this is the form of its branch
--   first, .., ends      what it does: it begins with x - 1, tests it once, and ends with it
--   never_past, never_long     no state of its analysis is past, and no task is too long
--   run                  the analysis
use Rattle.std.proofs.Common.{◌≡◌, inl, inr, ℕ, zero, suc, pos, List, [], ◌∷◌, slice_get, refl, sym, ap, subst, ◌∙◌, Option, Some, None, arith}
use Rattle.std.specs.Prelude.{◌<◌, slice_index}
use Rattle.algebra.specs.Fraction.{Fraction, fraction, fractions, rationals, whole, opposite, product, sum, inverse}
use Rattle.algebra.specs.Gcd.{gcd, lcm}
use Rattle.algebra.specs.Ratio.{is_lowest, reduce}
use Rattle.algebra.specs.Sum.{sum_over}
use Rattle.algebra.specs.Arithmetic.{power}
use Rattle.algebra.specs.Size.{Size, size, IsPast}
use Rattle.polynomials.specs.Algebra as Algebra
use Rattle.polynomials.specs.Weight.{weight, composition_weight, composition_degrees, degrees, IsPastComposition}
use Rattle.polynomials.specs.Order.{grevlex, compare}
use Rattle.polynomials.specs.Exponent as exponents
use Rattle.polynomials.specs.Exponent.{unit_exponents, plus, same, over}
use Rattle.polynomials.specs.Terms.{Terms, variables, constant, evaluate, monomial_at, retold}
use Rattle.machines.specs.Collect.{collect, insert, place, scale_terms}
use Rattle.machines.specs.Completion as completion
use Rattle.machines.specs.Completion.{with_element, with_elements, degree, next_completion, next_pair}
use Rattle.machines.specs.Cut.{Cutting, all_places, lead_of, tail_of, divides, lead_number, cut_by, find_cut, after_cut, monic}
use Rattle.machines.specs.Division as division
use Rattle.machines.specs.Division.{next_division, next_cut, with_term}
use Rattle.machines.specs.Elimination as elimination
use Rattle.machines.specs.Elimination.{completing, free_part, all_free}
use Rattle.machines.specs.Event.{Cut, Zero}
use Rattle.machines.specs.Journal.{Entry, Begin, Did, Start, Closed}
use Rattle.machines.specs.Pairs.{with_new, skip_covered}
use Rattle.machines.specs.Run.{IsRun}
use Rattle.machines.specs.Tidying as tidying
use Rattle.machines.specs.Tidying.{next_tail, next_drop, drop_from, tail_from, tail_or, by_lead, put_by_lead, ahead}
use Rattle.loops.specs.Effect.{value_of, after_branch}
use Rattle.loops.specs.Map.{branch_map}
use Rattle.loops.specs.Program.{Expr, Program, number}
use Rattle.rounds.specs.Analysis as analysis
use Rattle.rounds.specs.Analysis.{Setting, State, fresh, working, closing, starts, goes, finished, next, moves, starting, block, closing_from}
use Rattle.rounds.specs.Form.{Form}
use Rattle.rounds.specs.Journal.{setting_of}
use Rattle.rounds.specs.Past.{IsPast as IsPastAt}
use Rattle.machines.specs.Past as past
use Rattle.rounds.specs.Start.{start_list, start_polynomial, in_order}
use Rattle.expansion.specs.Counts.{most_terms, factor_terms}
use Rattle.expansion.specs.Lengths.{product_length, power_length}
use Rattle.invariant_fix.specs.Long.{IsLong, task_length}
use Rattle.invariant_fix.proofs.TaskLengths.{fresh_short, starts_short}

abbrev pub one_program : Program (Expr ℕ)
one_program = record {
  names = (120 ∷ []) ∷ [];
  locals = [];
  init =
      record { name = 0; value = number (pos 1) } ∷ [];
  branches = [] ∷ [];
}

abbrev pub one : Fraction
one = whole (pos 1)

abbrev pub less : Terms Fraction
less = (1 ∷ [], one) ∷ (0 ∷ [], opposite one) ∷ []

abbrev pub gens : List (Terms Fraction)
gens = less ∷ []

abbrev pub begun : State
begun = working starts (completing (record {
  basis = gens;
  sugars = 1 ∷ [];
  waiting = [];
  current =
      None;
  pair_sugar = 0;
}))

abbrev pub tested : division.State Fraction → State
tested s = closing 0 0 0 gens s

abbrev pub cut : division.State Fraction
cut = record { current = Some []; cofactors = ((0 ∷ [], one) ∷ []) ∷ [] }

abbrev pub gone : division.State Fraction
gone = record { current = None; cofactors = ((0 ∷ [], one) ∷ []) ∷ [] }

abbrev pub still : List (Terms Fraction)
still = ((1 ∷ [], one) ∷ []) ∷ []

state_of : Option (Entry × State) → State
state_of None = fresh
state_of (Some x) = x.1

module _ (form : Form) where
  abbrev pub A : Setting
  A = record {
    arity = 1;
    starts = gens;
    maps = still ∷ [];
    forms = form ∷ [];
    given = None;
    asked =
        None;
  }

  pub the_setting : setting_of one_program (form ∷ []) None ≡ A
  unfolding start_list start_polynomial in_order value_of variables unit_exponents constant opposite
      Algebra.negate branch_map after_branch collect insert place compare grevlex fraction is_lowest
      gcd reduce
  the_setting = refl

  first : moves A fresh ≡ Some (Begin Start, begun)
  unfolding next starting start_list start_polynomial in_order value_of variables unit_exponents
      constant collect insert place compare grevlex fraction is_lowest reduce gcd opposite
      with_elements with_element monic lead_number with_new degree product inverse scale_terms
      Algebra.negate
  first = refl

  second : moves A begun ≡ Some (Begin (Closed 0 1 1), tested (division.initial_state gens less))
  unfolding next elimination.next completion.next next_completion skip_covered free_part all_free
      block tidying.next next_drop drop_from next_tail tail_from tail_or by_lead put_by_lead ahead
      analysis.after closing_from next_pair collect insert place compare grevlex fraction is_lowest
      reduce gcd opposite product sum evaluate monomial_at sum_over branch_map after_branch
      variables unit_exponents constant scale_terms divides lead_of find_cut cut_by tail_of same
      plus retold Algebra.times Algebra.shift power
  second = refl

  third : moves A (tested (division.initial_state gens less)) ≡ Some (Did (Cut 0), tested cut)
  unfolding next division.next next_division next_cut find_cut cut_by divides lead_of tail_of
      lead_number with_term after_cut over product inverse opposite sum fraction is_lowest reduce
      gcd insert place compare grevlex scale_terms collect plus Algebra.negate Algebra.shift
  third = refl

  fourth : moves A (tested cut) ≡ Some (Did Zero, tested gone)
  unfolding next division.next next_division next_cut find_cut
  fourth = refl

  pub ends : next A (tested gone) ≡ finished 0 gens
  unfolding next division.next next_division closing_from
  ends = refl

-- ---- nothing is past
pub fits : (a : Size) → a.size < 1000 → a.den < 1000 → IsPast a → ⊥
fits a s d (inl l) = omega (arith, s, l)
fits a s d (inr l) = omega (arith, d, l)

monic_less : past.IsPastMonic fractions rationals less → ⊥
unfolding lead_number
monic_less h = h.0 refl

pub no_start : past.IsPastStart fractions rationals gens → ⊥
no_start s = go s.place s.element s.at s.past
  where
    go : (k : ℕ) (p : Terms Fraction) → slice_get gens k ≡ Some p
        → past.IsPastMonic fractions rationals p → ⊥
    go zero p e h = monic_less (subst (past.IsPastMonic fractions rationals) (let x : p ≡ less =
        cc in x) h)
    go (suc k) p e h = absurd (let z : None ≡ Some p = e in cc)

pub composed : IsPastComposition fractions less still → ⊥
unfolding composition_weight composition_degrees weight degrees evaluate monomial_at sum_over power
    fraction is_lowest reduce gcd lcm opposite exponents.lcm plus
composed (inl p) = fits (size 2 1) (omega arith) (omega arith) p
composed (inr h) = h (λ k l. each k l)
  where
    each : (k : ℕ) → k < 1 → slice_index (1 ∷ []) k < 65536
    each zero l = omega arith
    each (suc k) l = absurd (omega (arith, l))

-- the one cutting of what is tested
abbrev the_cutting : Cutting Fraction
the_cutting = record { place = 0; term = (1 ∷ [], one); by = 0 ∷ []; number = one; of = less }

found_is : find_cut rationals all_places gens less ≡ Some the_cutting
unfolding find_cut cut_by divides lead_of lead_number over product inverse fraction is_lowest reduce
    gcd
found_is = refl

cut_fits : past.IsPastCut fractions rationals less the_cutting → ⊥
unfolding lead_number weight degrees fraction is_lowest reduce gcd lcm opposite plus exponents.lcm
cut_fits (inl p) = fits (size 1 1) (omega arith) (omega arith) p
cut_fits (inr (inl p)) = fits (size 4 1) (omega arith) (omega arith) p
cut_fits (inr (inr h)) = h (λ k l. each k l)
  where
    each : (k : ℕ) → k < 1 → slice_index (1 ∷ []) k < 65536
    each zero l = omega arith
    each (suc k) l = absurd (omega (arith, l))

dividing_fits : past.IsPastDivision fractions rationals gens (division.initial_state gens less) → ⊥
dividing_fits h =
    let left : h.left ≡ less = (let x : Some less ≡ Some h.left = h.current in cc) in
    let same : h.cutting ≡ the_cutting =
    (let x : Some the_cutting ≡ Some h.cutting = sym found_is
    ∙ subst (λ p. find_cut rationals all_places gens p ≡ Some h.cutting) left h.found in
    cc) in
    cut_fits (subst (λ p. past.IsPastCut fractions rationals p the_cutting) left
    (subst (past.IsPastCut fractions rationals h.left) same h.past))

none_found : find_cut rationals all_places gens [] ≡ None
unfolding find_cut
none_found = refl

cut_state_fits : past.IsPastDivision fractions rationals gens cut → ⊥
cut_state_fits h =
    let left : h.left ≡ [] = (let x : Some [] ≡ Some h.left = h.current in cc) in
    let z : None ≡ Some h.cutting = sym none_found
    ∙ subst (λ p. find_cut rationals all_places gens p ≡ Some h.cutting) left h.found in
    let y : ⊥ = cc in y

gone_fits : past.IsPastDivision fractions rationals gens gone → ⊥
gone_fits h = let z : None ≡ Some h.left = h.current in let y : ⊥ = cc in y

module _ (form : Form) where
  fits_fresh : IsPastAt (A form) fresh → ⊥
  fits_fresh (inl h) = h
  fits_fresh (inr h) = h

  fits_begun : IsPastAt (A form) begun → ⊥
  unfolding starting start_list start_polynomial in_order value_of variables unit_exponents constant
      collect insert place compare grevlex fraction is_lowest reduce gcd opposite Algebra.negate
      skip_covered free_part all_free block by_lead put_by_lead ahead drop_from tail_from tail_or
      find_cut cut_by divides
      lead_of tail_of retold same lead_number
  fits_begun (inl s) = no_start s
  fits_begun (inr (inl h)) = h
  fits_begun (inr (inr h)) = h.1

  fits_tested : (s : division.State Fraction) → (past.IsPastDivision fractions rationals gens s → ⊥)
      → IsPastAt (A form) (tested s) → ⊥
  fits_tested s not (inl h) = composed h
  fits_tested s not (inr h) = not h

  short_tested : (s : division.State Fraction) → IsLong (A form) (tested s) → ⊥
  unfolding task_length product_length power_length factor_terms most_terms
  short_tested s h = let z : 1048576 < 2 = h in omega (arith, z)

  -- a run stands still, or goes on
  data Goes (u : State) (es : List Entry) (s : State) : Type 0 where
    here : s ≡ u → Goes u es s
    on : (e : Entry) (v : State) (fs : List Entry) → moves (A form) u ≡ Some (e, v)
        → IsRun (moves (A form)) v fs s → Goes u es s

  goes_on : (u : State) (es : List Entry) (s : State) → IsRun (moves (A form)) u es s → Goes u es s
  unfolding IsRun
  goes_on u [] s r = here (sym r)
  goes_on u (e ∷ es) s r = on e r.0 es r.1 r.2

  module _ (P : State → Type 0) where
    -- from u, from which the next state is v, and from v it is so of none
    before : (u v : State) (f : Entry) → moves (A form) u ≡ Some (f, v) → (P u → ⊥)
        → ((es : List Entry) (s : State) → IsRun (moves (A form)) v es s → P s → ⊥)
        → (es : List Entry) (s : State) → IsRun (moves (A form)) u es s → P s → ⊥
    unfolding state_of
    before u v f m not next es s r h = go (goes_on u es s r)
      where
        go : Goes u es s → ⊥
        go (here e) = not (subst P e h)
        go (on e w fs n r) = next fs s (subst (λ x. IsRun (moves (A form)) x fs s)
            (sym (ap state_of (sym m ∙ n))) r) h

    at_end : (u : State) → moves (A form) u ≡ None → (P u → ⊥)
        → (es : List Entry) (s : State) → IsRun (moves (A form)) u es s → P s → ⊥
    at_end u m not es s r h = go (goes_on u es s r)
      where
        go : Goes u es s → ⊥
        go (here e) = not (subst P e h)
        go (on e w fs n r) = absurd (let z : ◌≡◌ {A = Option (Entry × State)} None
            (Some (e, w)) = sym m ∙ n in cc)

    never_at : (P fresh → ⊥) → (P begun → ⊥)
        → (P (tested (division.initial_state gens less)) → ⊥) → (P (tested cut) → ⊥)
        → (P (tested gone) → ⊥) → (es : List Entry) (s : State)
        → IsRun (moves (A form)) fresh es s → P s → ⊥
    never_at a b c d e =
        before fresh begun (Begin Start) (first form) a
        (before begun (tested (division.initial_state gens less)) (Begin (Closed 0 1 1))
        (second form) b
        (before (tested (division.initial_state gens less)) (tested cut) (Did (Cut 0)) (third form)
        c
        (before (tested cut) (tested gone) (Did Zero) (fourth form) d
        (at_end (tested gone) (ap (analysis.move_of (A form)) (ends form)) e))))

  pub never_past : (es : List Entry) (s : State) → IsRun (moves (A form)) fresh es s
      → IsPastAt (A form) s → ⊥
  never_past = never_at (IsPastAt (A form)) fits_fresh fits_begun
      (fits_tested (division.initial_state gens less) dividing_fits)
      (fits_tested cut cut_state_fits) (fits_tested gone gone_fits)

  pub never_long : (es : List Entry) (s : State) → IsRun (moves (A form)) fresh es s
      → IsLong (A form) s → ⊥
  never_long = never_at (IsLong (A form)) (fresh_short (A form)) (starts_short (A form) _)
      (short_tested (division.initial_state gens less)) (short_tested cut) (short_tested gone)

  pub run : IsRun (moves (A form)) fresh (Begin Start ∷ Begin (Closed 0 1 1) ∷ Did (Cut 0)
      ∷ Did Zero ∷ []) (tested gone)
  unfolding IsRun
  run = (
    begun,
    first form,
    (
      tested (division.initial_state gens less),
      second form,
      (tested cut, third form, (tested gone, fourth form, refl)),
    ),
  )
