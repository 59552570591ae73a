-- Loops with the setting of StartedRuns, and the elimination behind their analysis where the one variable is shown.
--   never_past_of, never_long_of     no state of their analysis is past, and no task is too long
--   one_basis            it ends with one list
--   ended_elimination    the elimination from this list has nothing to do
--   behind_fits          nothing of it is past
use Rattle.std.proofs.Common.{◌≡◌, inl, inr, ℕ, zero, suc, List, [], ◌∷◌, length, refl, sym, ap, subst, ◌∙◌, Option, Some, None, arith}
use Rattle.std.proofs.lemmas.List.{append-nil}
use Rattle.algebra.specs.Fraction as Fraction
use Rattle.algebra.specs.Fraction.{Fraction, fraction, fractions, rationals, opposite, product, sum, inverse}
use Rattle.algebra.specs.Gcd.{gcd}
use Rattle.algebra.specs.Ratio.{is_lowest, reduce}
use Rattle.algebra.specs.Sum.{sum_over}
use Rattle.algebra.specs.Arithmetic.{power}
use Rattle.polynomials.specs.Algebra as Algebra
use Rattle.polynomials.specs.Order.{grevlex, compare, blocks}
use Rattle.polynomials.specs.Exponent.{unit_exponents, plus, same}
use Rattle.polynomials.specs.Terms.{Terms, variables, constant, evaluate, monomial_at, retold}
use Rattle.polynomials.specs.Weight.{IsPastComposition}
use Rattle.machines.specs.Collect.{collect, insert, place, scale_terms}
use Rattle.machines.specs.Completion as completion
use Rattle.machines.specs.Completion.{with_element, with_elements, degree, next_completion, next_pair}
use Rattle.machines.specs.Cut.{lead_of, tail_of, divides, lead_number, cut_by, find_cut, monic}
use Rattle.machines.specs.Elimination as elimination
use Rattle.machines.specs.Elimination.{completing, free_part, all_free}
use Rattle.machines.specs.Event.{Event, Cut, Zero}
use Rattle.machines.specs.Journal.{Entry, Begin, Did, Start, Closed}
use Rattle.machines.specs.Pairs.{with_new, skip_covered}
use Rattle.machines.specs.Past as past
use Rattle.machines.specs.Run.{IsRun}
use Rattle.machines.specs.Tidying as tidying
use Rattle.machines.specs.Tidying.{next_tail, next_drop, drop_from, tail_from, tail_or, by_lead, put_by_lead, ahead}
use Rattle.machines.proofs.Runs.{ended_unique}
use Rattle.loops.specs.Program.{Expr, Program}
use Rattle.rounds.specs.Analysis.{Setting, State, Step, fresh, finished, next, moves, move_of}
use Rattle.rounds.specs.Form.{Form}
use Rattle.rounds.specs.Journal.{setting_of, Follows, IsFinished}
use Rattle.rounds.specs.Past.{IsPast as IsPastAt}
use Rattle.corollaries.specs.Order.{place_in, starting, block_order}
use Rattle.corollaries.specs.Journal.{elimination_from, IsPastOrdering, IsPastBehind, IsEliminated, list_of}
use Rattle.loops.specs.Turning.{places}
use Rattle.invariant_fix.specs.Long.{IsLong}
use Rattle.analysis_commands.proofs.StartedRuns.{gens, still, tested, gone, A, run, ends, never_past, never_long, composed, no_start}

abbrev pub the_entries : List Entry
the_entries = Begin Start ∷ Begin (Closed 0 1 1) ∷ Did (Cut 0) ∷ Did Zero ∷ []

list_in : Step → List (Terms Fraction)
list_in (finished k gs) = gs
list_in s = []

module _ (program : Program (Expr ℕ)) (one_branch : length program.branches ≡ 1)
    (set : (f : Form) → setting_of program (f ∷ []) None ≡ A f) where
  pub never_past_of : (es : List Entry) (s : State) (f : Follows program None es s)
      → IsPastAt (setting_of program f.forms None) s → ⊥
  never_past_of es s f p = go f.forms (f.are_forms.count ∙ one_branch) f.run p
    where
      go : (fs : List Form) → length fs ≡ 1 → IsRun (moves (setting_of program fs None)) fresh es s
          → IsPastAt (setting_of program fs None) s → ⊥
      go [] l r p = absurd (omega (arith, l))
      go (x ∷ []) l r p = never_past x es s
          (subst (λ (B : Setting). IsRun (moves B) fresh es s) (set x) r)
          (subst (λ (B : Setting). IsPastAt B s) (set x) p)
      go (x ∷ y ∷ fs) l r p = absurd (omega (arith, l))

  pub never_long_of : (es : List Entry) (s : State) (f : Follows program None es s)
      → IsLong (setting_of program f.forms None) s → ⊥
  never_long_of es s f p = go f.forms (f.are_forms.count ∙ one_branch) f.run p
    where
      go : (fs : List Form) → length fs ≡ 1 → IsRun (moves (setting_of program fs None)) fresh es s
          → IsLong (setting_of program fs None) s → ⊥
      go [] l r p = absurd (omega (arith, l))
      go (x ∷ []) l r p = never_long x es s
          (subst (λ (B : Setting). IsRun (moves B) fresh es s) (set x) r)
          (subst (λ (B : Setting). IsLong B s) (set x) p)
      go (x ∷ y ∷ fs) l r p = absurd (omega (arith, l))

  pub one_basis : (es : List Entry) (k : ℕ) (gs : List (Terms Fraction))
      → IsFinished program es k gs
      → gens ≡ gs
  unfolding list_in
  one_basis es k gs c = go c.follows.forms (c.follows.are_forms.count ∙ one_branch) c.follows.run
      c.is
    where
      go : (fs : List Form) → length fs ≡ 1
          → IsRun (moves (setting_of program fs None)) fresh es c.state
          → next (setting_of program fs None) c.state ≡ finished k gs → gens ≡ gs
      go [] l r e = absurd (omega (arith, l))
      go (x ∷ []) l r e =
          let here = subst (λ (B : Setting). IsRun (moves B) fresh es c.state) (set x) r in
          let is = subst (λ (B : Setting). next B c.state ≡ finished k gs) (set x) e in
          let u = ended_unique (moves (A x)) fresh (tested gone) c.state the_entries es (run x)
          (ap (move_of (A x)) (ends x)) here (ap (move_of (A x)) is) in
          ap list_in (sym (ends x) ∙ ap (next (A x)) u.1 ∙ is)
      go (x ∷ y ∷ fs) l r e = absurd (omega (arith, l))

-- ---- the elimination
abbrev shown : List ℕ
shown = 0 ∷ []

starting_is : starting 1 shown gens ≡ gens
unfolding starting place_in places variables unit_exponents evaluate monomial_at sum_over power
    collect insert place compare blocks grevlex fraction is_lowest reduce gcd opposite product
    Fraction.sum scale_terms Algebra.times Algebra.shift plus constant retold
starting_is = refl

abbrev E0 : elimination.State Fraction
E0 = completing (record {
  basis = gens;
  sugars = 1 ∷ [];
  waiting = [];
  current = None;
  pair_sugar = 0;
})

start_is : (elimination_from 1 shown gens).start ≡ E0
unfolding starting place_in places variables unit_exponents evaluate monomial_at sum_over power
    collect insert place compare blocks grevlex fraction is_lowest reduce gcd opposite product
    Fraction.sum scale_terms Algebra.times Algebra.shift plus constant retold with_elements
    with_element monic lead_number with_new degree inverse
start_is = refl

at_rest : (elimination_from 1 shown gens).next E0 ≡ None
unfolding places elimination.next completion.next next_completion skip_covered free_part all_free
    tidying.next next_drop drop_from next_tail tail_from tail_or by_lead put_by_lead ahead next_pair
    divides lead_of find_cut
    cut_by tail_of same retold
at_rest = refl

list_is : list_of 1 shown E0 ≡ gens
unfolding places free_part all_free by_lead put_by_lead ahead lead_of same retold
list_is = refl

pub ended_elimination : (es : List Entry) → IsEliminated 1 shown es es gens gens
unfolding IsRun
ended_elimination es = record {
  last = E0;
  finished = record {
    work = record { events = []; entries = sym (append-nil es); run = start_is };
    ended = at_rest;
  };
  list = sym list_is;
}

rest_fits : past.IsPastElimination fractions rationals (block_order 1 shown) grevlex (free_part 0)
    E0 → ⊥
unfolding places skip_covered free_part all_free by_lead put_by_lead ahead drop_from tail_from
    tail_or find_cut cut_by divides
    lead_of tail_of retold same lead_number
rest_fits (inl h) = h
rest_fits (inr h) = h.1

ordering_fits : IsPastOrdering 1 shown gens → ⊥
unfolding places place_in variables unit_exponents
ordering_fits (zero, g, l, e, c) =
    composed (subst (λ p. IsPastComposition fractions p still) (sym e) c)
ordering_fits (suc i, g, l, e, c) = absurd (omega (arith, l))

pub behind_fits : (fs es : List Entry) → IsPastBehind 1 shown fs es gens → ⊥
unfolding IsRun places
behind_fits fs es (inl p) = go p.work.events p.work.run p.past
  where
    go : (events : List Event)
        → IsRun (elimination_from 1 shown gens).next (elimination_from 1 shown gens).start events
        p.at
        → (elimination_from 1 shown gens).IsPastNext p.at → ⊥
    go [] r h = rest_fits (subst (elimination_from 1 shown gens).IsPastNext (sym r ∙ start_is) h)
    go (e ∷ events) r h = absurd (let z : ◌≡◌ {A = Option (Event × elimination.State Fraction)} None
        (Some (e, r.0)) = sym at_rest
        ∙ subst (λ s. (elimination_from 1 shown gens).next s ≡ Some (e, r.0)) start_is r.1 in cc)
behind_fits fs es (inr h) = elim h.1 [
  | inl ordering ↦ ordering_fits ordering
  | inr start ↦ no_start (subst (past.IsPastStart fractions rationals) starting_is start)
]
