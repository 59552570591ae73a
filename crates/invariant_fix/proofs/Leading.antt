-- The elimination of code, as code does it.
--   values_count, values_over      the values behind the code, one for each variable
--   list_is, past_is         the list that is made is that of the code, and where making it is past
--   AreMade                  the list that an elimination begins with, as code has it, where it isn't empty;  made_first, made_arity, made_count
--   ran_so                   what is done with it;  over_made, few_mapped: over how many variables what comes of it is, and how much that is
--   ran_nothing              where there is nothing to be eliminated from
--   empty_start, made_so     whether there is, as code sees it;  few_out: few_mapped, of a result
use Rattle.std.proofs.Common.{◌≡◌, ◌≢◌, ◌⊎◌, inl, inr, Vec, Global, ℕ, ◌+◌, ◌<◌, ◌≤◌, List, [], ◌∷◌, ◌++◌, map, get_or, length, vec_len, refl, sym, ap, ap₂, subst, ◌∙◌, arith}
use Rattle.std.specs.List.{Any}
use Rattle.std.specs.Prelude.{eqb, true, false, Result, Ok, Err, IfOk}
use Rattle.std.proofs.lemmas.Bool.{eqb-true, eqb-false}
use Rattle.std.proofs.lemmas.List.{append-nil, nil_from_length, length-map, length-append, get_or-map, map-append}
use Rattle.std.proofs.lemmas.Simd.{map-map}
use Rattle.algebra.specs.Fraction.{Fraction, ℚ, rationals, fractions}
use Rattle.algebra.proofs.Fractions.{ℚ_field, ℚ_ring}
use Rattle.polynomials.specs.Order.{grevlex, blocks}
use Rattle.polynomials.specs.Terms.{Terms, Same, negate, variables}
use Rattle.polynomials.specs.Polynomial.{Arity, AllArity, IsPolynomial}
use Rattle.polynomials.specs.Weight.{IsPastComposition, IsPastSum}
use Rattle.polynomials.proofs.Arity.{arity-compose, arity-append, arity-negate, arity-variables, arity_at}
use Rattle.polynomials.proofs.Composition.{same_compose}
use Rattle.polynomials.proofs.Orders.{grevlex_order, blocks_order}
use Rattle.polynomials.proofs.Same.{Same-refl, Same-trans, AllSame-refl, AllSame-at, same_append, same_negate}
use Rattle.machines.specs.Collect.{collect}
use Rattle.machines.specs.Completion as completion
use Rattle.machines.specs.Elimination as elimination
use Rattle.machines.specs.Elimination.{free_part}
use Rattle.machines.specs.Journal.{Journal, units_of}
use Rattle.machines.specs.Machine.{Outcome, done, Ran}
use Rattle.machines.specs.Pairs.{skip_covered}
use Rattle.machines.specs.Run.{HasEnded}
use Rattle.machines.specs.Tidying as tidying
use Rattle.machines.proofs.Collecting.{collect-polynomial, collect-same, collect-is}
use Rattle.machines.proofs.Lengths.{made, NothingKept, kept_made, list_few}
use Rattle.machines.proofs.Working.{work_begun}
use Rattle.loops.specs.Map.{branch_map}
use Rattle.loops.specs.Program.{Expr, Program}
use Rattle.loops.proofs.Maps.{arity-branch_map, length-branch_map}
use Rattle.poly.specs.Seen.{arity_of, terms_in, terms_each}
use Rattle.poly.specs.Standing.{AllStandFor}
use Rattle.poly.proofs.Standing.{arities_over, stands_over, stands_same, stands_length}
use Rattle.divide.specs.Outcomes.{outcome_of}
use Rattle.divide.specs.declared.EngineError.{EngineError}
use Rattle.loop_model.specs.FracPoly.{FracPoly}
use Rattle.ideal_ops.specs.Calls as ideal
use Rattle.ideal_ops.specs.Calls.{AreOver, first_block, IsEliminationOf, elimination_way, elimination_of}
use Rattle.invariant_fix.specs.Blocked.{Blocked}
use Rattle.invariant_fix.proofs.Blocks.{graded_polynomial}
use Rattle.invariant_fix.proofs.Forms.{item_at}
use Rattle.invariant_fix.proofs.Eliminating.{AreStarting, not_empty, gens_count, block_first, block_arity, ran_of, over_of}
use Rattle.invariant_fix.proofs.Started.{ran_started}
use Rattle.loop_model.specs.declared.statement.Statement as code
use Rattle.loop_runs.specs.Parts.{statements_in}
use Rattle.corollaries.specs.Between.{code_order, starting, value_at_code, IsPastMaking, code_elimination, between}
use Rattle.corollaries.specs.CodeBetween.{variable_of, assigned_variables, copies, was, of_what_was, code_list}
use Rattle.corollaries.proofs.CodeBetween.{was_arity, assigned_within}
use Rattle.invariant_fix.specs.Code.{all, in_code_order, put_value, HaveCopies, IsPastValueOf, IsCodeList, IsPastCode, IsListOf}

-- lists that are the same with like terms collected
collect_alike : (k n : ℕ) (p q : Terms Fraction) → Arity n p → Arity n q → Same ℚ p q
    → collect rationals (blocks k grevlex grevlex) p ≡ collect rationals (blocks k grevlex grevlex)
    q
collect_alike k n p q a b s =
    let O = blocks k grevlex grevlex in
    let o = blocks_order k grevlex grevlex grevlex_order grevlex_order in
    collect-is ℚ_field O o n q (collect rationals O p) b (collect-polynomial ℚ_field O o n p a)
    (Same-trans ℚ (collect-same ℚ_field O o p) s)

module _ (program : Program (Expr ℕ)) (b : List code.Statement) (fs : List FracPoly)
    (stand : AllStandFor (length program.names) fs (branch_map program (statements_in b))) where
  abbrev m : ℕ
  m = length program.names

  abbrev t : ℕ
  t = copies (length program.names) (statements_in b)

  abbrev n : ℕ
  n = copies (length program.names) (statements_in b) + length program.names

  abbrev value : ℕ → Terms Fraction
  value y = get_or (terms_each fs) y []

  abbrev bm : ℕ → Terms Fraction
  bm y = get_or (branch_map program (statements_in b)) y []

  pub values_count : length fs ≡ length program.names
  values_count = stands_length m fs _ stand ∙ length-branch_map program (statements_in b)

  pub values_over : AreOver (length program.names) fs
  values_over = stands_over m fs _ stand

  value_arity : (y : ℕ) → Arity m (value y)
  value_arity y = arity_at m (terms_each fs) (arities_over m fs values_over) y

  bm_arity : (y : ℕ) → Arity m (bm y)
  bm_arity y = arity_at m _ (arity-branch_map program (statements_in b)) y

  same_at : (y : ℕ) → Same ℚ (value y) (bm y)
  same_at y = AllSame-at ℚ (terms_each fs) _ (stands_same m fs _ stand) y

  before_arity : AllArity n (was m (statements_in b))
  before_arity = was_arity program (statements_in b)

  difference_same : (y : ℕ) → put_value m b y (value y)
      ≡ collect rationals (code_order m (statements_in b))
      (variable_of n (t + y) ++ negate ℚ (of_what_was program (statements_in b) (bm y)))
  difference_same y =
      let now = arity_at n (variables ℚ n) (arity-variables n ℚ) (t + y) in
      let put_arity = λ (f : Terms Fraction). arity-append n _ _ now
      (arity-negate n ℚ _ (arity-compose n ℚ f (was m (statements_in b)) before_arity)) in
      collect_alike t n _ _ (put_arity (value y)) (put_arity (bm y))
      (same_append ℚ_ring (Same-refl ℚ (variable_of n (t + y)))
      (same_negate ℚ_ring (same_compose ℚ_ring m n (value y) (bm y) (was m (statements_in b))
      (was m (statements_in b)) (value_arity y) (bm_arity y) before_arity before_arity (same_at y)
      (AllSame-refl ℚ (was m (statements_in b))))))

  differences_same : (ys : List ℕ) → map (λ y. put_value m b y (value y)) ys
      ≡ map (λ y. collect rationals (code_order m (statements_in b))
      (variable_of n (t + y) ++ negate ℚ (of_what_was program (statements_in b) (bm y)))) ys
  differences_same [] = refl
  differences_same (y ∷ ys) = ap₂ ◌∷◌ (difference_same y) (differences_same ys)

  pub list_is : (basis : List FracPoly) (gens : List Blocked) → IsCodeList b fs basis gens
      → terms_each gens ≡ starting program (statements_in b) (terms_each basis)
  list_is basis gens h =
      let O = code_order m (statements_in b) in
      let gs = terms_each basis in
      let ys = assigned_variables m (statements_in b) in
      let less : ℕ → Terms Fraction = λ y. variable_of n (t + y)
      ++ negate ℚ (of_what_was program (statements_in b) (bm y)) in
      subst (λ k. terms_each gens ≡ map (in_code_order k b) gs
      ++ map (λ v. put_value k b v (value v)) (assigned_variables k (statements_in b))) values_count
      h ∙ ap₂ ◌++◌ (sym (map-map (collect rationals O) (of_what_was program (statements_in b)) gs))
      (differences_same ys ∙ sym (map-map (collect rationals O) less ys))
      ∙ sym (map-append (collect rationals O) (map (of_what_was program (statements_in b)) gs)
      (map less ys))

  -- ---- what is past
  value_is : (y : ℕ) → y < m → value y ≡ value_at_code program (statements_in b) y
  value_is y l = collect-is ℚ_field grevlex grevlex_order m (bm y) (value y) (bm_arity y)
      (value_polynomial y l) (same_at y)
    where
      value_polynomial : (y : ℕ) → y < m → IsPolynomial ℚ grevlex m (value y)
      value_polynomial y l =
          let inside : y < length fs = (let e = values_count in omega (arith, e, l)) in
          let p = item_at fs y inside in
          subst (IsPolynomial ℚ grevlex m) (sym (get_or-map terms_in fs y p [] inside))
          (graded_polynomial m (get_or fs y p) (values_over y p inside))

  pub past_is : (basis : List FracPoly) → IsPastCode b fs basis
      → IsPastMaking program (statements_in b) (terms_each basis)
  past_is basis h =
      go (subst (λ k. Any (λ g. IsPastComposition fractions g (was k (statements_in b)))
      (terms_each basis) ⊎ Any (λ v. IsPastValueOf k b (value v) v)
      (assigned_variables k (statements_in b))) values_count h)
    where
      go : Any (λ g. IsPastComposition fractions g (was m (statements_in b))) (terms_each basis)
          ⊎ Any (λ v. IsPastValueOf m b (value v) v) (assigned_variables m (statements_in b))
          → IsPastMaking program (statements_in b) (terms_each basis)
      go (inl p) = inl p
      go (inr (i, y, l, at, p)) =
          let within = assigned_within (statements_in b) 0 m i y l in
          let bound = within.1 in
          let below : y < m = omega (arith, at, bound) in
          inr (
            i,
            y,
            l,
            at,
            subst (λ f. IsPastComposition fractions f (was m (statements_in b))
                ⊎ IsPastSum fractions (variable_of n (t + y))
                (collect rationals grevlex (of_what_was program (statements_in b) f)))
                (value_is y below) p,
          )

-- ---- nothing to be eliminated from
pub nothing_comes : (k : ℕ)
    → HasEnded (elimination.next rationals (blocks k grevlex grevlex) grevlex
    (free_part k)) (elimination.initial_state rationals (blocks k grevlex grevlex) [])
unfolding elimination.next completion.next completion.next_completion completion.next_pair
    completion.with_elements skip_covered tidying.next tidying.next_drop tidying.drop_from
    tidying.next_tail
    tidying.tail_from tidying.by_lead free_part
nothing_comes k = refl

pub nothing_is : (k : ℕ) → [] ≡ elimination.list_of grevlex (free_part k)
    (elimination.initial_state rationals (blocks k grevlex grevlex) [])
unfolding completion.with_elements free_part tidying.by_lead
nothing_is k = refl

module _ (program : Program (Expr ℕ)) (b : List code.Statement) (basis : List FracPoly) where
  abbrev size : ℕ
  size = copies (length program.names) (statements_in b)

  pub ran_nothing : (j : Journal) (hs : Vec FracPoly Global) → hs.items ≡ []
      → starting program (statements_in b) (terms_each basis) ≡ []
      → Ran (between program (statements_in b) (terms_each basis))
      (IsListOf (length program.names) (statements_in b)) j j (done hs)
  ran_nothing j hs none e = record {
    limit = refl;
    to = record {
      last = (between program (statements_in b) (terms_each basis)).start;
      finished = record {
        work = work_begun (between program (statements_in b) (terms_each basis)).next
            (between program (statements_in b) (terms_each basis)).start j.entries;
        ended = subst (λ l. HasEnded (elimination.next rationals (blocks size grevlex grevlex)
            grevlex (free_part size)) (elimination.initial_state rationals
            (blocks size grevlex grevlex) l)) (sym e) (nothing_comes size);
      };
      gives = ap terms_each none
          ∙ subst (λ l. [] ≡ elimination.list_of grevlex (free_part size)
          (elimination.initial_state rationals (blocks size grevlex grevlex) l)) (sym e)
          (nothing_is size);
    };
  }

  starting_count : length (starting program (statements_in b) (terms_each basis))
      ≡ length basis + size
  starting_count =
      let O = code_order (length program.names) (statements_in b) in
      length-map (code_list program (statements_in b) (terms_each basis)) (collect rationals O)
      ∙ length-append _ _
      ∙ ap₂ ◌+◌ (length-map (terms_each basis) (of_what_was program (statements_in b))
      ∙ length-map basis terms_in)
      (length-map (assigned_variables (length program.names) (statements_in b)) _)

  -- what comes of it is no more than the elements, the copies and the units
  pub few_mapped : (before after : Journal) (hs : Vec FracPoly Global)
      → Ran (between program (statements_in b) (terms_each basis))
      (IsListOf (length program.names) (statements_in b)) before after (done hs)
      → length hs.items ≤ length basis + size + units_of after.entries
  unfolding NothingKept
  few_mapped before after hs r =
      let gens = starting program (statements_in b) (terms_each basis) in
      let a = list_few rationals size (blocks size grevlex grevlex) grevlex gens before.entries
      after.entries r.to.last r.to.finished.work in
      let q = kept_made rationals size gens [] tt in
      let e = ap (λ l. length (free_part size (made rationals size l))) (append-nil gens) in
      let n = starting_count in
      let x = sym (length-map hs.items terms_in) ∙ ap length r.to.gives in
      omega (arith, a, q, e, n, x)

  -- ---- or something
  pub record AreMade (gens : List Blocked) : Type 0 where
    pub list : terms_each gens ≡ starting program (statements_in b) (terms_each basis)
    pub block : HaveCopies (length program.names) b gens
    pub some : gens ≢ []

  module _ {gens : List Blocked} (u : AreMade gens) where
    made_starting : AreStarting size (length program.names)
        (starting program (statements_in b) (terms_each basis)) gens
    made_starting = record { list = u.list; block = u.block }

    filled : 0 < length (starting program (statements_in b) (terms_each basis))
    filled =
        let a = gens_count made_starting in let l = not_empty gens u.some in omega (arith, a, l)

    pub made_first : first_block gens ≡ size
    made_first = block_first made_starting filled

    pub made_arity : arity_of gens ≡ all (length program.names) b
    made_arity = block_arity made_starting filled

    pub made_count : length gens ≡ length basis + size
    made_count = gens_count made_starting ∙ starting_count

    -- the elimination from the gens is that of the code
    pub ran_so : {before after : Journal} (o : Outcome (Vec FracPoly Global))
        → Ran (elimination_of (elimination_way (first_block gens) gens))
        (ideal.IsListOf (elimination_way (first_block gens) gens)) before after o
        → Ran (between program (statements_in b) (terms_each basis))
        (IsListOf (length program.names) (statements_in b)) before after o
    ran_so o h =
        ran_started (code_elimination program (statements_in b) (terms_each basis)) inr o
        (ran_of made_starting filled o h)

    pub over_made : (hs : List FracPoly) → IsEliminationOf gens hs
        → AreOver (length program.names) hs
    over_made hs h = over_of made_starting filled h

-- ---- as code has them
module _ (program : Program (Expr ℕ)) (b : List code.Statement) (fs : List FracPoly)
    (stand : AllStandFor (length program.names) fs (branch_map program (statements_in b)))
    (basis : List FracPoly) (v : Vec Blocked Global) (list : IsCodeList b fs basis v.items) where
  pub empty_start : true ≡ eqb (vec_len v) 0 → starting program (statements_in b) (terms_each basis)
      ≡ []
  empty_start t =
      let e = eqb-true (vec_len v) 0 (sym t) in
      let ok = v.ok in
      sym (list_is program b fs stand basis v.items list)
      ∙ ap terms_each (nil_from_length v.items (omega (arith, e, ok)))

  pub made_so : {gens : List Blocked} → gens ≡ v.items → HaveCopies (length fs) b v.items
      → false ≡ eqb (vec_len v) 0 → AreMade program b basis gens
  made_so same block t = record {
    list = ap terms_each same ∙ list_is program b fs stand basis v.items list;
    block = subst (HaveCopies (length program.names) b) (sym same)
        (subst (λ k. HaveCopies k b v.items) (values_count program b fs stand) block);
    some = λ none. (
        let ok = v.ok in
        let n = ap length (sym same ∙ none) in
        eqb-false (vec_len v) 0 (sym t) (omega (arith, ok, n)));
  }

pub few_out : (program : Program (Expr ℕ)) (b : List code.Statement) (basis : List FracPoly)
    (before after : Journal) (r : Result (Vec FracPoly Global) EngineError)
    → Ran (between program (statements_in b) (terms_each basis))
    (IsListOf (length program.names) (statements_in b)) before after (outcome_of r)
    → IfOk r (λ hs. length hs.items ≤ length basis
    + copies (length program.names) (statements_in b) + units_of after.entries)
few_out program b basis before after (Ok hs) h = few_mapped program b basis before after hs h
few_out program b basis before after (Err e) h = tt
