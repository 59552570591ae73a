-- A loop as a graph: the states that are reached at node 1 are the ends of runs.
--   loop_is_graph        it is a graph
--   run_reached          the end of a run is reached at node 1
--   reached_run          and what is reached there is the end of a run
--   loop_invariants      so the invariants are the same
use Rattle.std.proofs.Common.{◌≡◌, ◌↔◌, inl, inr, ℕ, zero, suc, ◌+◌, List, [], ◌∷◌, ◌++◌, map, length, refl, sym, ap, subst, ◌∙◌, arith, Option, Some, None, option_and_then}
use Rattle.algebra.specs.Each.{Each}
use Rattle.algebra.specs.In.{In}
use Rattle.algebra.proofs.Each.{each-map, each_of}
use Rattle.algebra.proofs.In.{map-in, in_map}
use Rattle.algebra.specs.Fraction.{Fraction, ℚ}
use Rattle.polynomials.specs.Terms.{Terms, value_at}
use Rattle.polynomials.specs.Polynomial.{AllArity}
use Rattle.loops.specs.Program.{Expr, Program, Statement}
use Rattle.loops.specs.Effect.{start_from}
use Rattle.loops.specs.Run.{Run, IsState, IsStart, branch_at, effect, run_end}
use Rattle.loops.specs.Inv as loop
use Rattle.loops.specs.Map.{start_map, branch_map}
use Rattle.loops.specs.WellFormed.{IsWellFormed}
use Rattle.loops.proofs.Maps.{branch_map_values, start_map_values, arity-branch_map, arity-start_map, length-branch_map, length-start_map}
use Rattle.loops.proofs.Invariants.{start_from_is}
use Rattle.loops.proofs.Runs.{run_keeps}
use Rattle.loops.proofs.Starts.{start_from_start}
use Rattle.machines.proofs.Places.{slice_in, in_slice}
use Rattle.flows.specs.Graph.{Transition, IsTransition, IsGraph, Leads, Reached, start, further, Inv}
use Rattle.flows.specs.LoopGraph.{by_map, graph_of}
use Rattle.flows.proofs.Sound.{reached_state}

module _ {At : Type 0} (program : Program (Expr At)) where
  abbrev n : ℕ
  n = length program.names

  no_unknowns : (images : List (Terms Fraction)) → AllArity n images → AllArity (0 + n) images
  no_unknowns images a = let e : n ≡ 0 + n = omega arith in subst (λ k. AllArity k images) e a

  pub loop_is_graph : IsGraph (graph_of program)
  unfolding Each
  loop_is_graph = (
    record {
      from_node = omega arith;
      to_node = omega arith;
      zeros = tt;
      images = no_unknowns (start_map program) (arity-start_map program);
      count = length-start_map program;
    },
    each-map (IsTransition n 2) (λ b. by_map 1 (branch_map program b)) program.branches
        (each_of (λ b. IsTransition n 2 (by_map 1 (branch_map program b))) (λ b. record {
          from_node = omega arith;
          to_node = omega arith;
          zeros = tt;
          images = no_unknowns (branch_map program b) (arity-branch_map program b);
          count = length-branch_map program b;
        }) program.branches),
  )

  by_map_leads : (v : ℕ) (images : List (Terms Fraction)) (s z : List Fraction)
      → map (λ p. value_at ℚ p s) images ≡ z → Leads (by_map v images) s z
  unfolding Each
  by_map_leads v images s z e = record { values = []; count = refl; zeros = tt; is = sym e }

  led_by_map : (v : ℕ) (images : List (Terms Fraction)) (s z : List Fraction)
      → Leads (by_map v images) s z → z ≡ map (λ p. value_at ℚ p s) images
  led_by_map v images s z l = go l.values l.count l.is
    where
      go : (x : List Fraction) → length x ≡ 0 → z ≡ map (λ f. value_at ℚ f (x ++ s)) images
          → z ≡ map (λ p. value_at ℚ p s) images
      go [] c e = e
      go (y ∷ x) c e = absurd (omega arith)

  -- ---- runs are reached
  start_reached : (s : List Fraction) → IsStart program s → Reached (graph_of program) 1 s
  start_reached s is =
      further (by_map 0 (start_map program)) s s (inl refl) (start s is.state)
      (by_map_leads 0 (start_map program) s s
      (start_map_values program s is.state ∙ start_from_start ℚ (λ c. c) program s is.holds))

  branch_in : (b : ℕ) (branch : List (Statement (Expr At))) → branch_at program b ≡ Some branch
      → In branch program.branches
  unfolding branch_at
  branch_in zero branch h = absurd (cc)
  branch_in (suc b) branch h = in_slice program.branches b branch h

  pub run_reached : (r : Run program) → Reached (graph_of program) 1 r.end
  run_reached r =
      run_keeps program (Reached (graph_of program) 1)
      (λ s b branch is h.
      further (by_map 1 (branch_map program branch)) s (effect program branch s)
      (inr (map-in (λ c. by_map 1 (branch_map program c)) program.branches branch
      (branch_in b branch is))) h
      (by_map_leads 1 (branch_map program branch) s (effect program branch s)
      (branch_map_values program branch s
      (reached_state (graph_of program) loop_is_graph 1 s h))))
      r.word r.start r.end (start_reached r.start r.is_start) r.is_end

  -- ---- what is reached ends a run
  run_end-push : (word : List ℕ) (b : ℕ) (s e : List Fraction)
      (branch : List (Statement (Expr At))) → branch_at program b ≡ Some branch
      → run_end program word s ≡ Some e
      → run_end program (word ++ b ∷ []) s ≡ Some (effect program branch e)
  unfolding run_end
  run_end-push [] b s e branch is h =
      let same : s ≡ e = cc in
      ap (option_and_then (λ c. run_end program [] (effect program c s))) is
      ∙ ap (λ x. Some (effect program branch x)) same
  run_end-push (c ∷ word) b s e branch is h =
      go (branch_at program c) h
      (λ d. run_end-push word b (effect program d s) e branch is)
    where
      go : (o : Option (List (Statement (Expr At))))
          → option_and_then (λ d. run_end program word (effect program d s)) o ≡ Some e
          → ((d : List (Statement (Expr At))) → run_end program word (effect program d s) ≡ Some e
          → run_end program (word ++ b ∷ []) (effect program d s)
          ≡ Some (effect program branch e))
          → option_and_then (λ d. run_end program (word ++ b ∷ []) (effect program d s)) o
          ≡ Some (effect program branch e)
      go None k ih = absurd (cc)
      go (Some d) k ih = ih d k

  pub record Ends (z : List Fraction) : Type 0 where
    pub run : Run program
    pub is : run.end ≡ z

  module _ (well : IsWellFormed program) where
    started : (s z : List Fraction) → IsState program s → Leads (by_map 0 (start_map program)) s z
        → Ends z
    unfolding run_end
    started s z is l = record {
      run = record {
        start = start_from ℚ (λ c. c) program s;
        word = [];
        end = start_from ℚ (λ c. c) program s;
        is_start = start_from_is program well s is;
        is_end = refl;
      };
      is = sym (led_by_map 0 (start_map program) s z l ∙ start_map_values program s is);
    }

    continued : (branch : List (Statement (Expr At))) → In branch program.branches
        → (s z : List Fraction) → IsState program s → Ends s
        → Leads (by_map 1 (branch_map program branch)) s z → Ends z
    unfolding branch_at
    continued branch i s z is e l =
        let (j, at) = slice_in program.branches branch i in
        let r = e.run in
        record {
          run = record {
            start = r.start;
            word = r.word ++ suc j ∷ [];
            end = effect program branch s;
            is_start = r.is_start;
            is_end =
                run_end-push r.word (suc j) r.start s branch at
                (subst (λ y. run_end program r.word r.start ≡ Some y) e.is r.is_end);
          };
          is = sym (led_by_map 1 (branch_map program branch) s z l
              ∙ branch_map_values program branch s is);
        }

    pub reached_run : (v : ℕ) (z : List Fraction) → Reached (graph_of program) v z → v ≡ 1 → Ends z
    reached_run v z (start s l) e = absurd (omega arith)
    reached_run v z (further t s y i r l) e =
        go t i (reached_state (graph_of program) loop_is_graph t.from s r)
        (reached_run t.from s r) l
      where
        go : (t : Transition) → In t (graph_of program).transitions → IsState program s
            → (t.from ≡ 1 → Ends s) → Leads t s y → Ends y
        go t (inl same) is ih l = started s y is (subst (λ u. Leads u s y) same l)
        go t (inr j) is ih l =
            let (b, k, same) =
            in_map (λ c. by_map 1 (branch_map program c)) program.branches t j in
            continued b k s y is (ih (ap (λ (u : Transition). u.from) same))
            (subst (λ u. Leads u s y) same l)

    pub loop_invariants : (p : Terms Fraction) → Inv (graph_of program) 1 p ↔ loop.Inv program p
    loop_invariants p = (
      λ i. record { arity = i.arity; zero = λ r. i.zero r.end (run_reached r) },
      λ i. record {
        arity = i.arity;
        zero = λ s h.
            let e = reached_run 1 s h refl in
            subst (λ z. value_at ℚ p z ≡ ℚ.zero) e.is (i.zero e.run);
      },
    )
