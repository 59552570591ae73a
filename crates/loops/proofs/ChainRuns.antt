-- Runs of chains, loop by loop.
--   behind_state          the state behind code is one
--   chain_keeps_state     the end of a run is a state
--   chain_goes_on         a word of one more loop, from the end, behind its code
--   LastWord, last_word   the last word of a run, and the end of the words before it
--   no_letters            words without letters lead somewhere
--   same_end              a word leads through a loop to the same end whatever init says
--   loop_of_chain         a chain of one loop has the loop's invariants
use Rattle.std.proofs.Common.{◌≡◌, ◌↔◌, ℕ, zero, suc, List, [], ◌∷◌, ◌++◌, length, map, refl, sym, ap, subst, ◌∙◌, Option, Some, None}
use Rattle.std.specs.Prelude.{option_and_then}
use Rattle.algebra.specs.Fraction.{Fraction, ℚ}
use Rattle.polynomials.specs.Terms.{Terms, value_at}
use Rattle.loops.specs.Inv.{Inv}
use Rattle.loops.specs.Program.{Expr, Program, Statement}
use Rattle.loops.specs.Run.{Run, run_end, branch_at, effect, IsState}
use Rattle.loops.proofs.Maps.{effect_keeps_state}
use Rattle.loops.proofs.Runs.{run_keeps}
use Rattle.loops.specs.Chain.{Chain, Stage, loop_of, state_behind, chain_end, ChainRun, ChainInv}

module _ {At : Type 0} (program : Program (Expr At)) where
  pub behind_state : (code : List (Statement (Expr At))) (s : List Fraction)
      → length s ≡ length program.names → length (state_behind program code s)
      ≡ length program.names
  unfolding state_behind
  behind_state [] s is = is
  behind_state (a ∷ code) s is = effect_keeps_state program (a ∷ code) s is

  end_state : (bs : List (List (Statement (Expr At)))) (w : List ℕ) (s t : List Fraction)
      → length s ≡ length program.names → run_end (loop_of program bs) w s ≡ Some t
      → length t ≡ length program.names
  end_state bs w s t is h = run_keeps (loop_of program bs) (IsState (loop_of program bs))
      (λ s b branch i p. effect_keeps_state (loop_of program bs) branch s p) w s t is h

  abbrev from : Stage (Expr At) → List ℕ → List Fraction → Option (List Fraction)
  from g w s = run_end (loop_of program g.branches) w (state_behind program g.code s)

  pub chain_keeps_state : (stages : List (Stage (Expr At))) (words : List (List ℕ))
      (s end : List Fraction) → length s ≡ length program.names → chain_end program stages words s
      ≡ Some end → length end ≡ length program.names
  unfolding chain_end
  chain_keeps_state [] [] s end is h = let e : s ≡ end = cc in
      subst (λ t. length t ≡ length program.names) e is
  chain_keeps_state [] (w ∷ words) s end is h = absurd (cc)
  chain_keeps_state (g ∷ stages) [] s end is h = absurd (cc)
  chain_keeps_state (g ∷ stages) (w ∷ words) s end is h = go (from g w s) refl h
      (λ t. chain_keeps_state stages words t end)
    where
      go : (o : Option (List Fraction)) → from g w s ≡ o
          → option_and_then (chain_end program stages words) o ≡ Some end
          → ((t : List Fraction) → length t ≡ length program.names
          → chain_end program stages words t ≡ Some end → length end ≡ length program.names)
          → length end ≡ length program.names
      go None e h later = absurd (cc)
      go (Some t) e h later = later t (end_state g.branches w (state_behind program g.code s) t
          (behind_state g.code s is) e) h

  pub chain_goes_on : (stages : List (Stage (Expr At))) (g : Stage (Expr At))
      (words : List (List ℕ)) (w : List ℕ) (s mid end : List Fraction)
      → chain_end program stages words s ≡ Some mid → run_end (loop_of program g.branches) w
      (state_behind program g.code mid) ≡ Some end
      → chain_end program (stages ++ g ∷ []) (words ++ w ∷ []) s ≡ Some end
  unfolding chain_end
  chain_goes_on [] g [] w s mid end h k = let e : s ≡ mid = cc in
      ap (option_and_then (chain_end {At = At} program [] [])) (ap (from g w) e ∙ k)
  chain_goes_on [] g (v ∷ words) w s mid end h k = absurd (cc)
  chain_goes_on (f ∷ stages) g [] w s mid end h k = absurd (cc)
  chain_goes_on (f ∷ stages) g (v ∷ words) w s mid end h k =
      go (from f v s) h (λ t e. chain_goes_on stages g words w t mid end e k)
    where
      go : (o : Option (List Fraction)) → option_and_then (chain_end program stages words) o
          ≡ Some mid → ((t : List Fraction) → chain_end program stages words t ≡ Some mid
          → chain_end program (stages ++ g ∷ []) (words ++ w ∷ []) t ≡ Some end)
          → option_and_then (chain_end program (stages ++ g ∷ []) (words ++ w ∷ [])) o ≡ Some end
      go None h later = absurd (cc)
      go (Some t) h later = later t h

  pub record LastWord (stages : List (Stage (Expr At))) (g : Stage (Expr At)) (ws : List (List ℕ))
      (s end : List Fraction) : Type 0 where
    pub words : List (List ℕ)
    pub word : List ℕ
    pub mid : List Fraction
    pub is : ws ≡ words ++ word ∷ []
    pub before : chain_end program stages words s ≡ Some mid
    pub last : run_end (loop_of program g.branches) word (state_behind program g.code mid)
        ≡ Some end

  pub last_word : (stages : List (Stage (Expr At))) (g : Stage (Expr At)) (ws : List (List ℕ))
      (s end : List Fraction) → chain_end program (stages ++ g ∷ []) ws s ≡ Some end
      → LastWord stages g ws s end
  unfolding chain_end
  last_word [] g [] s end h = absurd (cc)
  last_word [] g (w ∷ v ∷ ws) s end h = absurd (none (from g w s) h)
    where
      none : (o : Option (List Fraction))
          → option_and_then (chain_end {At = At} program [] (v ∷ ws)) o ≡ Some end → ⊥
      none None h = absurd (cc)
      none (Some t) h = absurd (cc)
  last_word [] g (w ∷ []) s end h = record {
    words = [];
    word = w;
    mid = s;
    is = refl;
    before = refl;
    last = one (from g w s) h;
  }
    where
      one : (o : Option (List Fraction)) → option_and_then (chain_end {At = At} program [] []) o
          ≡ Some end → o ≡ Some end
      one None h = absurd (cc)
      one (Some t) h = h
  last_word (f ∷ stages) g [] s end h = absurd (cc)
  last_word (f ∷ stages) g (w ∷ ws) s end h = go (from f w s) refl h
      (λ t. last_word stages g ws t end)
    where
      go : (o : Option (List Fraction)) → from f w s ≡ o
          → option_and_then (chain_end program (stages ++ g ∷ []) ws) o ≡ Some end
          → ((t : List Fraction) → chain_end program (stages ++ g ∷ []) ws t ≡ Some end
          → LastWord stages g ws t end) → LastWord (f ∷ stages) g (w ∷ ws) s end
      go None e h later = absurd (cc)
      go (Some t) e h later =
          let l = later t h in
          record {
            words = w ∷ l.words;
            word = l.word;
            mid = l.mid;
            is = ap (λ xs. w ∷ xs) l.is;
            before = ap (option_and_then (chain_end program stages l.words)) e ∙ l.before;
            last = l.last;
          }

  pub no_letters : (stages : List (Stage (Expr At))) (s : List Fraction) → (end : List Fraction)
      × (chain_end program stages (map (λ g. []) stages) s ≡ Some end)
  unfolding chain_end run_end
  no_letters [] s = (s, refl)
  no_letters (g ∷ stages) s = no_letters stages (state_behind program g.code s)

-- no loops lead from each state to itself
from_nothing : (At : Type 0) (program : Program (Expr At)) (words : List (List ℕ))
    (s t : List Fraction) → chain_end {At = At} program [] words s ≡ Some t → s ≡ t
unfolding chain_end
from_nothing At program [] s t h = cc
from_nothing At program (w ∷ words) s t h = absurd (cc)

-- a chain of one loop
abbrev pub chain_of : {At : Type 0} → Program (Expr At) → Chain (Expr At)
chain_of program = record { first = program; further = [] }

-- what a loop sets has no part in what its words do
module _ {At : Type 0} (program : Program (Expr At)) where
  abbrev unset : Program (Expr At)
  unset = loop_of program program.branches

  same_branch : (b : ℕ) → branch_at unset b ≡ branch_at program b
  unfolding branch_at
  same_branch zero = refl
  same_branch (suc b) = refl

  after : Program (Expr At) → List ℕ → List Fraction → Option (List (Statement (Expr At)))
      → Option (List Fraction)
  after l w s o = option_and_then (λ branch. run_end l w (effect l branch s)) o

  pub same_end : (w : List ℕ) (s : List Fraction) → run_end unset w s ≡ run_end program w s
  unfolding run_end after
  same_end [] s = refl
  same_end (b ∷ w) s = by (branch_at unset b) (λ t. same_end w t)
      ∙ ap (after program w s) (same_branch b)
    where
      by : (o : Option (List (Statement (Expr At))))
          → ((t : List Fraction) → run_end unset w t ≡ run_end program w t)
          → after unset w s o ≡ after program w s o
      by None later = refl
      by (Some x) later = later (effect program x s)

module _ {At : Type 0} (program : Program (Expr At)) (p : Terms Fraction) where
  of_loop : (r : Run program) → ChainRun (chain_of program)
  unfolding chain_end state_behind
  of_loop r = record {
    start = r.start;
    words = r.word ∷ [];
    end = r.end;
    is_start = r.is_start;
    is_end = ap (option_and_then (chain_end {At = At} program [] []))
        (same_end program r.word r.start ∙ r.is_end);
  }

  to_loop : (r : ChainRun (chain_of program)) → (q : Run program) × (q.end ≡ r.end)
  unfolding state_behind
  to_loop r =
      let l = last_word program [] (record { code = []; branches = program.branches }) r.words
      r.start r.end r.is_end in
      let e : r.start ≡ l.mid = from_nothing At program l.words r.start l.mid l.before in (
        record {
          start = r.start;
          word = l.word;
          end = r.end;
          is_start = r.is_start;
          is_end =
              sym (same_end program l.word r.start)
              ∙ ap (run_end (loop_of program program.branches) l.word) e ∙ l.last;
        },
        refl,
      )

  pub loop_of_chain : ChainInv (chain_of program) p ↔ Inv program p
  unfolding of_loop
  loop_of_chain = (
    (λ i. record { arity = i.arity; zero = λ r. i.zero (of_loop r) }),
    (λ i. record {
      arity = i.arity;
      zero = λ r. (let (q, e) = to_loop r in subst (λ s. value_at ℚ p s ≡ ℚ.zero) e (i.zero q));
    }),
  )
