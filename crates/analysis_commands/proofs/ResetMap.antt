-- The map of one variable that makes it 0: its one eigenvalue is 0, and its class splits.
--   gone               the map;  gone_solvable, gone_passes, gone_short: it is solvable, and no class is refused or too long
--   gone_class, gone_is      its one class;  gone_matrix, gone_splits: that class's matrix, which splits
--   reset_loop         the loop whose one branch is x = 0
--   reset_free         no operation of its maps passes a limit
--   reset_splits       its branch is solvable, and each of its classes splits
use Rattle.std.proofs.Common.{◌≡◌, inl, inr, ℕ, zero, suc, ◌<◌, pos, List, [], ◌∷◌, T, refl, sym, subst, arith, All}
use Rattle.std.proofs.lemmas.List.Elements.{All-nil}
use Rattle.algebra.specs.Sum.{sum_over}
use Rattle.algebra.specs.Gcd.{gcd}
use Rattle.algebra.specs.Ratio.{is_lowest}
use Rattle.algebra.specs.Fraction.{Fraction, fraction, ℚ}
use Rattle.polynomials.specs.Algebra as Algebra
use Rattle.polynomials.specs.Exponent.{unit_exponents}
use Rattle.polynomials.specs.Order.{compare, grevlex}
use Rattle.polynomials.specs.Terms.{Terms, constant, variables}
use Rattle.machines.specs.Collect.{collect, insert, place}
use Rattle.vectors.specs.Matrices.{SplitsAt}
use Rattle.solvable_maps.specs.Dependency.{IsNonlinearCycle}
use Rattle.solvable_maps.specs.Class.{IsClassOf}
use Rattle.solvable_maps.specs.Uses.{uses, strongly}
use Rattle.solvable_maps.proofs.Classes.{class_one}
use Rattle.loops.specs.Effect.{after_branch, after_statement, store, value_of}
use Rattle.loops.specs.Map.{branch_map}
use Rattle.loops.specs.Program.{Expr, Program, number}
use Rattle.solvable_maps.specs.Classes.{class_matrix, IsClass, Passes}
use Rattle.rounds.specs.BranchMap.{map_of}
use Rattle.loop_model.specs.Operations.{operations, operations_all, PassesLimit}
use Rattle.loop_model.specs.Maps.{maps_operations, statements_operations, AreFree}
use Rattle.solvable.specs.Refusal.{IsSolvable}
use Rattle.closed_forms.specs.Lengths.{class_length, IsShort}
use Rattle.closed_forms.specs.Refusal.{AllPass}
use Rattle.closed_forms.proofs.LengthLaws.{single_short}
use Rattle.eigen_split.proofs.OneNumber.{single_splits}
use Rattle.analysis_commands.specs.Completeness.{AllSplit}
use Rattle.analysis_commands.proofs.IdleRuns.{x_loop}

abbrev pub gone : List (Terms Fraction)
gone = [] ∷ []

-- ---- its class
gone_class_is : IsClassOf (uses gone) 1 0 (0 ∷ [])
gone_class_is = record {
  ascends = (tt, tt);
  inside = λ j h. elim h [ inl e ↦ (omega (arith, e), inl (sym e)) | inr n ↦ absurd n ];
  whole = λ j l c. inl (omega (arith, l));
}

pub gone_bounded : (i j : ℕ) → T (uses gone i j) → (i < 1) × (j < 1)
gone_bounded zero j t = absurd t
gone_bounded (suc i) j t = absurd t

pub gone_is : IsClass gone (0 ∷ [])
gone_is = record { of = 0; within = omega arith; is = gone_class_is }

pub gone_class : (g : List ℕ) → IsClass gone g → g ≡ 0 ∷ []
gone_class g c =
    class_one (uses gone) 1 gone_bounded c.of g (0 ∷ []) c.is
    (subst (λ k. IsClassOf (uses gone) 1 k (0 ∷ []))
    (let within = c.within in let e : 0 ≡ c.of = omega (arith, within) in e) gone_class_is)

weak : (i j : ℕ) → T (strongly gone i j) → ⊥
weak zero j t = absurd t
weak (suc i) j t = absurd t

pub gone_solvable : (vs : List ℕ) → IsNonlinearCycle (uses gone) (strongly gone) vs → ⊥
gone_solvable [] c = absurd c
gone_solvable (v ∷ []) c = absurd c
gone_solvable (v ∷ w ∷ vs) c = weak v w c.0

pub gone_matrix : class_matrix gone (0 ∷ []) ≡ (ℚ.zero ∷ []) ∷ []
unfolding Algebra.coefficient sum_over
gone_matrix = refl

pub gone_splits : SplitsAt 1 (class_matrix gone (0 ∷ []))
gone_splits = single_splits 1 (class_matrix gone (0 ∷ [])) ((ℚ.one ∷ []) ∷ []) (ℚ.zero ∷ [])
    ℚ.zero refl gone_matrix (record { forms_are = refl; values_are = refl })

pub gone_passes : (g : List ℕ) → IsClass gone g → Passes gone g
gone_passes g c = subst (Passes gone) (sym (gone_class g c)) (record {
  splits = gone_splits;
  within = λ some. absurd (omega (arith, some));
  narrow = λ some h. omega (arith, some);
})

-- ---- its length
gone_length : class_length gone (0 ∷ []) (1 ∷ []) ≡ 0
unfolding class_length
gone_length = refl

pub gone_short : IsShort gone
gone_short = single_short gone gone_bounded refl gone_class_is
    (let e = gone_length in omega (arith, e))

-- ---- a loop
abbrev pub reset_loop : Program (Expr ℕ)
reset_loop = x_loop ((record { targets = 0 ∷ []; values = number (pos 0) ∷ [] } ∷ []) ∷ [])

reset_map : map_of reset_loop 1 ≡ gone
unfolding map_of branch_map after_branch after_statement store value_of variables unit_exponents
    constant collect insert place compare grevlex fraction is_lowest gcd
reset_map = refl

no_operations : maps_operations reset_loop ≡ []
unfolding operations operations_all statements_operations
no_operations = refl

pub reset_free : AreFree reset_loop
reset_free =
    subst (All (λ o. ¬ (PassesLimit 1 o))) (sym no_operations) (All-nil (λ o. ¬ (PassesLimit 1 o)))

pub reset_splits : AllSplit reset_loop
reset_splits zero l =
    subst (λ ms. IsSolvable ms × AllPass ms × IsShort ms) (sym reset_map)
    (gone_solvable, gone_passes, gone_short)
reset_splits (suc b) l = absurd (omega (arith, l))
