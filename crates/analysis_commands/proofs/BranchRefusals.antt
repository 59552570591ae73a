-- The first branch that has no closed form, and why, is one.
--   map_not_both          a map isn't both too long and short
--   class_fails           a class that is told of doesn't pass;  no_form: its branch has no closed form
--   class_one             two classes that are told of are one
--   refusal_one           another refusal of the branch is that one, or a number that doesn't fit
--   some_told             what an error tells
use Rattle.std.proofs.Common.{◌≡◌, inl, inr, ℕ, ℤ, pos, List, length, refl, sym, ap, ap₂, subst, ◌∙◌, arith}
use Rattle.std.specs.Prelude.{◌⊎◌, Option, Some, None, IsSomeAnd}
use Rattle.std.proofs.lemmas.Bool.{cases_lt}
use Rattle.algebra.specs.Fraction.{Fraction}
use Rattle.polynomials.specs.Terms.{Terms}
use Rattle.solvable_maps.specs.Dependency.{IsNonlinearCycle, IsLeastCycle}
use Rattle.solvable_maps.specs.Uses.{uses, strongly, IsMap}
use Rattle.solvable_maps.proofs.Cycles.{cycle_one}
use Rattle.vectors.specs.Matrices.{greatest_sum}
use Rattle.vectors.specs.Causes.{IsTooWide}
use Rattle.solvable_maps.specs.Classes.{class_matrix, Passes, first_of, IsReachedClass}
use Rattle.loops.specs.Program.{Expr, Program}
use Rattle.solvable_maps.proofs.Linear.{map_bounded}
use Rattle.rounds.specs.BranchMap.{map_of}
use Rattle.rounds.proofs.BranchMaps.{branch_is_map}
use Rattle.eigen_split.specs.Refusal.{IsPastRow}
use Rattle.eigen_split.specs.declared.EigenError.TheVariants as eigen_error
use Rattle.closed_forms.specs.Refusal.{Refusal, not_solvable, eigenvalues, range, wide_split, limit_form, wide_form, IsTooLong, IfFormRefused}
use Rattle.closed_forms.specs.Lengths.{IsLong, IsShort}
use Rattle.closed_forms.specs.Splits.{IfRefusedMatrix}
use Rattle.closed_forms.proofs.LengthLaws.{long_one, long_or_short}
use Rattle.closed_forms.proofs.Splitting.{same_first}
use Rattle.invariant_fix.specs.Refusals.{HasForm}
use Rattle.io_edge.specs.declared.answer.Status.TheVariants as status
use Rattle.analysis_commands.specs.Statuses.{cause_status}
use Rattle.analysis_commands.specs.Causes.{IsExact}

-- ---- lengths
pub map_not_both : (images : List (Terms Fraction)) → IsMap (length images) images → (v : ℕ)
    → IsLong images v → IsShort images → ⊥
map_not_both images is v long short =
    long_or_short images (map_bounded (length images) images is) v long short

-- ---- refusals of one map
module _ (images : List (Terms Fraction)) where
  wide_before : (g : List ℕ) (candidate : ℤ) (power row : ℕ) → power ≡ 0
      → IfRefusedMatrix images g (eigen_error.Wide candidate power row)
      → IsTooWide (length g) (class_matrix images g)
  wide_before g candidate power row none h =
      (subst (λ k. IsPastRow (length g) (class_matrix images g) candidate k row) none h.1).2

  -- its class doesn't pass
  eigen_fails : (g : List ℕ) → IfRefusedMatrix images g eigen_error.Eigen → Passes images g → ⊥
  eigen_fails g h p = h.0 p.splits

  range_fails : (g : List ℕ) (sum : ℤ) → IfRefusedMatrix images g (eigen_error.Range sum)
      → Passes images g → ⊥
  range_fails g sum h p = let most = p.within h.0 in let more = h.2 in omega (arith, most, more)

  wide_fails : (g : List ℕ) (candidate : ℤ) (power row : ℕ) → power ≡ 0
      → IfRefusedMatrix images g (eigen_error.Wide candidate power row) → Passes images g → ⊥
  wide_fails g candidate power row none h p =
      p.narrow h.0 (wide_before g candidate power row none h)

  module _ (solvable : (vs : List ℕ) → IsNonlinearCycle (uses images) (strongly images) vs → ⊥)
      (pass : (g : List ℕ) → IsReachedClass images g → Passes images g)
      (is_map : IsMap (length images) images) (short : IsShort images) where
    pub all_pass : (r : Refusal) → IsExact r → IfFormRefused images r → ⊥
    all_pass (not_solvable cycle) exact is = solvable cycle is.cycle
    all_pass (eigenvalues class) exact is = eigen_fails class is.1 (pass class is.0)
    all_pass (range class sum) exact is = range_fails class sum is.1 (pass class is.0)
    all_pass (wide_split class candidate power row) exact is =
        wide_fails class candidate power row exact is.1 (pass class is.0)
    all_pass (limit_form variable) exact is = map_not_both images is_map variable is.long short
    all_pass (wide_form variable) exact is = exact

pub no_form : (l : Program (Expr ℕ)) (b : ℕ) (r : Refusal) → IsExact r
    → IfFormRefused (map_of l b) r
    → HasForm l b → ⊥
no_form l b r exact is has =
    all_pass (map_of l b) has.solvable (λ g first. has.pass g first.is) (branch_is_map l b)
    has.short
    r exact is

-- what an error tells
pub some_told : {A : Type 0} (o : Option A) (P : A → Type 0) → IsSomeAnd o P → (x : A) × P x
some_told None P h = absurd h
some_told (Some x) P h = (x, h)

module _ (images : List (Terms Fraction)) (is : IsMap (length images) images) where
  class_one : (g h : List ℕ) → IsReachedClass images g → IsReachedClass images h
      → (Passes images g → ⊥) → (Passes images h → ⊥) → g ≡ h
  class_one g h p q f k = elim (cases_lt (first_of g) (first_of h)) [
    | inl l ↦ absurd (f (q.before g p.is l))
    | inr l ↦ elim (cases_lt (first_of h) (first_of g)) [
      | inl r ↦ absurd (k (p.before h q.is r))
      | inr r ↦ same_first images is g h p.is q.is (omega (arith, l, r))
    ]
  ]

  same_cycle : (cycle : List ℕ) (r : Refusal) → IsExact r → IfFormRefused images r
      → IsLeastCycle (uses images) (strongly images) cycle → not_solvable cycle ≡ r
  same_cycle cycle (not_solvable other) exact r h =
      ap not_solvable (cycle_one (uses images) (strongly images) cycle other h r)
  same_cycle cycle (eigenvalues class) exact r h = absurd (r.0.solvable cycle h.cycle)
  same_cycle cycle (range class sum) exact r h = absurd (r.0.solvable cycle h.cycle)
  same_cycle cycle (wide_split class candidate power row) exact r h =
      absurd (r.0.solvable cycle h.cycle)
  same_cycle cycle (limit_form variable) exact r h = absurd (r.solvable cycle h.cycle)
  same_cycle cycle (wide_form variable) exact r h = absurd exact

  same_eigen : (class : List ℕ) (r : Refusal) → IsExact r → IfFormRefused images r
      → IsReachedClass images class → IfRefusedMatrix images class eigen_error.Eigen
      → eigenvalues class ≡ r
  same_eigen class (not_solvable cycle) exact r first h = absurd (first.solvable cycle r.cycle)
  same_eigen class (eigenvalues other) exact r first h =
      ap eigenvalues
      (class_one class other first r.0 (eigen_fails images class h) (eigen_fails images other r.1))
  same_eigen class (range other sum) exact r first h =
      let one = class_one other class r.0 first (range_fails images other sum r.1)
      (eigen_fails images class h) in
      let here = subst (λ g. IfRefusedMatrix images g eigen_error.Eigen) (sym one) h in
      absurd (let most = (here.1 r.1.0).0 in let more = r.1.2 in omega (arith, most, more))
  same_eigen class (wide_split other candidate power row) exact r first h =
      let one = class_one other class r.0 first
      (wide_fails images other candidate power row exact r.1) (eigen_fails images class h) in
      let here = subst (λ g. IfRefusedMatrix images g eigen_error.Eigen) (sym one) h in
      absurd ((here.1 r.1.0).1 (wide_before images other candidate power row exact r.1))
  same_eigen class (limit_form variable) exact r first h =
      absurd (eigen_fails images class h (r.pass class first.is))
  same_eigen class (wide_form variable) exact r first h = absurd exact

  same_range : (class : List ℕ) (sum : ℤ) (r : Refusal) → IsExact r → IfFormRefused images r
      → IsReachedClass images class → IfRefusedMatrix images class (eigen_error.Range sum)
      → range class sum ≡ r
  same_range class sum (not_solvable cycle) exact r first h = absurd (first.solvable cycle r.cycle)
  same_range class sum (eigenvalues other) exact r first h =
      let one = class_one other class r.0 first (eigen_fails images other r.1)
      (range_fails images class sum h) in
      let here = subst (λ g. IfRefusedMatrix images g (eigen_error.Range sum)) (sym one) h in
      absurd (let most = (r.1.1 here.0).0 in let more = here.2 in omega (arith, most, more))
  same_range class sum (range other total) exact r first h =
      let one = class_one class other first r.0 (range_fails images class sum h)
      (range_fails images other total r.1) in
      ap₂ range one
      (h.1 ∙ (ap (λ g. pos (greatest_sum (length g) (class_matrix images g))) one ∙ sym r.1.1))
  same_range class sum (wide_split other candidate power row) exact r first h =
      let one = class_one other class r.0 first
      (wide_fails images other candidate power row exact r.1)
      (range_fails images class sum h) in
      let here = subst (λ g. IfRefusedMatrix images g (eigen_error.Range sum)) (sym one) h in
      absurd (here.3 (wide_before images other candidate power row exact r.1))
  same_range class sum (limit_form variable) exact r first h =
      absurd (range_fails images class sum h (r.pass class first.is))
  same_range class sum (wide_form variable) exact r first h = absurd exact

  same_long : (v : ℕ) (r : Refusal) → IsExact r → IfFormRefused images r → IsTooLong images v
      → limit_form v ≡ r
  same_long v (not_solvable cycle) exact r h = absurd (h.solvable cycle r.cycle)
  same_long v (eigenvalues class) exact r h =
      absurd (eigen_fails images class r.1 (h.pass class r.0.is))
  same_long v (range class sum) exact r h =
      absurd (range_fails images class sum r.1 (h.pass class r.0.is))
  same_long v (wide_split class candidate power row) exact r h =
      absurd (wide_fails images class candidate power row exact r.1 (h.pass class r.0.is))
  same_long v (limit_form other) exact r h =
      ap limit_form (long_one images (map_bounded (length images) images is) v other h.long r.long)
  same_long v (wide_form other) exact r h = absurd exact

  pub refusal_one : (r' r : Refusal) → IsExact r → IfFormRefused images r → IfFormRefused images r'
      → (r' ≡ r) ⊎ (cause_status r' ≡ status.Wide)
  refusal_one (not_solvable cycle) r exact is h = inl (same_cycle cycle r exact is h)
  refusal_one (eigenvalues class) r exact is h = inl (same_eigen class r exact is h.0 h.1)
  refusal_one (range class sum) r exact is h = inl (same_range class sum r exact is h.0 h.1)
  refusal_one (wide_split class candidate power row) r exact is h = inr refl
  refusal_one (limit_form variable) r exact is h = inl (same_long variable r exact is h)
  refusal_one (wide_form variable) r exact is h = inr refl
