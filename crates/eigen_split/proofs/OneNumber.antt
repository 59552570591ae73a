-- A matrix of one number.
--   single_forms, single_searched, single_splits, single_ascends, single_found     what the form 1 with it is
--   clause_within, clause_found     from the answer to a larger one to the clauses
use Rattle.std.proofs.Common.{◌≡◌, ◌≤◌, ℕ, zero, suc, List, [], ◌∷◌, length, refl, sym, ap, subst, ◌∙◌, arith, true, false, Result, Ok, Err, IfOk, IsOk, All, get_or, Vec, Global}
use mathlib.Core.Path.{fun_ext}
use Rattle.algebra.specs.Each.{Each}
use Rattle.algebra.specs.Ring.{CommRing}
use Rattle.algebra.specs.Fraction.{Fraction, ℚ}
use Rattle.algebra.proofs.Fractions.{ℚ_ring, ℚ_field}
use Rattle.vectors.specs.Lists.{row_of}
use Rattle.vectors.specs.Rows.{Row, same_row}
use Rattle.vectors.specs.Rows.{rows_of as row_space}
use Rattle.vectors.specs.Space.{Space, IsCombination, combine, Independent}
use Rattle.vectors.specs.Splitting.{shift}
use Rattle.vectors.specs.Matrices.{times_matrix, SplitsAt, AreForms, AreSearched}
use Rattle.vectors.proofs.Combinations as C
use Rattle.std.proofs.lemmas.List.Elements.{All-head}
use Rattle.frac128.specs.FracMeaning.{fraction_of}
use Rattle.frac128.specs.declared.fraction.Frac.{Frac}
use Rattle.linear.specs.Rows.{fractions_of, rows_of}
use Rattle.eigen_split.specs.declared.splitting.Split.{Split}
use Rattle.eigen_split.specs.Refusal.{Ascending, IsWithin, IsAnswer, IsSingle, IsSplitInto}
use Rattle.eigen_split.specs.declared.EigenError.{EigenError}

abbrev R : CommRing Fraction
R = ℚ_ring

abbrev S : Space ℚ_ring (Row ℚ_field 1)
S = row_space ℚ_field 1

module _ (a : Fraction) where
  abbrev rows : List (List Fraction)
  rows = (a ∷ []) ∷ []

  abbrev t : Row ℚ_field 1 → Row ℚ_field 1
  t v = times_matrix 1 rows v

  multiplied : (v : Row ℚ_field 1) → t v ≡ S.scale a v
  multiplied v = same_row ℚ_field 1 (t v) (S.scale a v) (fun_ext each)
    where
      each : (i : ℕ) → (t v).0 i ≡ (S.scale a v).0 i
      each zero = R.add-zero (ℚ.mul (v.0 0) a) ∙ R.mul_comm (v.0 0) a
      each (suc i) = (t v).1 (suc i) (omega arith) ∙ sym ((S.scale a v).1 (suc i) (omega arith))

  killed : (v : Row ℚ_field 1) → shift S t a v ≡ S.zero
  killed v = ap (λ w. S.add w (S.neg (S.scale a v))) (multiplied v)
      ∙ S.add_comm (S.scale a v) (S.neg (S.scale a v)) ∙ S.neg-add (S.scale a v)

  one_row : Row ℚ_field 1
  one_row = row_of ℚ_field 1 (ℚ.one ∷ [])

  made : (v : Row ℚ_field 1) → v ≡ combine S v.0 (one_row ∷ [])
  unfolding one_row
  made v = same_row ℚ_field 1 v (combine S v.0 (one_row ∷ [])) (fun_ext each)
    where
      each : (i : ℕ) → v.0 i ≡ (combine S v.0 (one_row ∷ [])).0 i
      each zero = sym (R.add-zero (ℚ.mul (v.0 0) ℚ.one) ∙ R.mul-one (v.0 0))
      each (suc i) = v.1 (suc i) (omega arith)
          ∙ sym ((combine S v.0 (one_row ∷ [])).1 (suc i) (omega arith))

  free : Independent S (one_row ∷ [])
  unfolding one_row
  free f e zero l = sym (R.add-zero (ℚ.mul (f 0) ℚ.one) ∙ R.mul-one (f 0))
      ∙ ap (λ (w : Row ℚ_field 1). w.0 0) e
  free f e (suc i) l = absurd (omega arith)

  searched : AreSearched 1 rows ((ℚ.one ∷ []) ∷ []) (a ∷ [])
  unfolding Each one_row
  searched = record {
    one_each = refl;
    killed = (killed one_row, tt);
    independent = free;
    taken = λ p l c h v k. (v.0, made v);
  }

  forms_of : AreForms 1 rows ((ℚ.one ∷ []) ∷ []) (a ∷ [])
  unfolding Each one_row
  forms_of = record {
    count = refl;
    value_count = refl;
    widths = (refl, tt);
    independent = free;
    split = (subst (IsCombination S []) (sym (killed one_row)) (C.combination-zero S []), tt);
  }

  splits : SplitsAt 1 rows
  splits = record { values = a ∷ []; is_zero = killed }

-- ---- as the code has it
one_row_is : (row : List Frac) (x : Frac) → length row ≡ 1 → x ≡ get_or row 0 x
    → fractions_of row ≡ fraction_of x ∷ []
one_row_is [] x l e = absurd (omega arith)
one_row_is (y ∷ []) x l e = ap (λ z. fraction_of z ∷ []) (sym e)
one_row_is (y ∷ z ∷ row) x l e = absurd (omega arith)

pub one_matrix : (xs : List (Vec Frac Global)) {row : Vec Frac Global} {x : Frac} → length xs ≡ 1
    → All (λ v. length v.items ≡ length xs) xs → row ≡ get_or xs 0 row → x ≡ get_or row.items 0 x
    → rows_of xs ≡ (fraction_of x ∷ []) ∷ []
one_matrix [] l w e q = absurd (omega arith)
one_matrix (v ∷ []) {row = row} {x = x} l w e q =
    ap (λ (v : Vec Frac Global). fractions_of v.items ∷ []) (sym e)
    ∙ ap (λ r. r ∷ []) (one_row_is row.items x (ap (λ (v : Vec Frac Global). length v.items) e
    ∙ All-head (λ (r : Vec Frac Global). length r.items ≡ 1) v [] w) q)
one_matrix (v ∷ u ∷ xs) l w e q = absurd (omega arith)

module _ (n : ℕ) (rows forms : List (List Fraction)) (values : List Fraction) (a : Fraction)
    (one : n ≡ 1) (is : rows ≡ (a ∷ []) ∷ []) (s : IsSingle a forms values) where
  carry : (P : ℕ → List (List Fraction) → List (List Fraction) → List Fraction → Type 0)
      → P 1 ((a ∷ []) ∷ []) ((ℚ.one ∷ []) ∷ []) (a ∷ []) → P n rows forms values
  carry P h = subst (λ n. P n rows forms values) (sym one)
      (subst (λ m. P 1 m forms values) (sym is)
      (subst (λ f. P 1 ((a ∷ []) ∷ []) f values) (sym s.forms_are)
      (subst (P 1 ((a ∷ []) ∷ []) ((ℚ.one ∷ []) ∷ [])) (sym s.values_are) h)))

  pub single_forms : AreForms n rows forms values
  single_forms = carry (λ n rows forms values. AreForms n rows forms values) (forms_of a)

  pub single_searched : AreSearched n rows forms values
  single_searched = carry (λ n rows forms values. AreSearched n rows forms values) (searched a)

  pub single_splits : SplitsAt n rows
  single_splits = carry (λ n rows forms values. SplitsAt n rows) (splits a)

  pub single_ascends : Ascending values
  unfolding Each
  single_ascends = subst Ascending (sym s.values_are) (tt, tt)

  pub single_found : IsSplitInto n rows forms values
  single_found = record {
    single = λ e b h. subst (λ c. IsSingle c forms values)
        (ap (λ m. get_or (get_or m 0 []) 0 ℚ.zero) (sym is ∙ h)) s;
    search = λ l. absurd (omega (arith, one, l));
  }

-- ---- from an answer to the clauses
module _ (n : ℕ) (rows : List (List Fraction)) where
  pub clause_within : (r : Result Split EigenError) → IsAnswer n rows r → IsOk r → IsWithin n rows
  clause_within (Ok found) a k = a.4
  clause_within (Err e) a k = absurd (let z : false ≡ true = k in cc)

  pub clause_found : 2 ≤ n → (r : Result Split EigenError) → IsAnswer n rows r
      → IfOk r (λ found.
      IsSplitInto n rows (rows_of found.forms.items) (fractions_of found.values.items))
  clause_found some (Ok found) a = record {
    single = λ e b h. absurd (omega (arith, e, some));
    search = λ l. a.5;
  }
  clause_found some (Err e) a = tt

pub at_least_two : (n m : ℕ) → 1 ≤ n → m ≡ n → (m ≡ 1 → ⊥) → 2 ≤ n
at_least_two zero m l e ne = absurd (omega (arith, l))
at_least_two (suc zero) m l e ne = absurd (ne e)
at_least_two (suc (suc n)) m l e ne = omega arith
