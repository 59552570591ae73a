-- The divisions behind a closing, test by test, and what they prove together.
--   branch_tests, branches_done     the tests of one branch and those of the ones behind it
--   test_next, tests_done           the next of one branch
--   list_members                    the elements of a certificate's list are members of the closed list's ideal
--   cofactors_count                 a division has a cofactor for each element
--   pushed_each                     a fact of each item of a list, and of one more
use Rattle.std.proofs.Common.{◌≡◌, inl, inr, ℕ, suc, ◌+◌, ◌-◌, ◌<◌, ◌≤◌, List, [], ◌∷◌, ◌++◌, get_or, drop, length, slice_get, Some, refl, sym, ap, subst, ◌∙◌, add-one, arith}
use Rattle.std.proofs.lemmas.List.{drop_all, get_or_append_left, get_or_default, get_or_push}
use Rattle.std.proofs.lemmas.Bool.{cases_lt}
use Rattle.algebra.specs.Each.{Each}
use Rattle.algebra.specs.In.{In}
use Rattle.algebra.proofs.Each.{each-append}
use Rattle.algebra.proofs.In.{each_in, each_from, in_get}
use Rattle.algebra.specs.Fraction.{Fraction, ℚ, rationals}
use Rattle.polynomials.specs.Terms.{Terms}
use Rattle.polynomials.specs.Order.{grevlex}
use Rattle.polynomials.specs.Polynomial.{Arity, AllArity, IsPolynomial}
use Rattle.ideals.specs.Members.{IsMember}
use Rattle.machines.specs.Division as division
use Rattle.machines.specs.Journal.{Entry}
use Rattle.machines.specs.Run.{Ends}
use Rattle.machines.proofs.Dividing.{kept_begun, kept_run}
use Rattle.machines.proofs.Elements.{IsElement}
use Rattle.machines.proofs.Places.{in_slice}
use Rattle.polynomials.proofs.Orders.{grevlex_order}
use Rattle.algebra.proofs.Fractions.{ℚ_field}
use Rattle.loops.specs.Program.{Expr, Program}
use Rattle.closures.specs.Certified.{IsListOf}
use Rattle.closures.specs.Closing.{closed}
use Rattle.closures.specs.Closure.{InClosure}
use Rattle.closures.specs.Ends.{ComesNext, IsClosure}
use Rattle.closures.specs.Proving.{tests_of, tests_from}
use Rattle.closures.proofs.Closures.{closure_has}
use Rattle.closures.proofs.Ended.{closed_is}
use Rattle.closures.proofs.Listed.{others_in, drop_item}

element_more : (k j : ℕ) (q : Terms Fraction) (qs : List (Terms Fraction))
    → tests_of k j (q ∷ qs)
    ≡ record { branch = k; number = j; element = q } ∷ tests_of k (suc j) qs
unfolding tests_of
element_more k j q qs = refl

element_none : (k j : ℕ) → tests_of k j [] ≡ []
unfolding tests_of
element_none k j = refl

module _ (bs : List (Terms Fraction)) where
  branch_more : (k j : ℕ) → tests_from k (suc j) bs ≡ tests_of k 1 bs ++ tests_from (suc k) j bs
  unfolding tests_from
  branch_more k j = refl

  branch_none : (k : ℕ) → tests_from k 0 bs ≡ []
  unfolding tests_from
  branch_none k = refl

  pub branch_tests : (n b : ℕ) → b < n → tests_from (suc b) (n - b) bs
      ≡ tests_of (suc b) 1 bs ++ tests_from (suc (b + 1)) (n - (b + 1)) bs
  branch_tests n b l =
      let a : n - b ≡ suc (n - (b + 1)) = omega (arith, l) in
      ap (λ k. tests_from (suc b) k bs) a
      ∙ branch_more (suc b) (n - (b + 1))
      ∙ ap (λ k. tests_of (suc b) 1 bs ++ tests_from (suc k) (n - (b + 1)) bs) (sym (add-one b))

  pub branches_done : (n b : ℕ) → n ≤ b → tests_from (suc b) (n - b) bs ≡ []
  branches_done n b l =
      let a : n - b ≡ 0 = omega (arith, l) in
      ap (λ k. tests_from (suc b) k bs) a ∙ branch_none (suc b)

  pub test_next : (k i : ℕ) → i < length bs → tests_of k (suc i) (drop i bs)
      ≡ record { branch = k; number = suc i; element = get_or bs i [] }
      ∷ tests_of k (suc (i + 1)) (drop (i + 1) bs)
  test_next k i l =
      let p = get_or bs i [] in
      ap (tests_of k (suc i)) (drop_item bs i p l (get_or_default bs i [] p l))
      ∙ element_more k (suc i) p (drop (suc i) bs)
      ∙ ap (λ j. record { branch = k; number = suc i; element = p } ∷ tests_of k (suc j)
      (drop j bs))
      (sym (add-one i))

  pub tests_done : (k i : ℕ) → length bs ≤ i → tests_of k (suc i) (drop i bs) ≡ []
  tests_done k i l = ap (tests_of k (suc i)) (drop_all i bs l) ∙ element_none k (suc i)

pub pushed_each : {X : Type 0} (R : ℕ → X → Type 0) (xs : List X) (x d : X)
    → ((i : ℕ) → i < length xs → R i (get_or xs i d)) → R (length xs) x → (i : ℕ)
    → i < length xs + 1 → R i (get_or (xs ++ x ∷ []) i d)
pushed_each R xs x d h r i l = elim (cases_lt i (length xs)) [
  | inl k ↦ subst (R i) (sym (get_or_append_left xs (x ∷ []) d i k)) (h i k)
  | inr k ↦
      let e : i ≡ length xs = omega (arith, k, l) in
      subst (λ y. R i y) (sym (get_or_push xs x d i (sym e))) (subst (λ j. R j x) (sym e) r)
]

pub cofactors_count : (m : ℕ) (gs : List (Terms Fraction))
    → ((g : Terms Fraction) → In g gs → IsElement ℚ_field grevlex grevlex_order m g)
    → (p : Terms Fraction) → IsPolynomial ℚ grevlex m p
    → (d : Ends (division.next rationals grevlex gs) (division.initial_state gs p))
    → length d.last.cofactors ≡ length gs
cofactors_count m gs es p pp d =
    (kept_run ℚ_field grevlex grevlex_order m gs elements p (division.initial_state gs p) d.last
    d.events d.run (kept_begun ℚ_field grevlex grevlex_order m gs elements p pp)).count
  where
    elements : (k : ℕ) (g : Terms Fraction) → slice_get gs k ≡ Some g
        → IsElement ℚ_field grevlex grevlex_order m g
    elements k g at = es g (in_slice gs k g at)

module _ {At : Type 0} (program : Program (Expr At)) where
  abbrev m : ℕ
  m = length program.names

  module _ (P : List (Terms Fraction)) (ps : Each (IsPolynomial ℚ grevlex m) P)
      (es : List Entry) (gs : List (Terms Fraction)) (ends : ComesNext program P es (closed gs))
    where
      is : IsClosure program P gs
      is = closed_is program P ps es gs ends

      arities : AllArity m P
      arities = each_from P (λ p i. (each_in (IsPolynomial ℚ grevlex m) P p ps i).arity)

      P_member : Each (IsMember ℚ m gs) P
      P_member =
          each_from P (λ p i. is.generates.all p (each_in (Arity m) P p arities i)
          (each_in (InClosure program P) P p (closure_has program P arities) i))

      gs_member : (g : Terms Fraction) → In g gs → IsMember ℚ m gs g
      gs_member g i =
          is.generates.all g (each_in (Arity m) gs g is.generates.arities i)
          (is.reduced.members g i)

      pub list_members : (bs : List (Terms Fraction)) → IsListOf P gs bs → (i : ℕ)
          → i < length bs → IsMember ℚ m gs (get_or bs i [])
      list_members bs h i l =
          each_in (IsMember ℚ m gs) bs (get_or bs i [])
          (subst (Each (IsMember ℚ m gs)) (sym h.is)
          (each-append (IsMember ℚ m gs) P h.others P_member
          (each_from h.others (λ g n. gs_member g (others_in P g gs h.others h.are n)))))
          (in_get bs i [] l)
