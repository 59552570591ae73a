-- No budget is exhausted where each loop has a finished journal within it, with that of the code before it.
--   Within c budget j       a finished journal of the loop at the place j, within what is left of the budget, from what is given to it
--   within_at               each loop that is analysed has one
--   same_given              what is given to a loop is one list, with one number of units left
--   never_exhausted             in a loop
--   never_exhausted_between     nor in the code before one
use Rattle.std.proofs.Common.{◌≡◌, ◌⊎◌, inl, inr, ℕ, zero, suc, ◌+◌, ◌≤◌, List, [], ◌∷◌, arith, refl, sym, ap, subst, Option, Some, None}
use Rattle.algebra.specs.Fraction.{Fraction}
use Rattle.polynomials.specs.Terms.{Terms}
use Rattle.machines.specs.Journal.{Entry, units_of}
use Rattle.loops.specs.Program.{Expr, Program, Statement}
use Rattle.rounds.specs.Journal.{IsFinishedBy, IsOutFrom}
use Rattle.rounds.proofs.Forms.{enough_budget}
use Rattle.corollaries.proofs.Budgets.{more_units}
use Rattle.corollaries.specs.Between.{between, IsMapped, IsExhaustedLeading}
use Rattle.loops.specs.Chain.{Chain, code_at, loop_at, IsChain}
use Rattle.corollaries.specs.Analysed.{Analysed, first, further, GivenTo, at_first, behind}
use Rattle.corollaries.proofs.Analysed.{analysed_basis, analysed_one}
use Rattle.corollaries.proofs.Mapped.{mapped_one}

-- code that has been led through within the budget doesn't spend it
not_exhausted : {At : Type 0} (program : Program (Expr At)) (code : List (Statement (Expr At)))
    (gs : List (Terms Fraction)) (es fs : List Entry) (ks : List (Terms Fraction)) (n : ℕ)
    → IsMapped program code gs es ks → units_of es ≤ n → IsExhaustedLeading program code gs n fs → ⊥
not_exhausted program [] gs es fs ks n mapped few out = absurd out
not_exhausted program (a ∷ code) gs es fs ks n mapped few out =
    let M = between program (a ∷ code) gs in
    let l = more_units M.next M.start [] es fs mapped.last n mapped.finished out in
    omega (arith, few, l)

module _ {At : Type 0} (c : Chain (Expr At)) (w : IsChain c) (budget : ℕ) where
  record Within (j : ℕ) : Type 0 where
    left : ℕ
    given : Option (List (Terms Fraction))
    known : GivenTo c budget j left given
    entries : List Entry
    rounds : ℕ
    list : List (Terms Fraction)
    finished : IsFinishedBy (loop_at c j) given entries rounds list
    few : units_of entries ≤ left

  -- what is left is a number
  record Left (n k : ℕ) : Type 0 where
    left : ℕ
    is : n + left ≡ k

  what_is_left : (n k : ℕ) → n ≤ k → Left n k
  what_is_left zero k l = record { left = k; is = omega arith }
  what_is_left (suc n) zero l = absurd (omega (arith, l))
  what_is_left (suc n) (suc k) l = let h = what_is_left n k (omega (arith, l)) in
      record { left = h.left; is = (let e = h.is in omega (arith, e)) }

  within_at : (n : ℕ) (gs : List (Terms Fraction)) → Analysed c budget n gs → (j : ℕ) → j ≤ n
      → Within j
  within_at _ _ (first es k gs done few) j l =
      subst Within (let z : 0 ≡ j = omega (arith, l) in z) (record {
        left = budget;
        given = None;
        known = at_first;
        entries = es;
        rounds = k;
        list = gs;
        finished = done;
        few = few;
      })
  within_at _ _ (further n gs fs ks es k hs before inside mapped done few) j l = go (let z : (j ≤ n)
      ⊎ (j ≡ suc n) = grind arith in z) (within_at n gs before j)
    where
      go : (j ≤ n) ⊎ (j ≡ suc n) → (j ≤ n → Within j) → Within j
      go (inl k) earlier = earlier k
      go (inr z) earlier =
          let h = what_is_left (units_of fs) budget (omega (arith, few)) in
          let e = h.is in
          subst Within (sym z) (record {
            left = h.left;
            given = Some ks;
            known = behind n gs fs ks h.left before mapped h.is;
            entries = es;
            rounds = k;
            list = hs;
            finished = done;
            few = omega (arith, few, e);
          })

  same_given : (j left more : ℕ) (given other : Option (List (Terms Fraction)))
      → GivenTo c budget j left given → GivenTo c budget j more other → (left ≡ more)
      × (given ≡ other)
  same_given _ _ _ _ _ at_first at_first = (refl, refl)
  same_given _ _ _ _ _ (behind j gs fs ks left a mapped e) (behind _ hs es ls more b led2 f) =
      let one : gs ≡ hs = analysed_one c w budget j gs hs a (analysed_basis c w budget j hs b) in
      let u = mapped_one c.first (code_at c (suc j)) hs fs es ks ls
      (subst (λ l. IsMapped c.first (code_at c (suc j)) l fs ks) one mapped) led2 in
      let v = ap units_of u.0 in (omega (arith, e, f, v), ap Some u.1)

  pub never_exhausted : (n : ℕ) (gs : List (Terms Fraction)) → Analysed c budget n gs
      → (j left : ℕ) (given : Option (List (Terms Fraction))) → j ≤ n
      → GivenTo c budget j left given → (es : List Entry) → IsOutFrom (loop_at c j) given None left
      es → ⊥
  never_exhausted n gs a j left given l known es out =
      let here = within_at n gs a j l in
      let same = same_given j here.left left here.given given here.known known in
      let few : units_of here.entries ≤ left = (let f = here.few in let e = same.0 in
      omega (arith, f, e)) in
      enough_budget (loop_at c j) given here.entries es here.rounds left here.list
      (subst (λ o. IsFinishedBy (loop_at c j) o here.entries here.rounds here.list) same.1
      here.finished) few out

  pub never_exhausted_between : (n : ℕ) (gs : List (Terms Fraction)) → Analysed c budget n gs
      → (j : ℕ) (hs : List (Terms Fraction)) → suc j ≤ n → Analysed c budget j hs
      → (es : List Entry) → IsExhaustedLeading c.first (code_at c (suc j)) hs budget es → ⊥
  never_exhausted_between _ _ (first es k gs done few) j hs l a fs out = absurd (omega (arith, l))
  never_exhausted_between _ _ (further n gs fs ks es k ls before inside mapped done few) j hs l a
      gs2
      out =
      go (let z : (suc j ≤ n) ⊎ (j ≡ n) = grind arith in z)
      (λ m. never_exhausted_between n gs before j
      hs m a gs2 out)
    where
      here : j ≡ n → ⊥
      here z =
          let one : gs ≡ hs = analysed_one c w budget n gs hs before (analysed_basis c w budget n hs
          (subst (λ i. Analysed c budget i hs) z a)) in
          not_exhausted c.first (code_at c (suc n)) hs fs gs2 ks budget
          (subst (λ l. IsMapped c.first (code_at c (suc n)) l fs ks) one mapped)
          (omega (arith, few))
          (subst (λ i. IsExhaustedLeading c.first (code_at c (suc i)) hs budget gs2) z out)

      go : (suc j ≤ n) ⊎ (j ≡ n) → (suc j ≤ n → ⊥) → ⊥
      go (inl m) earlier = earlier m
      go (inr z) earlier = here z
