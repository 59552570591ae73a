-- The lists of a round one after another: whole orbits, or in parts, the first numbers of iterations one by one and then those from some number on.
--   any_iterations, later_iterations     an orbit, and one from some number of iterations on
--   own_list, no_iterations         before the first branch the list so far is the round's own; so is what is a member after no iteration
--   one_iteration_more              from what is a member after n iterations, by one iteration
--   met_iteration, met_orbit        the list so far with one number of iterations more, and with the orbit from there on
--   first_so_far               the orbit of the first branch is the list so far, where its form is the state from 0 on
--   to_next_branch                behind a branch no iteration of the next one is taken
use Rattle.std.proofs.Common.{◌≡◌, ◌⊎◌, inl, inr, ℕ, zero, suc, pred, ◌-◌, ◌<◌, ◌≤◌, List, [], ◌∷◌, ◌++◌, replicate, length, arith, refl, sym, ap, subst, ◌∙◌}
use Rattle.algebra.proofs.Basics.{equal_or_not}
use Rattle.algebra.specs.Fraction.{Fraction, ℚ}
use Rattle.polynomials.specs.Terms.{Terms}
use Rattle.polynomials.specs.Polynomial.{AllArity}
use Rattle.ideals.specs.Members.{IsMember}
use Rattle.loops.specs.Program.{Expr, Program}
use Rattle.rounds.specs.Generate.{IsMeet}
use Rattle.rounds.specs.Results.{orbit_iterations}
use Rattle.rounds.specs.Round.{IsOrbitAt, IsOrbit, IsAfter, IsSoFar}
use Rattle.rounds.specs.Word.{AnyIterations, Iterations, LaterIterations, FirstIterations, after_word}
use Rattle.rounds.proofs.Word.{after_word-append, arity-after_word}

-- ---- numbers of iterations
one_more : (n i : ℕ) → replicate n i ++ i ∷ [] ≡ i ∷ replicate n i
one_more zero i = refl
one_more (suc n) i = ap (λ w. i ∷ w) (one_more n i)

reached : (d t : ℕ) → d ≤ t → (n : ℕ) × (orbit_iterations d n ≡ t)
reached zero t l = (t, refl)
reached (suc d) t l = (t - suc d, omega (arith, l))

far : (d n : ℕ) → d ≤ orbit_iterations d n
far zero n = omega arith
far (suc d) n = omega arith

before_or_later : (d t : ℕ) → (t ≤ pred d) ⊎ (d ≤ t)
before_or_later zero t = inr (omega arith)
before_or_later (suc d) t = grind arith

module _ {At : Type 0} (program : Program (Expr At)) (gs : List (Terms Fraction)) where
  abbrev m : ℕ
  m = length program.names

  abbrev In : ℕ → ℕ → Terms Fraction → Type 0
  In i t p = IsMember ℚ m gs (after_word program (replicate t i) p)

  no_iteration : (i t : ℕ) (p : Terms Fraction) → t ≡ 0 → after_word program (replicate t i) p ≡ p
  unfolding after_word
  no_iteration i t p e = ap (λ n. after_word program (replicate n i) p) e

  moved : (i j t u : ℕ) (p : Terms Fraction) → j ≡ i → u ≡ t → In i t p → In j u p
  moved i j t u p e f h = subst (λ n. In n u p) (sym e) (subst (λ n. In i n p) (sym f) h)

  -- ---- orbits
  pub later_iterations : (i d : ℕ) (hs : List (Terms Fraction))
      → IsOrbitAt program gs i (orbit_iterations d) hs → IsAfter program gs (LaterIterations i d) hs
  later_iterations i d hs o = record {
    arities = o.arities;
    only = λ p a h j t r. let n = reached d t r.1 in
        moved i j (orbit_iterations d n.0) t p r.0 (sym n.1) (o.only p a h n.0);
    all = λ p a h. o.all p a (λ n. h i (orbit_iterations d n) (refl, far d n));
  }

  pub any_iterations : (i : ℕ) (hs : List (Terms Fraction)) → IsOrbit program gs i hs
      → IsAfter program gs (AnyIterations i) hs
  any_iterations i hs o = record {
    arities = o.arities;
    only = λ p a h j t e. moved i j t t p e refl (o.only p a h t);
    all = λ p a h. o.all p a (λ n. h i n refl);
  }

  -- ---- before the first iteration
  module _ (ga : AllArity (length program.names) gs) where
    pub own_list : IsAfter program gs (FirstIterations 0 0) gs
    own_list = record {
      arities = ga;
      only = λ p a h i t r.
          let few : i ≤ 1 = r.1 in
          let none : t ≤ 0 = r.2 (let some : 0 < i = r.0 in omega (arith, some, few)) in
          subst (IsMember ℚ m gs) (sym (no_iteration i t p (omega (arith, none)))) h;
      all = λ p a h. subst (IsMember ℚ m gs) (no_iteration 1 0 p refl)
          (h 1 0 (omega arith, omega arith, λ e. omega arith));
    }

    pub no_iterations : (i : ℕ) → IsAfter program gs (Iterations i 0) gs
    no_iterations i = record {
      arities = ga;
      only = λ p a h j t r. subst (IsMember ℚ m gs) (sym (no_iteration j t p r.1)) h;
      all = λ p a h. subst (IsMember ℚ m gs) (no_iteration i 0 p refl) (h i 0 (refl, refl));
    }

  -- ---- one iteration more
  iteration_more : (n i : ℕ) (p : Terms Fraction)
      → after_word program (replicate n i) (after_word program (replicate 1 i) p)
      ≡ after_word program (replicate (suc n) i) p
  iteration_more n i p = sym (after_word-append program (replicate n i) (replicate 1 i) p)
      ∙ ap (λ w. after_word program w p) (one_more n i)

  pub one_iteration_more : (i n : ℕ) (ks ls : List (Terms Fraction))
      → IsAfter program gs (Iterations i n) ks → IsOrbitAt program ks i (λ j. 1) ls
      → IsAfter program gs (Iterations i (suc n)) ls
  one_iteration_more i n ks ls before one = record {
    arities = one.arities;
    only = λ p a h j t r.
        moved i j (suc n) t p r.0 r.1
        (subst (IsMember ℚ m gs) (iteration_more n i p)
        (before.only (after_word program (replicate 1 i) p)
        (arity-after_word program (replicate 1 i) p a) (one.only p a h 0) i n (refl, refl)));
    all = λ p a h. one.all p a (λ j. before.all (after_word program (replicate 1 i) p)
        (arity-after_word program (replicate 1 i) p a)
        (λ k t r. moved i k n t _ r.0 r.1
        (subst (IsMember ℚ m gs) (sym (iteration_more n i p)) (h i (suc n) (refl, refl)))));
  }

  -- ---- the list so far
  pub met_iteration : (b n : ℕ) (hs ks ls : List (Terms Fraction))
      → IsAfter program gs (FirstIterations b n) hs
      → IsAfter program gs (Iterations (suc b) (suc n)) ks
      → IsMeet (length program.names) hs ks ls → IsAfter program gs (FirstIterations b (suc n)) ls
  met_iteration b n hs ks ls before iteration meet = record {
    arities = meet.arities;
    only = λ p a h i t r. let both = meet.only p a h in
        by p i t r (before.only p a both.0) (iteration.only p a both.1) (equal_or_not i (suc b));
    all = λ p a h. meet.all p a (
      before.all p a (λ i t r. h i t (
        r.0,
        r.1,
        λ e. let few : t ≤ n = r.2 e in omega (arith, few),
      )),
      iteration.all p a (λ i t r. h i t (
        (let e : i ≡ suc b = r.0 in omega (arith, e)),
        (let e : i ≡ suc b = r.0 in omega (arith, e)),
        λ e. let f : t ≡ suc n = r.1 in omega (arith, f),
      )),
    );
  }
    where
      by : (p : Terms Fraction) (i t : ℕ) → FirstIterations b (suc n) i t
          → ((j u : ℕ) → FirstIterations b n j u → In j u p)
          → ((j u : ℕ) → Iterations (suc b) (suc n) j u → In j u p)
          → (i ≡ suc b) ⊎ (i ≡ suc b → ⊥) → In i t p
      by p i t r few last (inr other) = few i t (r.0, r.1, λ e. absurd (other e))
      by p i t r few last (inl e) = at (let l : t ≤ suc n = r.2 e in grind (arith, l))
        where
          at : (t ≤ n) ⊎ (t ≡ suc n) → In i t p
          at (inl l) = few i t (r.0, r.1, λ e. l)
          at (inr f) = last i t (e, f)

  pub met_orbit : (b d : ℕ) (hs ks ls : List (Terms Fraction))
      → IsAfter program gs (FirstIterations b (pred d)) hs
      → IsAfter program gs (LaterIterations (suc b) d) ks
      → IsMeet (length program.names) hs ks ls → IsSoFar program gs (suc b) ls
  met_orbit b d hs ks ls before orbit meet = record {
    arities = meet.arities;
    only = λ p a h i t r. let both = meet.only p a h in
        by p i t r.0 r.1 (before.only p a both.0) (orbit.only p a both.1)
        (equal_or_not i (suc b));
    all = λ p a h. meet.all p a (
      before.all p a (λ i t r. h i t (r.0, r.1)),
      orbit.all p a (λ i t r. h i t (
        (let e : i ≡ suc b = r.0 in omega (arith, e)),
        (let e : i ≡ suc b = r.0 in omega (arith, e)),
      )),
    );
  }
    where
      by : (p : Terms Fraction) (i t : ℕ) → 0 < i → i ≤ suc b
          → ((j u : ℕ) → FirstIterations b (pred d) j u → In j u p)
          → ((j u : ℕ) → LaterIterations (suc b) d j u → In j u p)
          → (i ≡ suc b) ⊎ (i ≡ suc b → ⊥) → In i t p
      by p i t s l few many (inr other) = few i t (s, l, λ e. absurd (other e))
      by p i t s l few many (inl e) = elim (before_or_later d t) [
        | inl u ↦ few i t (s, l, λ e. u)
        | inr u ↦ many i t (e, u)
      ]

  -- of the first branch, where its form is the state from 0 on
  pub first_so_far : (hs : List (Terms Fraction)) → IsAfter program gs (LaterIterations 1 0) hs
      → IsSoFar program gs 1 hs
  first_so_far hs o = record {
    arities = o.arities;
    only = λ p a h i t r.
        o.only p a h i t (
          (let s : 0 < i = r.0 in let l : i ≤ 1 = r.1 in omega (arith, s, l)),
          omega arith,
        );
    all = λ p a h. o.all p a (λ i t r. h i t (
      (let e : i ≡ 1 = r.0 in omega (arith, e)),
      (let e : i ≡ 1 = r.0 in omega (arith, e)),
    ));
  }

  pub to_next_branch : (b : ℕ) (hs : List (Terms Fraction)) → IsSoFar program gs (suc b) hs
      → IsAfter program gs (FirstIterations (suc b) 0) hs
  to_next_branch b hs so_far = record {
    arities = so_far.arities;
    only = λ p a h i t r. by p i t r (so_far.only p a h) (equal_or_not i (suc (suc b)));
    all = λ p a h. so_far.all p a (λ i t r. h i t (
      r.0,
      (let l : i ≤ suc b = r.1 in omega (arith, l)),
      λ e. let l : i ≤ suc b = r.1 in absurd (omega (arith, l, e)),
    ));
  }
    where
      by : (p : Terms Fraction) (i t : ℕ) → FirstIterations (suc b) 0 i t
          → ((j u : ℕ) → (0 < j) × (j ≤ suc b) → In j u p)
          → (i ≡ suc (suc b)) ⊎ (i ≡ suc (suc b) → ⊥) → In i t p
      by p i t r few (inr other) = few i t (
        r.0,
        (let l : i ≤ suc (suc b) = r.1 in grind (arith, l, other)),
      )
      by p i t r few (inl e) =
          let none : t ≤ 0 = r.2 e in
          subst (IsMember ℚ m gs) (no_iteration 1 0 p refl
          ∙ sym (no_iteration i t p (omega (arith, none))))
          (few 1 0 (omega arith, omega arith))
