-- A certificate has exactly one verdict.
--   verdict_unique     at most one, whatever the program
--   verdict_exists     at least one
--   first_failure      the first number below a bound at which a decided property fails, if there is one
use Rattle.std.proofs.Common.{◌≡◌, ℕ, zero, suc, ◌<◌, ◌⊎◌, inl, inr, length, arith, refl, sym, ap, ap₂, subst}
use Rattle.algebra.proofs.Fractions.{ℚ_ring, fraction_eq, fraction_eq_refl, fraction_eq_true}
use Rattle.polynomials.proofs.SameDecided.{decide_same}
use Rattle.loops.specs.Program.{Expr, Program}
use Rattle.loops.specs.First.{IsFirstFailure}
use Rattle.loops.specs.Certificate.{Certificate, IsVerdict, Verdict, valid, start_fails, step_fails, PassesStart, PassesStep}

pub first_failure : (P : ℕ → Type 0) → ((i : ℕ) → P i ⊎ (P i → ⊥)) → (n : ℕ)
    → ((i : ℕ) → i < n → P i) ⊎ ((i : ℕ) × IsFirstFailure P n i)
first_failure P decide zero = inl (λ i l. absurd (omega arith))
first_failure P decide (suc n) = go (first_failure P decide n) (decide n)
  where
    go : ((i : ℕ) → i < n → P i) ⊎ ((i : ℕ) × IsFirstFailure P n i) → P n ⊎ (P n → ⊥)
        → ((i : ℕ) → i < suc n → P i) ⊎ ((i : ℕ) × IsFirstFailure P (suc n) i)
    go (inr (i, f)) d = let l : i < n = f.within in
        inr (i, record { within = omega arith; fails = f.fails; before = f.before })
    go (inl all) (inl here) = inl (λ i l. at i (grind arith))
      where
        at : (i : ℕ) → (i < n) ⊎ (i ≡ n) → P i
        at i (inl l) = all i l
        at i (inr e) = subst P (sym e) here
    go (inl all) (inr not_here) = inr (
      n,
      record { within = omega arith; fails = not_here; before = all },
    )

module _ {At : Type 0} (program : Program (Expr At)) (c : Certificate) where
  decided_verdict : ((i : ℕ) → PassesStart program c i ⊎ (PassesStart program c i → ⊥))
      → ((b i : ℕ) → PassesStep program c b i ⊎ (PassesStep program c b i → ⊥))
      → (v : Verdict) × IsVerdict program c v
  decided_verdict ds dt = go (first_failure (PassesStart program c) ds (length c.basis))
      (first_failure Branch decide (length program.branches))
    where
      Branch : ℕ → Type 0
      Branch b = (i : ℕ) → i < length c.basis → PassesStep program c b i

      decide : (b : ℕ) → Branch b ⊎ (Branch b → ⊥)
      decide b = either (first_failure (PassesStep program c b) (dt b) (length c.basis))
        where
          either : Branch b ⊎ ((i : ℕ) × IsFirstFailure (PassesStep program c b) (length c.basis) i)
              → Branch b ⊎ (Branch b → ⊥)
          either (inl all) = inl all
          either (inr (i, f)) = inr (λ all. f.fails (all i f.within))

      go : ((i : ℕ) → i < length c.basis → PassesStart program c i)
          ⊎ ((i : ℕ) × IsFirstFailure (PassesStart program c) (length c.basis) i)
          → ((b : ℕ) → b < length program.branches → Branch b)
          ⊎ ((b : ℕ) × IsFirstFailure Branch (length program.branches) b)
          → (v : Verdict) × IsVerdict program c v
      go (inr (i, f)) r = (
        start_fails i,
        record { within = f.within; fails = f.fails; before = f.before },
      )
      go (inl starts) (inl steps) =
          (valid, record { starts = starts; steps = λ b i l k. steps b l i k })
      go (inl starts) (inr (b, f)) =
          in_branch (first_failure (PassesStep program c b) (dt b) (length c.basis))
        where
          in_branch : Branch b ⊎ ((i : ℕ) × IsFirstFailure (PassesStep program c b) (length c.basis)
              i) → (v : Verdict) × IsVerdict program c v
          in_branch (inl all) = absurd (f.fails all)
          in_branch (inr (i, g)) = (
            step_fails b i,
            record {
              branch_within = f.within;
              within = g.within;
              fails = g.fails;
              starts = starts;
              branches_before = λ a j l k.
                  f.before a l j k;
              before = g.before;
            },
          )

  pub verdict_exists : (v : Verdict) × IsVerdict program c v
  verdict_exists = decided_verdict (λ i. decide_same ℚ_ring fraction_eq fraction_eq_refl
      fraction_eq_true _ _) (λ b i. decide_same ℚ_ring fraction_eq fraction_eq_refl
      fraction_eq_true _ _)

  pub verdict_unique : (v w : Verdict) → IsVerdict program c v → IsVerdict program c w → v ≡ w
  verdict_unique valid valid p q = refl
  verdict_unique valid (start_fails j) p q = absurd (q.fails (p.starts j q.within))
  verdict_unique valid (step_fails b j) p q =
      absurd (q.fails (p.steps b j q.branch_within q.within))
  verdict_unique (start_fails i) valid p q = absurd (p.fails (q.starts i p.within))
  verdict_unique (start_fails i) (start_fails j) p q = go (grind arith)
    where
      go : (i < j) ⊎ (i ≡ j) ⊎ (j < i) → start_fails i ≡ start_fails j
      go (inl l) = absurd (p.fails (q.before i l))
      go (inr (inl e)) = ap start_fails e
      go (inr (inr l)) = absurd (q.fails (p.before j l))
  verdict_unique (start_fails i) (step_fails b j) p q = absurd (p.fails (q.starts i p.within))
  verdict_unique (step_fails a i) valid p q =
      absurd (p.fails (q.steps a i p.branch_within p.within))
  verdict_unique (step_fails a i) (start_fails j) p q = absurd (q.fails (p.starts j q.within))
  verdict_unique (step_fails a i) (step_fails b j) p q = go (grind arith) (grind arith)
    where
      go : (a < b) ⊎ (a ≡ b) ⊎ (b < a) → (i < j) ⊎ (i ≡ j) ⊎ (j < i)
          → step_fails a i ≡ step_fails b j
      go (inl l) r = absurd (p.fails (q.branches_before a i l p.within))
      go (inr (inr l)) r = absurd (q.fails (p.branches_before b j l q.within))
      go (inr (inl e)) (inl l) =
          absurd (p.fails (subst (λ b. PassesStep program c b i) (sym e) (q.before i l)))
      go (inr (inl e)) (inr (inl h)) = ap₂ step_fails e h
      go (inr (inl e)) (inr (inr l)) =
          absurd (q.fails (subst (λ b. PassesStep program c b j) e (p.before j l)))
