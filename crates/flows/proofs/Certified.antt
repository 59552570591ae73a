-- The family of a valid certificate is inductive, and each certificate has one verdict.
--   certified_inductive
--   verdict_exists, verdict_unique
use Rattle.std.proofs.Common.{◌≡◌, ◌⊎◌, inl, inr, ℕ, ◌+◌, ◌<◌, List, [], ◌∷◌, length, refl, sym, ap₂, subst, arith}
use Rattle.algebra.specs.In.{In}
use Rattle.algebra.proofs.In.{each_from, in_place}
use Rattle.algebra.specs.Fraction.{Fraction, ℚ}
use Rattle.algebra.proofs.Fractions.{ℚ_ring, fraction_eq, fraction_eq_refl, fraction_eq_true}
use Rattle.polynomials.specs.Terms.{Terms}
use Rattle.polynomials.proofs.SameDecided.{decide_same}
use Rattle.ideals.specs.Members.{IsMember}
use Rattle.loops.specs.First.{IsFirstFailure}
use Rattle.loops.proofs.Verdicts.{first_failure}
use Rattle.flows.specs.Graph.{Transition, Graph}
use Rattle.flows.specs.Family.{after, generators, IsInductive}
use Rattle.flows.specs.Certificate.{Certificate, Verdict, valid, start_fails, step_fails, family, element, cofactors, no_transition, transition_at, elements, AreOver, PassesStart, PassesStep, IsValid, IsVerdict}

module _ (G : Graph) (c : Certificate) where
  module _ (over : AreOver G c) (is : IsValid G c) where
    abbrev Goes : Transition → Terms Fraction → Type 0
    Goes t p = IsMember ℚ (t.unknowns + G.variables) (generators t (family c))
        (after G.variables t p)

    step_member : (j i : ℕ) → j < length G.transitions → i < elements G c j
        → Goes (transition_at G j) (element c (transition_at G j).to i)
    step_member j i l k = record {
      cofactors = cofactors c j i;
      arity = over.cofactor_arities j i;
      is = is.steps j i l k;
    }

    pub certified_inductive : IsInductive G (family c)
    certified_inductive = record {
      arities = λ v l. over.arities v;
      start = is.start;
      kept = λ t h. each_from (family c t.to) (λ p i.
          let (j, l, e) = in_place G.transitions no_transition t h in
          let at : In p (family c (transition_at G j).to) =
          subst (λ (u : Transition). In p (family c u.to)) (sym e) i in
          let (k, m, f) = in_place (family c (transition_at G j).to) [] p at in
          subst (λ u. Goes u p) e (subst (Goes (transition_at G j)) f (step_member j k l m)));
    }

  -- ---- verdicts
  start_decided : PassesStart G c ⊎ (PassesStart G c → ⊥)
  start_decided = go (family c 0)
    where
      go : (gs : List (Terms Fraction)) → (gs ≡ []) ⊎ (gs ≡ [] → ⊥)
      go [] = inl refl
      go (g ∷ gs) = inr (λ e. (let f : ⊥ = cc in f))

  step_decided : (j i : ℕ) → PassesStep G c j i ⊎ (PassesStep G c j i → ⊥)
  step_decided j i = decide_same ℚ_ring fraction_eq fraction_eq_refl fraction_eq_true _ _

  AllPass : ℕ → Type 0
  AllPass j = (i : ℕ) → i < elements G c j → PassesStep G c j i

  all_decided : (j : ℕ) → AllPass j ⊎ (AllPass j → ⊥)
  unfolding AllPass
  all_decided j = go (first_failure (PassesStep G c j) (step_decided j) (elements G c j))
    where
      go : AllPass j ⊎ ((i : ℕ) × IsFirstFailure (PassesStep G c j) (elements G c j) i)
          → AllPass j ⊎ (AllPass j → ⊥)
      go (inl all) = inl all
      go (inr (i, f)) = inr (λ all. f.fails (all i f.within))

  pub verdict_exists : (v : Verdict) × IsVerdict G c v
  unfolding AllPass
  verdict_exists = go start_decided
      (first_failure AllPass all_decided (length G.transitions))
    where
      go : PassesStart G c ⊎ (PassesStart G c → ⊥)
          → ((j : ℕ) → j < length G.transitions → AllPass j)
          ⊎ ((j : ℕ) × IsFirstFailure AllPass (length G.transitions) j)
          → (v : Verdict) × IsVerdict G c v
      go (inr n) r = (start_fails, n)
      go (inl s) (inl all) = (valid, record { start = s; steps = λ j i l k. all j l i k })
      go (inl s) (inr (j, f)) =
          inside (first_failure (PassesStep G c j) (step_decided j) (elements G c j))
        where
          inside : AllPass j ⊎ ((i : ℕ) × IsFirstFailure (PassesStep G c j) (elements G c j) i)
              → (v : Verdict) × IsVerdict G c v
          inside (inl all) = absurd (f.fails all)
          inside (inr (i, g)) = (
            step_fails j i,
            record {
              start = s;
              transition_within = f.within;
              within = g.within;
              fails = g.fails;
              transitions_before = λ a k l m. f.before a l k m;
              before = g.before;
            },
          )

  pub verdict_unique : (v w : Verdict) → IsVerdict G c v → IsVerdict G c w → v ≡ w
  verdict_unique valid valid p q = refl
  verdict_unique valid start_fails p q = absurd (q p.start)
  verdict_unique valid (step_fails b j) p q =
      absurd (q.fails (p.steps b j q.transition_within q.within))
  verdict_unique start_fails valid p q = absurd (p q.start)
  verdict_unique start_fails start_fails p q = refl
  verdict_unique start_fails (step_fails b j) p q = absurd (p q.start)
  verdict_unique (step_fails a i) valid p q =
      absurd (p.fails (q.steps a i p.transition_within p.within))
  verdict_unique (step_fails a i) start_fails p q = absurd (q p.start)
  verdict_unique (step_fails a i) (step_fails b j) p q = go (grind arith) (grind arith)
    where
      go : (a < b) ⊎ (a ≡ b) ⊎ (b < a) → (i < j) ⊎ (i ≡ j) ⊎ (j < i)
          → step_fails a i ≡ step_fails b j
      go (inl l) r = absurd (p.fails (q.transitions_before a i l p.within))
      go (inr (inr l)) r = absurd (q.fails (p.transitions_before b j l q.within))
      go (inr (inl e)) (inl l) =
          absurd (p.fails (subst (λ b. PassesStep G c b i) (sym e) (q.before i l)))
      go (inr (inl e)) (inr (inl h)) = ap₂ step_fails e h
      go (inr (inl e)) (inr (inr l)) =
          absurd (q.fails (subst (λ b. PassesStep G c b j) e (p.before j l)))
