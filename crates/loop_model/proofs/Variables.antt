-- The variables that the code makes, one after another.
--   variables_none, variables_more, variables_all     the first of them
--   made_stand, made_length, made_arity, made_over    all of them
use Rattle.std.proofs.Common.{◌≡◌, ℕ, ◌≤◌, ◌+◌, List, [], ◌∷◌, ◌++◌, take, length, arith, refl, sym, ap, subst, ◌∙◌, All, Option, Some, None}
use Rattle.std.specs.Prelude.{slice_get, IsSomeAnd}
use Rattle.std.proofs.lemmas.List.{take_more, take_all}
use Rattle.std.proofs.lemmas.Option.{slice_get_within, get_or_from_slice_get}
use Rattle.algebra.specs.Fraction.{ℚ}
use Rattle.polynomials.specs.Terms.{variables}
use Rattle.loops.proofs.Maps.{length-variables}
use Rattle.poly.specs.Seen.{arity_of}
use Rattle.poly.specs.Standing.{IsInVariables, StandsFor, AllStandFor}
use Rattle.poly.proofs.Standing.{stands_over, stands_length, stands_push, first_arity}
use Rattle.loop_model.specs.FracPoly.{FracPoly}

at_some : {X : Type 0} (o : Option X) (P : X → Type 0) → IsSomeAnd o P → (x : X) × (o ≡ Some x)
    × P x
at_some None P h = absurd h
at_some (Some x) P h = (x, refl, h)

module _ (m : ℕ) where
  pub variables_none : (ps : List FracPoly) → ps ≡ [] → AllStandFor m ps []
  variables_none ps e = subst (λ x. AllStandFor m x []) (sym e) tt

  pub variables_more : (i : ℕ) (ps qs : List FracPoly) (p : FracPoly)
      → AllStandFor m ps (take i (variables ℚ m))
      → IsSomeAnd (slice_get (variables ℚ m) i) (StandsFor m p) → qs ≡ ps ++ p ∷ []
      → AllStandFor m qs (take (i + 1) (variables ℚ m))
  variables_more i ps qs p h k e =
      let (x, is, s) = at_some _ _ k in
      let more : take (i + 1) (variables ℚ m) ≡ take i (variables ℚ m) ++ x ∷ [] =
      take_more (variables ℚ m) i x (slice_get_within _ i x is)
      ∙ ap (λ y. take i (variables ℚ m) ++ y ∷ []) (get_or_from_slice_get _ i x x is) in
      subst (λ y. AllStandFor m y (take (i + 1) (variables ℚ m))) (sym e)
      (subst (AllStandFor m (ps ++ p ∷ [])) (sym more) (stands_push m ps _ p x h s))

  pub variables_all : (i : ℕ) (ps : List FracPoly) → m ≤ i
      → AllStandFor m ps (take i (variables ℚ m)) → AllStandFor m ps (variables ℚ m)
  variables_all i ps l h =
      subst (AllStandFor m ps) (take_all i (variables ℚ m) (omega (arith, length-variables m))) h

-- the variables that the code made, n of them
module _ (n m : ℕ) (count : n ≡ m) (ps : List FracPoly) (h : AllStandFor n ps (variables ℚ n)) where
  pub made_stand : AllStandFor m ps (variables ℚ m)
  made_stand = subst (λ k. AllStandFor k ps (variables ℚ k)) count h

  pub made_length : length ps ≡ m
  made_length = stands_length m ps _ made_stand ∙ length-variables m

  pub made_arity : arity_of ps ≡ m
  made_arity = go ps (stands_over m ps _ made_stand) made_length
    where
      go : (qs : List FracPoly) → All (IsInVariables m) qs → length qs ≡ m → arity_of qs ≡ m
      go [] h e = e
      go (q ∷ qs) h e = first_arity m (q ∷ qs) h (omega arith)

  pub made_over : All (IsInVariables (arity_of ps)) ps
  made_over = subst (λ k. All (IsInVariables k) ps) (sym made_arity) (stands_over m ps _ made_stand)
