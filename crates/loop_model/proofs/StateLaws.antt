-- What is formed at polynomials that stand for others stands for what is formed at those.
--   formed_value, formed_free, formed_stop      of one expression; formed_at: of an answer
--   after_value, after_free, after_stops        of a statement
use Rattle.std.proofs.Common.{◌≡◌, ℕ, List, [], ◌∷◌, subst, Result, Ok, Err, IfOk}
use Rattle.std.specs.Prelude.{IfErr}
use Rattle.algebra.specs.Fraction.{Fraction, ℚ}
use Rattle.polynomials.specs.Terms.{Terms, AllSame, constant, lists}
use Rattle.loops.specs.Program.{Expr, Statement}
use Rattle.loops.specs.Effect.{after_statement, after_branch}
use Rattle.loops.proofs.Alike.{same_value, same_branch}
use Rattle.poly.specs.Seen.{terms_each, arity_of}
use Rattle.poly.specs.Standing.{StandsFor, AllStandFor}
use Rattle.poly.proofs.Standing.{stands_same, stands_along, stands_all_along}
use Rattle.loop_model.specs.FracPoly.{FracPoly}
use Rattle.loop_model.specs.Operations.{operations, operations_all, value, IsFree}
use Rattle.loop_model.specs.Stops.{Stops, Forms, IsValueAt, IsFreeAt, StopsAt}
use Rattle.loop_model.specs.declared.map_error.MapError.{MapError}
use Rattle.loop_model.proofs.OperationLaws.{free_along, stops_along}
use Rattle.loop_model.proofs.FormedLaws.{same_operations, same_operations_all}

module _ (m : ℕ) (ps : List FracPoly) (qs : List (Terms Fraction)) (h : AllStandFor m ps qs) where
  same_here : AllSame ℚ (terms_each ps) qs
  same_here = stands_same m ps qs h

  -- ---- an expression
  module _ (n : ℕ) (arity : n ≡ m) (e : Expr ℕ) where
    pub formed_value : (p : FracPoly) → StandsFor n p (value n (terms_each ps) e)
        → StandsFor m p (value m qs e)
    formed_value p k = stands_along m p (value m (terms_each ps) e) (value m qs e)
        (same_value m (terms_each ps) qs same_here e)
        (subst (λ k. StandsFor k p (value k (terms_each ps) e)) arity k)

    pub formed_free : IsFree n (operations n (terms_each ps) e) → IsFree m (operations m qs e)
    formed_free k = free_along m (operations m (terms_each ps) e) (operations m qs e)
        (same_operations m (terms_each ps) qs same_here e)
        (subst (λ k. IsFree k (operations k (terms_each ps) e)) arity k)

    pub formed_stop : (x : MapError) → Stops n (operations n (terms_each ps) e) x
        → Stops m (operations m qs e) x
    formed_stop x k = stops_along m (operations m (terms_each ps) e) (operations m qs e) x
        (same_operations m (terms_each ps) qs same_here e)
        (subst (λ k. Stops k (operations k (terms_each ps) e) x) arity k)

  pub formed_at : arity_of ps ≡ m → (e : Expr ℕ) (r : Result FracPoly MapError)
      → IfOk r (IsValueAt ps e) → IfOk r (λ _. IsFreeAt ps e) → IfErr r (StopsAt ps e)
      → Forms m (operations m qs e) (value m qs e) r
  formed_at arity e (Ok p) v f s = (
    formed_value (arity_of ps) arity e p v,
    formed_free (arity_of ps) arity e f,
  )
  formed_at arity e (Err x) v f s = formed_stop (arity_of ps) arity e x s

  -- ---- a statement
  module _ (n : ℕ) (arity : n ≡ m) where
    same_after : (c : Statement (Expr ℕ))
        → AllSame ℚ (after_statement (lists ℚ m) (constant m) c (terms_each ps))
        (after_statement (lists ℚ m) (constant m) c qs)
    unfolding after_branch
    same_after c = same_branch m (terms_each ps) qs same_here (c ∷ [])

    pub after_value : (c : Statement (Expr ℕ)) (rs : List FracPoly)
        → AllStandFor n rs (after_statement (lists ℚ n) (constant n) c (terms_each ps))
        → AllStandFor m rs (after_statement (lists ℚ m) (constant m) c qs)
    after_value c rs k = stands_all_along m rs _ _ (same_after c)
        (subst (λ k. AllStandFor k rs (after_statement (lists ℚ k) (constant k) c (terms_each ps)))
        arity k)

    pub after_free : (es : List (Expr ℕ)) → IsFree n (operations_all n (terms_each ps) es)
        → IsFree m (operations_all m qs es)
    after_free es k = free_along m (operations_all m (terms_each ps) es) (operations_all m qs es)
        (same_operations_all m (terms_each ps) qs same_here es)
        (subst (λ k. IsFree k (operations_all k (terms_each ps) es)) arity k)

    pub after_stops : (es : List (Expr ℕ)) (x : MapError)
        → Stops n (operations_all n (terms_each ps) es) x → Stops m (operations_all m qs es) x
    after_stops es x k = stops_along m (operations_all m (terms_each ps) es)
        (operations_all m qs es) x (same_operations_all m (terms_each ps) qs same_here es)
        (subst (λ k. Stops k (operations_all k (terms_each ps) es) x) arity k)
