-- The state after a statement.
--   uses_of                   the right sides of a statement have what they need
--   after_stands              the state after the statement
use Rattle.std.proofs.Common.{◌≡◌, ℕ, ◌<◌, List, map, length, arith, sym, subst, All}
use Rattle.std.proofs.lemmas.List.{get_or-map, length-map}
use Rattle.algebra.specs.Fraction.{ℚ}
use Rattle.polynomials.specs.Terms.{constant, lists}
use Rattle.loops.specs.Effect.{store, after_statement}
use Rattle.loops.specs.WellFormed.{Uses, IsStatement}
use Rattle.poly.specs.Seen.{terms_each, arity_of}
use Rattle.poly.specs.Standing.{IsInVariables, AllStandFor}
use Rattle.poly.proofs.Standing.{stands_all_itself}
use Rattle.loop_model.specs.FracPoly.{FracPoly}
use Rattle.loop_model.specs.ExpressionView.{expr_of}
use Rattle.loop_model.specs.Operations.{operations_all, value, IsFree}
use Rattle.loop_model.specs.declared.expr.Expr.{Expr}
use Rattle.loop_model.specs.Parts.{statement_of}
use Rattle.loop_model.specs.declared.statement.Statement.{Statement}
use Rattle.loop_model.proofs.StoreLaws.{stands_store}
use Rattle.loop_model.proofs.ValueLaws.{Valued}

module _ (ps : List FracPoly) (over : All (IsInVariables (arity_of ps)) ps) where
  abbrev m : ℕ
  m = arity_of ps

  abbrev n : ℕ
  n = length ps

  module _ (c : Statement) (ok : IsStatement n (statement_of c)) where
    pub uses_of : (es : List Expr) → es ≡ c.values.items → All (λ e. Uses (λ i. i < n) (expr_of e))
        es
    uses_of es same = subst (λ xs. All (λ (e : Expr). Uses (λ i. i < n) (expr_of e)) xs) (sym same)
        (λ k d l. subst (Uses (λ i. i < n)) (get_or-map expr_of c.values.items k d (expr_of d) l)
        (ok.values k (expr_of d) (omega (arith, length-map c.values.items expr_of))))

    pub after_stands : (targets : List ℕ) (values state : List FracPoly) → targets ≡ c.targets.items
        → Valued m (terms_each ps) c.values.items values → state ≡ store targets values ps
        → AllStandFor m state (after_statement (lists ℚ m) (constant m) (statement_of c)
        (terms_each ps))
        × IsFree m (operations_all m (terms_each ps) (map expr_of c.values.items))
    unfolding after_statement
    after_stands targets values state t v s =
        let rights = map (value m (terms_each ps)) (map expr_of c.values.items) in
        let stored : AllStandFor m (store targets values ps) (store c.targets.items rights
        (terms_each ps)) =
        subst (λ is. AllStandFor m (store targets values ps) (store is rights (terms_each ps))) t
        (stands_store m targets values rights ps (terms_each ps) v.0
        (stands_all_itself m ps over)) in (
          subst (λ xs. AllStandFor m xs (store c.targets.items rights (terms_each ps))) (sym s)
              stored,
          v.1,
        )
