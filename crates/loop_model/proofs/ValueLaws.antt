-- The values of the right sides of a statement, one after another.
--   Valued m s es ps      ps stand for the values of the es at the state s, and no operation that forms them passes a limit
--   valued_none, valued_more
--   valued_stop           a stop at one of them
--   handed_on_all, stops_handed_on     what stops in a part stops
use Rattle.std.proofs.Common.{◌≡◌, ℕ, ◌<◌, ◌+◌, List, [], ◌∷◌, ◌++◌, get_or, take, drop, map, length, arith, sym, ap, subst, subst₂, ◌∙◌, take-append-drop, Result, Ok, Err}
use Rattle.std.specs.Result.{IsErrAnd, IfErr}
use Rattle.std.specs.Global.{Vec}
use Rattle.std.proofs.lemmas.List.{take_more, map_push, map-append}
use Rattle.std.proofs.lemmas.List.Elements.{All-append}
use Rattle.algebra.specs.Fraction.{Fraction}
use Rattle.polynomials.specs.Terms.{Terms}
use Rattle.loop_model.specs.ExpressionView.{expr_of}
use Rattle.loop_model.specs.declared.expr.Expr.{Expr}
use Rattle.poly.specs.Standing.{StandsFor, AllStandFor}
use Rattle.poly.proofs.Standing.{stands_push}
use Rattle.loop_model.specs.FracPoly.{FracPoly}
use Rattle.loop_model.specs.Operations.{Operation, operations, operations_all, value, IsFree, PassesLimit}
use Rattle.loop_model.specs.Stops.{Stops}
use Rattle.loop_model.specs.declared.map_error.MapError.{MapError}
use Rattle.loop_model.proofs.OperationLaws.{stops_front, stops_behind}
use Rattle.loop_model.proofs.FormedLaws.{operations_all-append, operations_all-push}
use Rattle.loop_model.specs.Maps.{FormsAll}

module _ (m : ℕ) (s : List (Terms Fraction)) where
  abbrev pub Valued : List Expr → List FracPoly → Type 0
  Valued es ps = AllStandFor m ps (map (value m s) (map expr_of es))
      × IsFree m (operations_all m s (map expr_of es))

  pub valued_none : (es : List Expr) (ps : List FracPoly) → ps ≡ [] → Valued (take 0 es) ps
  unfolding operations_all
  valued_none es ps e = subst (Valued []) (sym e) (tt, λ k d l. absurd (omega arith))

  module _ (es : List Expr) (i : ℕ) (e : Expr) (within : i < length es)
      (is : e ≡ get_or es i e) where
    more : take (i + 1) es ≡ take i es ++ e ∷ []
    more = take_more es i e within ∙ ap (λ (x : Expr). take i es ++ x ∷ []) (sym is)

    more_seen : map expr_of (take (i + 1) es) ≡ map expr_of (take i es) ++ expr_of e ∷ []
    more_seen = ap (map expr_of) more ∙ map_push expr_of (take i es) e

    more_values : map (value m s) (map expr_of (take (i + 1) es)) ≡ map (value m s)
        (map expr_of (take i es)) ++ value m s (expr_of e) ∷ []
    more_values = ap (map (value m s)) more_seen ∙ map_push (value m s) (map expr_of (take i es))
        (expr_of e)

    more_operations : operations_all m s (map expr_of (take (i + 1) es)) ≡ operations_all m s
        (map expr_of (take i es)) ++ operations m s (expr_of e)
    more_operations = ap (operations_all m s) more_seen
        ∙ operations_all-push m s (map expr_of (take i es)) (expr_of e)

    pub valued_more : (ps qs : List FracPoly) (p : FracPoly) → Valued (take i es) ps
        → StandsFor m p (value m s (expr_of e)) → IsFree m (operations m s (expr_of e))
        → qs ≡ ps ++ p ∷ [] → Valued (take (i + 1) es) qs
    valued_more ps qs p h k f same = (
      subst₂ (AllStandFor m) (sym same) (sym more_values)
          (stands_push m ps _ p (value m s (expr_of e))
          h.0 k),
      subst (IsFree m) (sym more_operations) (All-append (λ o. ¬ (PassesLimit m o))
          (operations_all m s (map expr_of (take i es))) (operations m s (expr_of e)) h.1 f),
    )

    pub valued_stop : (ps : List FracPoly) (x : MapError) → Valued (take i es) ps
        → Stops m (operations m s (expr_of e)) x → Stops m (operations_all m s (map expr_of es)) x
    valued_stop ps x h k =
        let here : Stops m (operations_all m s (map expr_of (take (i + 1) es))) x =
        subst (λ os. Stops m os x) (sym more_operations)
        (stops_behind m (operations_all m s (map expr_of (take i es))) (operations m s (expr_of e))
        x
        h.1 k) in
        let all : map expr_of (take (i + 1) es) ++ map expr_of (drop (i + 1) es) ≡ map expr_of es =
        sym (map-append expr_of (take (i + 1) es) (drop (i + 1) es))
        ∙ ap (map expr_of) (take-append-drop (i + 1) es) in
        subst (λ os. Stops m os x) (sym (operations_all-append m s (map expr_of (take (i + 1) es))
        (map expr_of (drop (i + 1) es))) ∙ ap (operations_all m s) all)
        (stops_front m (operations_all m s (map expr_of (take (i + 1) es)))
        (operations_all m s (map expr_of (drop (i + 1) es))) x here)

-- the error that `?` hands on
pub handed_on_all : (m : ℕ) (os : List Operation) (qs : List (Terms Fraction)) (e : MapError)
    (r : Result (Vec FracPoly) MapError) → IsErrAnd r (λ x. x ≡ e) → Stops m os e
    → FormsAll m os qs r
handed_on_all m os qs e (Ok p) is h = absurd is
handed_on_all m os qs e (Err x) is h = subst (Stops m os) (sym is) h

pub stops_handed_on : (m : ℕ) (os : List Operation) (e : MapError)
    (r : Result (Vec FracPoly) MapError) → IsErrAnd r (λ x. x ≡ e) → Stops m os e
    → IfErr r (λ x. Stops m os x)
stops_handed_on m os e (Ok p) is h = tt
stops_handed_on m os e (Err x) is h = subst (Stops m os) (sym is) h
