-- Compositions of a closing, as the code forms them.
--   composes                     what is composed, or the refusal, is that of the maps that the images stand for
--   limit_here, wide_here        no operation stands in a text, so the one that stops has the offset 0
--   all_over                     images that stand for maps have as many variables
use Rattle.std.proofs.Common.{◌≡◌, ℕ, List, [], sym, ap, subst, ◌∙◌, All, Result, Ok, Err}
use Rattle.algebra.specs.Fraction.{Fraction, ℚ}
use Rattle.polynomials.specs.Terms.{Terms, compose}
use Rattle.polynomials.specs.Polynomial.{AllArity}
use Rattle.polynomials.proofs.Same.{Same-refl}
use Rattle.polynomials.proofs.Arity.{arity-compose}
use Rattle.poly.specs.Seen.{terms_in, terms_each}
use Rattle.poly.specs.Standing.{IsInVariables, AllStandFor}
use Rattle.poly.proofs.Standing.{arity_over, stands_over}
use Rattle.loop_model.specs.FracPoly.{FracPoly}
use Rattle.loop_model.specs.Stops.{Forms}
use Rattle.loop_model.specs.Operations.{IsLimit, IsWide}
use Rattle.loop_model.specs.declared.map_error.MapError.{MapError}
use Rattle.loop_model.specs.declared.map_error.MapError.TheVariants as map_error
use Rattle.counter_run.specs.Composition.{composition_onto, composition_operations}
use Rattle.closing.specs.Compositions.{IsComposed}
use Rattle.counter_run.proofs.WordImages.{terms_are, composed_forms, composing_none, first_none}

module _ {m : ℕ} (q : FracPoly) (over : q.arity ≡ m) (images : List FracPoly)
    (maps : List (Terms Fraction)) (all : AllStandFor m images maps) (am : AllArity m maps) where
  pub all_over : All (IsInVariables q.arity) images
  all_over = subst (λ n. All (IsInVariables n) images) (sym over) (stands_over m images maps all)

  abbrev Made : Result FracPoly MapError → Type 0
  Made r =
      Forms q.arity (composition_operations q.arity (terms_each images) [] (terms_in q))
      (composition_onto q.arity (terms_each images) [] (terms_in q)) r

  forms : (r : Result FracPoly MapError) → Made r
      → Forms m (composition_operations m maps [] (terms_in q)) (compose ℚ m (terms_in q) maps) r
  forms r h =
      composed_forms m q over (terms_in q) (arity_over m q over) (Same-refl ℚ (terms_in q)) images
      maps all am r h

  pub composes : {r : Result FracPoly MapError} (c : FracPoly) → r ≡ Ok c → Made r
      → IsComposed m maps (terms_in q) c
  composes c e h =
      let k = forms (Ok c) (subst Made e h) in
      record {
        arity = k.0.arity;
        terms =
            terms_are m c _ (arity-compose m ℚ (terms_in q) maps am) k.0;
      }

  pub limit_here : {r : Result FracPoly MapError} {x : MapError} {at : ℕ} → r ≡ Err x
      → x ≡ map_error.Limit at → Made r
      → IsLimit m (composition_operations m maps [] (terms_in q)) 0
  limit_here {at = at} e is h =
      let s = forms (Err (map_error.Limit at)) (subst Made (e ∙ ap Err is) h) in
      subst (IsLimit m (composition_operations m maps [] (terms_in q))) (first_none m _ _ at
      (composing_none m maps [] (terms_in q)) s) s

  pub wide_here : {r : Result FracPoly MapError} {x : MapError} (at : ℕ) → r ≡ Err x
      → x ≡ map_error.Wide at → Made r → IsWide m (composition_operations m maps [] (terms_in q)) 0
  wide_here at e is h =
      let s = forms (Err (map_error.Wide at)) (subst Made (e ∙ ap Err is) h) in
      subst (IsWide m (composition_operations m maps [] (terms_in q))) (first_none m _ _ at
      (composing_none m maps [] (terms_in q)) s) s
