-- Where a polynomial isn't formed.
--   limit_here, wide_here         the operation that stops has the offset 0
--   image_limit, image_wide       of the image of an element
--   rest_limit, rest_wide         of what is divided for a monomial
use Rattle.std.proofs.Common.{◌≡◌, inl, ℕ, ◌+◌, List, [], ◌∷◌, refl, ap, subst, ◌∙◌, get_or, Option, Some, None, Result, Err, All}
use Rattle.std.proofs.lemmas.List.Elements.{All-nil, All-cons}
use Rattle.algebra.specs.Fraction.{Fraction}
use Rattle.polynomials.specs.Terms.{Terms}
use Rattle.machines.specs.Journal as journal
use Rattle.loop_model.specs.FracPoly.{FracPoly}
use Rattle.loop_model.specs.Operations.{Operation, product_at, IsLimit, IsWide}
use Rattle.loop_model.specs.Stops.{Forms}
use Rattle.loop_model.specs.declared.map_error.MapError.{MapError}
use Rattle.loop_model.specs.declared.map_error.MapError.TheVariants as map_error
use Rattle.counter_run.proofs.WordImages.{composing_none, first_none}
use Rattle.flows.specs.Graph.{Transition}
use Rattle.flows.specs.Tasks.{Rests, rest_in, Job, lesser, from_images, from_rests}
use Rattle.program_families.specs.Following.{ComesNext}
use Rattle.program_families.specs.Operations.{image_operations, times_operations}
use Rattle.program_families.specs.Causes.{width, IfStops}
use Rattle.program_families.specs.declared.error.TaskError.TheVariants.{LimitImage, WideImage, LimitRest, WideRest}

times_none : (t : Transition) (rs : Rests) (o : Option (List ℕ × ℕ))
    → All (λ (o : Operation). o.at ≡ 0) (times_operations t rs o)
times_none t rs None = All-nil (λ (o : Operation). o.at ≡ 0)
times_none t rs (Some (e, k)) = All-cons (λ (o : Operation). o.at ≡ 0)
    (product_at 0 (rest_in rs e) (get_or t.images k [])) [] refl
    (All-nil (λ (o : Operation). o.at ≡ 0))

module _ (w : ℕ) (os : List Operation) (none : All (λ (o : Operation). o.at ≡ 0) os)
    (q : Terms Fraction)
    {r : Result FracPoly MapError} {x : MapError} (at : ℕ) (e : r ≡ Err x) where
  limit_here : x ≡ map_error.Limit at → Forms w os q r → IsLimit w os 0
  limit_here is h =
      let s = subst (Forms w os q) (e ∙ ap Err is) h in
      subst (IsLimit w os) (first_none w _ os at none s) s

  wide_here : x ≡ map_error.Wide at → Forms w os q r → IsWide w os 0
  wide_here is h =
      let s = subst (Forms w os q) (e ∙ ap Err is) h in
      subst (IsWide w os) (first_none w _ os at none s) s

module _ (n : ℕ) (j : Job) (basis : List (Terms Fraction)) (start es : List journal.Entry)
    (limit : ℕ) {r : Result FracPoly MapError} {x : MapError} (at : ℕ) (e : r ≡ Err x)
    (q : Terms Fraction) where
  module _ (k : ℕ) (p : Terms Fraction) (waiting : List (Terms Fraction))
      (c : ComesNext n j start es (from_images n j basis k (p ∷ waiting)))
      (h : Forms (width n j) (image_operations n j.transition p) q r) where
    abbrev is : List Operation
    is = image_operations n j.transition p

    abbrev is_none : All (λ (o : Operation). o.at ≡ 0) is
    is_none = (let t = j.transition in composing_none (t.unknowns + n) t.images [] p)

    pub image_limit : x ≡ map_error.Limit at → IfStops n j start es limit (LimitImage k)
    image_limit s = (
      is,
      record { basis = basis; element = p; waiting = waiting; comes = c; operations = refl },
      limit_here (width n j) is is_none q at e s h,
    )

    pub image_wide : x ≡ map_error.Wide at → IfStops n j start es limit (WideImage k)
    image_wide s = inl (
      is,
      record { basis = basis; element = p; waiting = waiting; comes = c; operations = refl },
      wide_here (width n j) is is_none q at e s h,
    )

  module _ (rs : Rests) (m : List ℕ) (waiting : List (List ℕ))
      (c : ComesNext n j start es (from_rests n j basis rs (m ∷ waiting)))
      (h : Forms (width n j) (times_operations j.transition rs (lesser m)) q r) where
    abbrev ts : List Operation
    ts = times_operations j.transition rs (lesser m)

    pub rest_limit : x ≡ map_error.Limit at → IfStops n j start es limit (LimitRest m)
    rest_limit s = (
      ts,
      record { basis = basis; rests = rs; waiting = waiting; comes = c; operations = refl },
      limit_here (width n j) ts (times_none j.transition rs (lesser m)) q at e s h,
    )

    pub rest_wide : x ≡ map_error.Wide at → IfStops n j start es limit (WideRest m)
    rest_wide s = inl (
      ts,
      record { basis = basis; rests = rs; waiting = waiting; comes = c; operations = refl },
      wide_here (width n j) ts (times_none j.transition rs (lesser m)) q at e s h,
    )
