-- A polynomial of a path with one unknown more, and the unknown that is its inverse.
--   stops_formed, stops_inverse     where it stops
--   free_inverse                    no event passes a limit
--   formed_here                     the polynomial stands for what the definition forms
--   inverse_here                    the unknown and its zero, in the definition's numbers
use Rattle.std.proofs.Common.{◌≡◌, ℕ, suc, ◌+◌, List, length, arith, sym, subst, subst₂, ◌∙◌, Result, Ok, Err}
use Rattle.std.specs.Result.{IsErrAnd}
use Rattle.algebra.specs.Fraction.{Fraction}
use Rattle.polynomials.specs.Terms.{Terms}
use Rattle.flows.specs.Steps.{Step}
use Rattle.flows.specs.Paths.{all_unknowns}
use Rattle.poly.specs.Seen.{arity_of}
use Rattle.poly.specs.Standing.{StandsFor, AllStandFor}
use Rattle.loop_model.specs.FracPoly.{FracPoly}
use Rattle.loop_model.specs.Operations.{value, operations}
use Rattle.loop_model.specs.Stops as stops
use Rattle.loop_model.specs.Stops.{Forms}
use Rattle.loop_model.specs.declared.map_error.MapError.{MapError}
use Rattle.program_model.specs.Events.{AreFree, Makes}
use Rattle.program_model.specs.PathEvents.{E, places, behind, at_path, inverted, inverse_events}
use Rattle.program_model.specs.Inverses.{IsInverse}
use Rattle.program_model.specs.UnderWay.{HasRoom, IsUnderWay}
use Rattle.program_model.specs.declared.path.Path.{Path}
use Rattle.program_model.specs.declared.inverse.Inverse.{Inverse}
use Rattle.program_model.proofs.EventLaws.{free_events, stops_events, free_append, stops_behind, makes_front, handed_on}
use Rattle.program_model.proofs.Behind.{wide_stands}
use Rattle.program_model.proofs.Inverting.{formed_along}
use Rattle.program_model.proofs.PathLaws.{IsWider, wide_arity}
use Rattle.program_model.proofs.Values.{IsUnknown, IsInverseZero, unknown_values, inverse_values}

module _ (p q : Path) (r : HasRoom p) (w : IsWider p q) (n u : ℕ) (cs : List (Step E))
    (ds : List E) (h : IsUnderWay n u cs ds p) where
  abbrev j : ℕ
  j = length ds

  abbrev m : ℕ
  m = places n cs (suc (length ds))

  abbrev s : List (Terms Fraction)
  s = behind n cs (length ds) (suc (length ds))

  size : q.unknowns + q.variables ≡ places n cs (suc (length ds))
  size =
      let a = w.unknowns in let b = w.variables in let c = h.unknowns in let d = h.variables in
      omega (arith, a, b, c, d)

  pub state_stands : AllStandFor (places n cs (suc (length ds))) q.images.items
      (behind n cs (length ds) (suc (length ds)))
  state_stands = wide_stands n cs ds p.zeros.items p.images.items h.follows q.zeros.items
      q.images.items p.unknowns h.unknowns w.zeros w.images

  pub state_arity : arity_of q.images.items ≡ places n cs (suc (length ds))
  state_arity = wide_arity p q r w ∙ size

  pub formed_here : (d : E) (v : FracPoly) → stops.IsValueAt q.images.items d v
      → stops.IsFreeAt q.images.items d → Forms m (operations m s d) (value m s d) (Ok v)
  formed_here d v x y = formed_along m q.images.items s state_stands state_arity d (Ok v) (x, y)

  -- the polynomial of d, at the offset at
  module _ (at : ℕ) (d : E) where
    pub stops_formed : {X : Type 0} (P : X → Type 0) (x : MapError) (t : Result X MapError)
        → IsErrAnd t (λ y. y ≡ x) → stops.Stops m (operations m s d) x
        → Makes (inverted n cs (length ds) (suc (length ds)) at d) P t
    stops_formed P x t is k =
        makes_front (at_path n cs (length ds) (suc (length ds)) d)
        (inverse_events m at (all_unknowns cs + length ds) (value m s d)) P x t is
        (stops_events m (operations m s d) x k)

    module _ (v : FracPoly) (formed : Forms m (operations m s d) (value m s d) (Ok v)) (i : ℕ)
        (last : i ≡ p.unknowns) where
      place : i ≡ all_unknowns cs + length ds
      place = last ∙ h.unknowns

      pub itself : StandsFor v.arity v (value m s d)
      itself = subst (λ k. StandsFor k v (value m s d)) (sym formed.0.arity) formed.0

      pub inverse_here : (t : Result Inverse MapError)
          → Makes (inverse_events v.arity at i (value m s d))
          (IsInverse v.arity at i (value m s d)) t
          → Makes (inverse_events m at (all_unknowns cs + length ds) (value m s d))
          (IsInverse m at (all_unknowns cs + length ds) (value m s d)) t
      inverse_here t k = subst₂ (λ k i. Makes (inverse_events k at i (value m s d))
          (IsInverse k at i (value m s d)) t) formed.0.arity place k

      pub stops_inverse : {X : Type 0} (P : X → Type 0) (x : MapError) (t : Result X MapError)
          → IsErrAnd t (λ y. y ≡ x)
          → Makes (inverse_events v.arity at i (value m s d))
          (IsInverse v.arity at i (value m s d)) (Err x)
          → Makes (inverted n cs (length ds) (suc (length ds)) at d) P t
      stops_inverse P x t is k =
          handed_on (inverted n cs (length ds) (suc (length ds)) at d) P x t is
          (stops_behind (at_path n cs (length ds) (suc (length ds)) d)
          (inverse_events m at (all_unknowns cs + length ds) (value m s d)) x
          (free_events m (operations m s d) formed.1) (inverse_here (Err x) k))

      module _ (y : Inverse) (made : Makes (inverse_events v.arity at i (value m s d))
          (IsInverse v.arity at i (value m s d)) (Ok y)) where
        pub free_inverse : AreFree (inverted n cs (length ds) (suc (length ds)) at d)
        free_inverse = free_append (at_path n cs (length ds) (suc (length ds)) d)
            (inverse_events m at (all_unknowns cs + length ds) (value m s d))
            (free_events m (operations m s d) formed.1) (inverse_here (Ok y) made).1

        pub inverse_new : IsUnknown (q.unknowns + q.variables) p.unknowns y.unknown
        inverse_new = subst₂ (λ k i. IsUnknown k i y.unknown) (sym size) (sym h.unknowns)
            (unknown_values m (all_unknowns cs + length ds) y.unknown
            (inverse_here (Ok y) made).0.unknown)

        pub inverse_zero : IsInverseZero y.unknown v y.zero
        inverse_zero = inverse_values m at (all_unknowns cs + length ds) (value m s d) y v
            (inverse_here (Ok y) made).0 formed.0
