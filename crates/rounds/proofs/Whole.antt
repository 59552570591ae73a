-- Where the form of a branch is the state from 0 on, its tasks are its orbit and, but for the first branch, a meet.
--   whole_front, whole_list      the orbit's list: the elements pulled back, and the relations
--   begins_whole                 no iteration is taken by itself
--   first_whole, further_whole   what follows the orbit
use Rattle.std.proofs.Common.{◌≡◌, ℕ, suc, pred, cond, ltb, List, ◌++◌, map, length, ap}
use Rattle.algebra.specs.Fraction.{Fraction, rationals}
use Rattle.polynomials.specs.Terms.{Terms}
use Rattle.machines.specs.Collect.{collect}
use Rattle.rounds.specs.Form.{front, relations, orbit_order, front_since, list_since}
use Rattle.rounds.specs.Analysis.{Setting, orbit, form_of, pulled_back, block, starting, begin_iteration, begin_orbit, begin_meet, after_iterations, begin_branch, after_branch, after_orbit, after}

module _ (A : Setting) (k b : ℕ) (gs so_far : List (Terms Fraction))
    (at_once : (form_of A b).since ≡ 0) where
  pub whole_front : block A (orbit k b gs so_far) ≡ front (length (form_of A b).base)
  unfolding block
  whole_front = ap (λ d. front_since d (form_of A b) A.arity) at_once

  pub whole_list : starting A (orbit k b gs so_far) ≡ map (pulled_back A b) gs
      ++ map (collect rationals (orbit_order (length (form_of A b).base)))
      (relations (length (form_of A b).base) A.arity)
  unfolding starting
  whole_list = ap (λ d. list_since d (form_of A b) A.arity gs) at_once

  pub begins_whole : begin_branch A k b gs so_far ≡ begin_orbit A k b gs so_far
  unfolding after_iterations
  begins_whole = ap (λ d. cond (ltb 0 (pred d)) (begin_iteration A k b 0 gs gs so_far)
      (begin_orbit A k b gs so_far)) at_once

pub first_whole : (A : Setting) (k : ℕ) (gs so_far hs : List (Terms Fraction))
    → (form_of A 0).since ≡ 0
    → after A (orbit k 0 gs so_far) hs ≡ after_branch A k 0 gs hs
unfolding after
first_whole A k gs so_far hs e = ap (λ d. after_orbit A d k 0 gs so_far hs) e

pub further_whole : (A : Setting) (k b : ℕ) (gs so_far hs : List (Terms Fraction))
    → (form_of A (suc b)).since ≡ 0
    → after A (orbit k (suc b) gs so_far) hs ≡ begin_meet A k (suc b) gs so_far hs
unfolding after
further_whole A k b gs so_far hs e = ap (λ d. after_orbit A d k (suc b) gs so_far hs) e
