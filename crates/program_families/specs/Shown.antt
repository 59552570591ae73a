-- What a task shows.
--   IsKeeping j               what the transition makes of each element of its target's list is in the ideal of the source's list and the zeros
--   IsBasisIn j gs            the gs are the reduced basis of this ideal
--   AreRestsOf j d gs rs      up to the degree d the rests are those, by the gs, of what the transition makes of the monomials
--   ShowsCheck j c, ShowsEnd j d e     so a check shows one of the first two, and a task the first or the others
use Rattle.std.specs.Prelude.{◌≡◌, ℕ, ◌≤◌, List, [], ◌∷◌, length, sum, Some}
use Rattle.algebra.specs.Each.{Each}
use Rattle.algebra.specs.Fraction.{Fraction, ℚ, rationals}
use Rattle.polynomials.specs.Order.{grevlex}
use Rattle.polynomials.specs.Terms.{Terms}
use Rattle.ideals.specs.Members.{IsMember}
use Rattle.machines.specs.Reduced.{IsReducedBasis}
use Rattle.poly.specs.Seen.{terms_each}
use Rattle.flows.specs.Family.{after}
use Rattle.flows.specs.Rows.{IsRest}
use Rattle.flows.specs.Tasks.{Rests, rest_in}
use Rattle.program_families.specs.Views.{target_in, transition_in, arity_in, generators_in, rests_of}
use Rattle.program_families.specs.declared.job.Job.{Job}
use Rattle.program_families.specs.declared.task.Check.{Check}
use Rattle.program_families.specs.declared.task.Check.TheVariants as check
use Rattle.program_families.specs.declared.task.TaskEnd.{TaskEnd}
use Rattle.program_families.specs.declared.task.TaskEnd.TheVariants as task_end

module _ (j : Job) where
  abbrev pub IsKeeping : Type 0
  IsKeeping =
      (hs : List (Terms Fraction)) → target_in j ≡ Some hs
      → Each (λ p. IsMember ℚ (arity_in j) (generators_in j) (after j.variables (transition_in j)
      p))
      hs

  abbrev pub IsBasisIn : List (Terms Fraction) → Type 0
  IsBasisIn gs =
      IsReducedBasis rationals grevlex (arity_in j) gs (IsMember ℚ (arity_in j) (generators_in j))

  abbrev pub AreRestsOf : ℕ → List (Terms Fraction) → Rests → Type 0
  AreRestsOf d gs rs =
      (e : List ℕ) → length e ≡ j.variables → sum e ≤ d
      → IsRest gs (arity_in j) (after j.variables (transition_in j) ((e, ℚ.one) ∷ []))
      (rest_in rs e)

  abbrev pub ShowsCheck : Check → Type 0
  ShowsCheck check.Kept = IsKeeping
  ShowsCheck (check.Basis gs) = IsBasisIn (terms_each gs.items)

  abbrev pub ShowsEnd : ℕ → TaskEnd → Type 0
  ShowsEnd d task_end.Kept = IsKeeping
  ShowsEnd d (task_end.Rests basis rests) =
      IsBasisIn (terms_each basis.items)
      × AreRestsOf d (terms_each basis.items) (rests_of rests.items)
