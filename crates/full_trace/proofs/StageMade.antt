-- The parts of a stage as the code makes them.
--   list_made                    the completion, in any order
--   free_divisors, free_short    what is kept of it has its variables and its order, and is no more
--   pairs_inside                 the places of pairs
--   out_made                     the tidying
use Rattle.std.proofs.Common.{◌≡◌, ℕ, ◌≤◌, ◌<◌, ◌^◌, List, length, get_or, refl, sym, ap, subst, arith}
use Rattle.std.specs.List.{All}
use Rattle.std.specs.Global.{Vec}
use Rattle.std.proofs.lemmas.List.{length-map, get_or_default}
use Rattle.std.proofs.lemmas.Option.{slice_get-get_or}
use Rattle.algebra.specs.Fraction.{Fraction, ℚ, rationals}
use Rattle.polynomials.specs.Terms.{Terms}
use Rattle.machines.specs.Basis.{AtPlaces}
use Rattle.machines.specs.Cut.{lead_number}
use Rattle.machines.specs.Elimination.{free_part}
use Rattle.machines.specs.Journal.{Journal}
use Rattle.machines.specs.Machine.{done, Ran}
use Rattle.machines.proofs.Front.{kept_few}
use Rattle.machines.proofs.Places.{get_map}
use Rattle.monos.specs.declared.order.Grevlex.{Grevlex}
use Rattle.corollaries.specs.Representation.{pairs_of}
use Rattle.poly.specs.Seen.{terms_in, terms_each}
use Rattle.divide.specs.Current.{AreDivisors}
use Rattle.complete.specs.Completing.{completion_of, HasElements, IsBasis}
use Rattle.reduced_basis.specs.Tidying.{tidying_of, HasTidied}
use Rattle.task_lists.proofs.Monic.{monic_some}
use Rattle.task_lists.proofs.Places.{pairs_within}
use Rattle.loop_model.specs.FracPoly.{FracPoly}
use Rattle.corollaries.specs.Making.{IsListMade, IsOutMade}
use Rattle.corollaries.proofs.Staged.{kept_ones}
use Rattle.std.specs.declared.cmp.PartialEq as PartialEq
use Rattle.monos.specs.declared.order.Order as Order
use Rattle.full_trace.proofs.RowsMade.{Polynomial}

-- ---- the completion
pub list_made : {O : Type 0} {k : Order.Ghosts O} {l : PartialEq.Ghosts O} {o : O} {m : ℕ}
    (begin : List (Polynomial O k l)) {v : Vec (Polynomial O k l)} {old mid : Journal}
    → Ran (completion_of o begin) (HasElements o m) old mid (done v) → IsBasis o m begin v.items
    → IsListMade (k.order o) (terms_each begin) (terms_each v.items) old.entries mid.entries
list_made begin r b = record {
  last = r.to.last;
  finished = r.to.finished;
  is = r.to.gives.basis;
  monic = b.monic;
}

-- ---- what is kept of it
module _ (k : ℕ) (list : List (Terms Fraction)) (gs : List FracPoly)
    (is : terms_each gs ≡ free_part k list) where
  pub free_divisors : (o : Grevlex) {m : ℕ} → AtPlaces (λ g. lead_number rationals g ≡ ℚ.one) list
      → All (λ (p : FracPoly). p.arity ≡ m) gs → AreDivisors o m gs
  free_divisors o monic over i d l = (
    refl,
    over i d l,
    monic_some (terms_in (get_or gs i d)) (subst (AtPlaces (λ g.
        lead_number rationals g ≡ ℚ.one)) (sym is) (kept_ones k list monic) i
        (terms_in (get_or gs i d)) (get_map terms_in gs i (get_or gs i d)
        (slice_get-get_or gs i d l))),
  )

  pub free_short : length list ≤ 2 ^ 31 → length gs ≤ 2 ^ 31
  free_short h =
      let a = kept_few k list in
      let b = length-map gs terms_in in
      let c = ap length is in
      omega (arith, a, b, c, h)

-- ---- the pairs
pub pairs_inside : (n : ℕ) {ab : List (ℕ × ℕ)} → ab ≡ pairs_of n
    → All (λ (a : ℕ × ℕ). (a.0 < n) × (a.1 < n)) ab
pairs_inside n is = subst (All (λ (a : ℕ × ℕ). (a.0 < n) × (a.1 < n))) (sym is)
    (λ i d l. subst (λ (a : ℕ × ℕ). (a.0 < n) × (a.1 < n))
    (get_or_default (pairs_of n) i (0, 0) d l) (pairs_within n i l))

-- ---- the tidying
pub out_made : (m : ℕ) {o : Grevlex} (fs : List FracPoly) {v : Vec FracPoly} {old mid : Journal}
    → Ran (tidying_of o fs) (HasTidied o m) old mid (done v) → {gs : List (Terms Fraction)}
    → terms_each fs ≡ gs → IsOutMade gs (terms_each v.items) old.entries mid.entries
out_made m fs {v = v} {old = old} {mid = mid} r is =
    subst (λ hs. IsOutMade hs (terms_each v.items) old.entries mid.entries) is
    (record { last = r.to.last; finished = r.to.finished; is = r.to.gives.list })
