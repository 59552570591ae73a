-- A closed list with its proof, as the code makes it.
--   polynomials_in, closure_nonzero, lists_alike, elements_fit      what is known of the lists
--   is_unproved      the cause of a refusal
--   is_proved        the proof
use Rattle.std.proofs.Common.{◌≡◌, ◌≢◌, inr, ℕ, suc, ◌+◌, ◌<◌, ◌≤◌, List, [], map, get_or, length, All, sym, ap, subst, ◌∙◌, arith}
use Rattle.std.proofs.lemmas.List.{length-map}
use Rattle.std.specs.Global.{Vec}
use Rattle.algebra.specs.Each.{Each}
use Rattle.algebra.proofs.In.{each_from, in_get, in_map, in_place, map-in}
use Rattle.algebra.specs.Fraction.{ℚ}
use Rattle.polynomials.specs.Order.{grevlex}
use Rattle.polynomials.specs.Polynomial.{IsPolynomial}
use Rattle.machines.specs.Journal.{Entry}
use Rattle.loops.specs.Program.{Expr, Program}
use Rattle.poly.specs.Seen.{terms_in, terms_each}
use Rattle.poly.proofs.Standing.{arities_over, polynomial_over}
use Rattle.divide.specs.Limits.{list_limit}
use Rattle.ideal_ops.specs.Calls.{AreOver}
use Rattle.loop_model.specs.FracPoly.{FracPoly}
use Rattle.closures.specs.Certified.{IsListOf, IsProofBy, StandAt}
use Rattle.closures.specs.Closing.{closed}
use Rattle.closures.specs.Ends.{ComesNext, IsClosure}
use Rattle.closures.specs.Proving.{AwaitsTests}
use Rattle.closures.proofs.Ended.{closed_is}
use Rattle.closures.proofs.Tests.{list_members}
use Rattle.closing.specs.Proving.{seen_rows, AreRows, FitsElements, HasProof, IfStopped, IfUnproved}
use Rattle.closing.specs.declared.listing.Elements.{Elements}
use Rattle.closing.specs.declared.proving.ClosureProof.{ClosureProof}
use Rattle.closing.specs.declared.proving.ProvingError.{ProvingError}
use Rattle.closing.specs.declared.proving.ProvingError.TheVariants as proving_error

pub lists_alike : {m : ℕ} (ps cs : List FracPoly) → AreOver m ps → AreOver m cs
    → All (λ (g : FracPoly). AreOver g.arity ps) cs
lists_alike ps cs a b i d l = subst (λ n. AreOver n ps) (sym (b i d l)) a

module _ (program : Program (Expr ℕ)) (ps cs : List FracPoly)
    (over : AreOver (length program.names) ps) (closure_over : AreOver (length program.names) cs)
    (before : List Entry)
    (ends : ComesNext program (terms_each ps) before (closed (terms_each cs))) where
  abbrev m : ℕ
  m = length program.names

  polynomials_in : Each (IsPolynomial ℚ grevlex m) (terms_each ps)
  polynomials_in =
      each_from (terms_each ps) (λ q n.
      let (p, i, is) = in_map terms_in ps q n in
      let (j, k, h) = in_place ps p p i in
      subst (IsPolynomial ℚ grevlex m) (sym is)
      (polynomial_over m p (ap (λ (x : FracPoly). x.arity) (sym h) ∙ over j p k)))

  is : IsClosure program (terms_each ps) (terms_each cs)
  is = closed_is program (terms_each ps) polynomials_in before (terms_each cs) ends

  closure_nonzero : All (λ (g : FracPoly). terms_in g ≢ []) cs
  closure_nonzero i d l =
      is.reduced.nonzero (terms_in (get_or cs i d)) (map-in terms_in cs (get_or cs i d)
      (in_get cs i d l))

  module _ (e : Elements) (listed : IsListOf (terms_each ps) (terms_each cs)
      (terms_each e.list.items))
      (stand : StandAt (terms_each e.list.items) (terms_each cs) e.places.items)
      (count : length e.places.items ≡ length cs) (list_over : AreOver m e.list.items) where
    pub elements_fit : length e.list.items ≤ length ps + length cs
        → length ps + length cs < list_limit → FitsElements m cs e
    elements_fit few many = record {
      over = list_over;
      many = omega (arith, few, many);
      closure_over = closure_over;
      nonzero = closure_nonzero;
      few = omega (arith, many);
      ascends = is.reduced.ascends;
      count = count;
      stand = stand;
    }

    module _ (es : List Entry) where
      pub is_unproved : (limit : ℕ) (x : ProvingError)
          → IfStopped program (terms_each ps) (terms_each cs) (terms_each e.list.items) limit es x
          → IfUnproved program (terms_each ps) (terms_each cs) limit es x
      is_unproved limit (proving_error.Wide branch element) s =
          record { list = terms_each e.list.items; is = listed; stopped = s }
      is_unproved limit proving_error.Budget s =
          record { list = terms_each e.list.items; is = listed; stopped = s }
      is_unproved limit proving_error.Memory s =
          inr (record { list = terms_each e.list.items; is = listed; stopped = s })

      pub is_proved : (d : ClosureProof) → d.list ≡ e.list
          → AwaitsTests program (terms_each ps) (terms_each cs) (terms_each e.list.items) es []
          → length d.steps.items ≡ length program.branches
          → ((b : ℕ) → b < length (map (λ (rows : Vec (Vec FracPoly)). seen_rows rows.items)
          d.steps.items)
          → AreRows program cs e (suc b)
          (get_or (map (λ (rows : Vec (Vec FracPoly)). seen_rows rows.items) d.steps.items) b []))
          → HasProof program (terms_each ps) (terms_each cs) es d
      is_proved d same a steps rows =
          let there = λ (v : Vec FracPoly). terms_each v.items in
          record {
            list = subst (λ v. IsListOf (terms_each ps) (terms_each cs) (there v)) (sym same)
                listed;
            ends =
                subst (λ v. AwaitsTests program (terms_each ps) (terms_each cs) (there v) es [])
                (sym same) a;
            count = steps;
            places = e.places.items;
            proof =
                subst (λ (v : Vec FracPoly). IsProofBy program (terms_each cs) e.places.items
                (record {
                  basis = terms_each v.items;
                  steps = map (λ (rs : Vec (Vec FracPoly)). seen_rows rs.items) d.steps.items;
                })) (sym same)
                (record {
                  arities = arities_over m e.list.items list_over;
                  stand = stand;
                  members = list_members program (terms_each ps) polynomials_in before
                      (terms_each cs) ends (terms_each e.list.items) listed;
                  rows = λ b i lb li.
                      let n = length-map d.steps.items (λ (rs : Vec (Vec FracPoly)).
                      seen_rows rs.items) in
                      let r = rows b (omega (arith, n, steps, lb)) in
                      r.each i (let k = r.count in
                      let j = length-map e.list.items terms_in in
                      omega (arith, k, j, li));
                });
          }
