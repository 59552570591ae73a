-- Membership by division, for a complete list whose elements needn't be monic.
--   member_decided     the rest is 0 exactly for members
--   nothing_left       where a division has ended, the rest is 0 exactly where nothing is left
--   decided_by         the answer, by whether the rest is 0
use Rattle.std.proofs.Common.{◌≡◌, ◌≢◌, ◌↔◌, ℕ, Bool, true, false, not, is_some, IsTrue, List, [], ◌∷◌, Option, Some, None, refl, sym, ap, ◌∙◌}
use Rattle.algebra.specs.FieldArithmetic.{FieldArithmetic, calculus}
use Rattle.algebra.specs.Ring.{Field, operations}
use Rattle.polynomials.specs.Order.{Rank, IsMonomialOrder}
use Rattle.polynomials.specs.Polynomial.{IsPolynomial}
use Rattle.polynomials.specs.Terms.{Terms}
use Rattle.ideals.specs.Members.{IsMember}
use Rattle.machines.specs.Basis.{AtPlaces, SomeLeadDivides}
use Rattle.machines.specs.Cut.{find_cut}
use Rattle.machines.specs.Division as division
use Rattle.machines.specs.Event.{Event}
use Rattle.machines.specs.Run.{IsRun, HasEnded}
use Rattle.machines.proofs.Completed.{rest_decides}

module _ {A : Type 0} (K : Field A) (O : Rank) (o : IsMonomialOrder O) (m : ℕ) (gs : List (Terms A))
    (el : AtPlaces (λ g. IsPolynomial (operations K.ring) O m g × (g ≢ [])) gs)
    (led : (t : List ℕ × A) (q : Terms A) → IsPolynomial (operations K.ring) O m (t ∷ q)
    → IsMember (operations K.ring) m gs (t ∷ q) → SomeLeadDivides gs t.0)
    (p : Terms A) (hp : IsPolynomial (operations K.ring) O m p) (s : division.State A)
    (es : List Event)
    (run : IsRun (division.next (calculus K) O gs) (division.initial_state gs p) es s)
    (ended : HasEnded (division.next (calculus K) O gs) s) where
  pub member_decided : IsMember (operations K.ring) m gs p ↔ (division.remainder s ≡ [])
  member_decided = rest_decides K O o m gs (λ k g at. record {
    polynomial = (el k g at).0;
    nonzero = (el k g at).1;
  }) led p hp s es run ended

-- ---- nothing left
module _ {A : Type 0} (F : FieldArithmetic A) (O : Rank) (gs : List (Terms A)) where
  put_away : (c : Option (Terms A)) (qs : List (Terms A)) → division.next_division F O gs c qs
      ≡ None
      → division.remainder_of c ≡ [] → c ≡ None
  unfolding division.next_division division.next_cut find_cut
  put_away None qs n e = refl
  put_away (Some []) qs n e = absurd (let z : ⊥ = cc in z)
  put_away (Some (t ∷ p)) qs n e = absurd (let z : ⊥ = cc in z)

  nothing_left : (s : division.State A) → HasEnded (division.next F O gs) s
      → division.remainder s ≡ []
      → s.current ≡ None
  unfolding division.next
  nothing_left s n e = put_away s.current s.cofactors n e

  pub decided_by : (b : Bool) (s : division.State A) (q : Terms A)
      → HasEnded (division.next F O gs) s → q ≡ division.remainder s → (IsTrue b ↔ (q ≡ []))
      → b ≡ not (is_some s.current)
  decided_by true s q n e h = sym (ap (λ c. not (is_some c)) (nothing_left s n (sym e ∙ h.0 refl)))
  decided_by false s q n e h = go s.current refl
    where
      go : (c : Option (Terms A)) → s.current ≡ c → false ≡ not (is_some s.current)
      go (Some p) i = sym (ap (λ c. not (is_some c)) i)
      go None i = absurd (let f : false ≡ true = h.1 (e ∙ ap division.remainder_of i) in let z : ⊥ =
          cc in z)
