-- What holds where a division has ended, as the program sees it.
--   places_of, all_of          of each element of the program's list, and at each place of what it stands for
--   rest_is                    what is left, as the remainder
--   sum_of, descending_of     the laws of machines for this division
use Rattle.std.proofs.Common.{◌≡◌, ◌≢◌, ◌↔◌, ℕ, zero, suc, Bool, true, false, List, [], ◌∷◌, ◌++◌, map, refl, subst}
use Rattle.std.specs.List.{All}
use Rattle.std.proofs.lemmas.List.Elements.{All-nil, All-cons, All-map}
use Rattle.std.proofs.lemmas.Option.{slice_get_within, get_or_from_slice_get}
use Rattle.algebra.specs.Ring.{Field, IsRing, IsFieldOf}
use Rattle.algebra.specs.FieldArithmetic.{field_of}
use Rattle.algebra.specs.Scalars.{Scalars, field}
use Rattle.algebra.proofs.ScalarFields.{is_field}
use Rattle.polynomials.specs.Terms.{Terms, Same, combination}
use Rattle.polynomials.specs.Order.{Rank, IsMonomialOrder}
use Rattle.polynomials.specs.Polynomial.{IsPolynomial}
use Rattle.machines.specs.Basis.{AtPlaces}
use Rattle.machines.specs.Division.{State, next, initial_state, remainder}
use Rattle.machines.specs.Journal.{Entry}
use Rattle.machines.specs.Work.{WorkToEnd}
use Rattle.machines.proofs.Cofactors.{cofactors_fall}
use Rattle.machines.proofs.Dividing.{division_sum}
use Rattle.divide.proofs.Divided.{state}

module _ {X A : Type 0} (seen : X → A) (P : A → Type 0) where
  pub places_of : (xs : List X) → All (λ x. P (seen x)) xs → AtPlaces P (map seen xs)
  places_of xs h k g e = subst P (get_or_from_slice_get (map seen xs) k g g e)
      (All-map P seen xs h k g (slice_get_within (map seen xs) k g e))

  pub all_of : (xs : List X) → AtPlaces P (map seen xs) → All (λ x. P (seen x)) xs
  all_of [] h = All-nil (λ y. P (seen y))
  all_of (x ∷ xs) h = All-cons (λ y. P (seen y)) x xs (h zero (seen x) refl)
      (all_of xs (λ k g e. h (suc k) g e))

pub rest_is : {A : Type 0} (b : Bool) (p : Terms A) (qs : List (Terms A)) → (b ≡ true → p ≡ [])
    → p ≡ remainder (state b p qs)
rest_is true p qs h = h refl
rest_is false p qs h = refl

module _ (S : Scalars) (r : IsRing S.arithmetic) (f : IsFieldOf S.arithmetic S.inverse)
    (z : (a : S.Elem) → (S.is_zero a ≡ true) ↔ (a ≡ S.zero)) (O : Rank) (o : IsMonomialOrder O)
    (m : ℕ)
    (gs : List (Terms S.Elem)) (p : Terms S.Elem) (s : State S.Elem) (before after : List Entry)
    (hg : AtPlaces (λ g. IsPolynomial S.arithmetic O m g × (g ≢ [])) gs)
    (hp : IsPolynomial S.arithmetic O m p) (fin : WorkToEnd (next (field S) O gs)
    (initial_state gs p)
    before after s) where
  abbrev K : Field S.Elem
  K = field_of (field S) (is_field S r f z)

  pub sum_of : Same S.arithmetic p (combination S.arithmetic s.cofactors gs ++ remainder s)
  sum_of = division_sum K O o m gs p s fin.work.events hg hp fin.work.run

  pub descending_of : AtPlaces (IsPolynomial S.arithmetic O m) s.cofactors
  descending_of = cofactors_fall K O o m gs (λ k g at.
      (let two = hg k g at in record { polynomial = two.0; nonzero = two.1 })) p hp s
      fin.work.events fin.work.run
