-- What holds where a tidying has ended, as the program sees it.
--   reduced_of      the law of machines for this tidying
use Rattle.std.proofs.Common.{◌≡◌, ◌↔◌, ℕ, true, List}
use Rattle.algebra.specs.FieldArithmetic.{field_of}
use Rattle.algebra.specs.Ring.{Field, IsRing, IsFieldOf}
use Rattle.algebra.specs.Scalars.{Scalars, field}
use Rattle.algebra.proofs.ScalarFields.{is_field}
use Rattle.polynomials.specs.Order.{Rank, IsMonomialOrder}
use Rattle.polynomials.specs.Polynomial.{IsPolynomial}
use Rattle.polynomials.specs.Terms.{Terms}
use Rattle.ideals.specs.Members.{IsMember}
use Rattle.machines.specs.Basis.{AtPlaces, IsBasisOf}
use Rattle.machines.specs.Journal.{Entry}
use Rattle.machines.specs.Reduced.{IsReducedBasis}
use Rattle.machines.specs.Tidying.{next, by_lead}
use Rattle.machines.specs.Work.{WorkToEnd}
use Rattle.machines.proofs.Ends.{reduced_basis}
use Rattle.machines.proofs.Reducing.{tidied}

module _ (S : Scalars) (r : IsRing S.arithmetic) (f : IsFieldOf S.arithmetic S.inverse)
    (z : (a : S.Elem) → (S.is_zero a ≡ true) ↔ (a ≡ S.zero)) (O : Rank) (o : IsMonomialOrder O)
    (m : ℕ) where
  abbrev K : Field S.Elem
  K = field_of (field S) (is_field S r f z)

  pub reduced_of : (hs gs us : List (Terms S.Elem)) (before after : List Entry)
      → AtPlaces (IsPolynomial S.arithmetic O m) hs → IsBasisOf (field S) O m gs hs
      → WorkToEnd (next (field S) O) (by_lead O gs) before after us
      → IsReducedBasis (field S) O m us (IsMember S.arithmetic m hs)
  reduced_of hs gs us before after ph b fin =
      reduced_basis K O o m hs ph us (tidied K O o m hs gs ph b us fin.work.events
      fin.work.run fin.ended) (IsMember S.arithmetic m hs) (λ p hp. ((λ i. i), (λ i. i)))
