-- Lists of one order and of as many variables, in the words of the operations on ideals.
--   over_of          how many variables each has
--   one_arity        two lists together
--   arity_within     what bounds the number of variables bounds that of the first
--   alike            all as each of them
--   block_within     a first block within the variables
--   complete_of      a Gröbner basis of an ideal is complete
use Rattle.std.proofs.Common.{◌≡◌, ◌≤◌, ℕ, List, [], ◌∷◌, ◌++◌, sym, ap, ◌∙◌, arith}
use Rattle.std.proofs.lemmas.List.Elements.{All-nil, All-head, All-append}
use Rattle.std.specs.declared.cmp.PartialEq as PartialEq
use Rattle.algebra.specs.Scalars.{field}
use Rattle.polynomials.specs.Terms.{Terms}
use Rattle.machines.specs.Basis.{IsBasisOf}
use Rattle.ring_laws.specs.declared.Ring as Ring
use Rattle.monos.specs.declared.order.Blocks.{Blocks}
use Rattle.monos.specs.declared.order.Order as Order
use Rattle.poly.specs.declared.Poly.{Poly}
use Rattle.poly.specs.Seen.{terms_each, arity_of}
use Rattle.complete.specs.Completing.{AreLike, AreAlike}
use Rattle.ideal_ops.specs.Calls.{AreOver, HaveOneArity, first_block}
use Rattle.ideal_ops.specs.Membership.{IsComplete}

module _ {K O : Type 0} {g : Ring.Ghosts K} {h : PartialEq.Ghosts K} {k : Order.Ghosts O}
    {l : PartialEq.Ghosts O} where
  pub over_of : (o : O) (m : ℕ) (ps : List (Poly K O g h k l)) → AreLike o m ps → AreOver m ps
  over_of o m ps a i d b = (a i d b).1

  first_over : (m : ℕ) (ps : List (Poly K O g h k l)) → AreOver m ps → HaveOneArity ps
  first_over m [] a i d b = All-nil (λ p. p.arity ≡ 0) i d b
  first_over m (p ∷ ps) a i d b = a i d b ∙ sym (All-head (λ q. q.arity ≡ m) p ps a)

  pub one_arity : (o : O) (m : ℕ) (ps qs : List (Poly K O g h k l)) → AreLike o m ps
      → AreLike o m qs → HaveOneArity (ps ++ qs)
  one_arity o m ps qs a b =
      first_over m (ps ++ qs) (All-append (λ p. p.arity ≡ m) ps qs (over_of o m ps a)
      (over_of o m qs b))

  first_within : (m n : ℕ) → m ≤ n → (ps : List (Poly K O g h k l)) → AreOver m ps → arity_of ps ≤ n
  first_within m n few [] a = omega (arith)
  first_within m n few (p ∷ ps) a = let e = All-head (λ q. q.arity ≡ m) p ps a in
      omega (arith, e, few)

  pub arity_within : (o : O) (m n : ℕ) → m ≤ n → (ps qs : List (Poly K O g h k l)) → AreLike o m ps
      → AreLike o m qs → arity_of (ps ++ qs) ≤ n
  arity_within o m n few ps qs a b =
      first_within m n few (ps ++ qs) (All-append (λ p. p.arity ≡ m) ps qs (over_of o m ps a)
      (over_of o m qs b))

  pub alike : (o : O) (m : ℕ) (ps : List (Poly K O g h k l)) → AreLike o m ps → AreAlike ps
  alike o m ps a i d b j e c =
      let one = a i d b in
      let other = a j e c in
      (other.0 ∙ sym one.0, other.1 ∙ sym one.1)

  pub complete_of : (o : O) (m : ℕ) (ps : List (Poly K O g h k l))
      (hs : List (Terms g.scalars.Elem)) → IsBasisOf (field g.scalars) (k.order o) m (terms_each ps)
      hs → IsComplete o m ps
  complete_of o m ps hs b = record {
    led = λ t q is member.
        b.led t q is ((b.same (t ∷ q) is).0 member);
  }

module _ {K : Type 0} {g : Ring.Ghosts K} {h : PartialEq.Ghosts K} {k : Order.Ghosts Blocks}
    {l : PartialEq.Ghosts Blocks} where
  pub block_within : (n m : ℕ) → n ≤ m → (ps : List (Poly K Blocks g h k l))
      → AreLike (record { first = n }) m ps → first_block ps ≤ arity_of ps
  block_within n m few [] a = omega (arith)
  block_within n m few (p ∷ ps) a =
      let one = All-head (λ q. (q.order ≡ record { first = n }) × (q.arity ≡ m)) p ps a in
      let first = ap (λ (o : Blocks). o.first) one.0 in
      let arity = one.1 in
      omega (arith, first, arity, few)
