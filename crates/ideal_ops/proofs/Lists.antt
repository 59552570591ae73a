-- Lists of polynomials of the program, by what is known of each (specs/Calls, Eliminating).
--   arity_here                of one of a list
--   over_each, block_each     they are polynomials in their order
--   block_like, like_block    their order and arity, in the words of completion
--   divisors_block, divisors_over     in the words of tidying and of completion, and back
--   over_like                 lists of one order
use Rattle.std.proofs.Common.{◌≡◌, ◌≢◌, ◌<◌, ℕ, List, [], ◌∷◌, ◌++◌, length, get_or, Result, Ok, Err, sym, ap, subst, ◌∙◌}
use Rattle.std.specs.List.{All}
use Rattle.std.specs.Result.{IfOk}
use Rattle.std.proofs.lemmas.List.Elements.{All-nil, All-cons, All-head, All-tail}
use Rattle.std.specs.declared.cmp.PartialEq as PartialEq
use Rattle.algebra.specs.Each.{Each}
use Rattle.polynomials.specs.Order.{Rank, grevlex, blocks}
use Rattle.polynomials.specs.Polynomial.{IsPolynomial}
use Rattle.ring_laws.specs.declared.Ring as Ring
use Rattle.monos.specs.declared.order.Blocks.{Blocks}
use Rattle.monos.specs.declared.order.Order as Order
use Rattle.poly.specs.declared.Poly.{Poly}
use Rattle.poly.specs.Seen.{terms_in, terms_each}
use Rattle.divide.specs.Current.{AreDivisors}
use Rattle.complete.specs.Completing.{AreLike}
use Rattle.ideal_ops.specs.Calls.{AreOver}
use Rattle.ideal_ops.specs.Eliminating.{HaveBlock, HaveBlockAndLead}

pub both_ok : {X E : Type 0} {P Q R : X → Type 0} (r : Result X E) → ((x : X) → P x → Q x → R x)
    → IfOk r P → IfOk r Q → IfOk r R
both_ok (Ok x) f p q = f x p q
both_ok (Err e) f p q = tt

module _ {X : Type 0} (P : X → Type 0) where
  pub all_left : (xs ys : List X) → All P (xs ++ ys) → All P xs
  all_left [] ys h = All-nil P
  all_left (x ∷ xs) ys h = All-cons P x xs (All-head P x (xs ++ ys) h)
      (all_left xs ys (All-tail P x (xs ++ ys) h))

  pub all_right : (xs ys : List X) → All P (xs ++ ys) → All P ys
  all_right [] ys h = h
  all_right (x ∷ xs) ys h = all_right xs ys (All-tail P x (xs ++ ys) h)

module _ {K O : Type 0} {g : Ring.Ghosts K} {h : PartialEq.Ghosts K} {k : Order.Ghosts O}
    {l : PartialEq.Ghosts O} where
  pub polynomial_at : (Q : Rank) (m : ℕ) (p : Poly K O g h k l) → k.order p.order ≡ Q → p.arity ≡ m
      → IsPolynomial g.scalars.arithmetic Q m (terms_in p)
  polynomial_at Q m p e f = subst (λ x. IsPolynomial g.scalars.arithmetic x m (terms_in p)) e
      (subst (λ n. IsPolynomial g.scalars.arithmetic (k.order p.order) n (terms_in p)) f
      p.polynomial)

  pub over_left : (m : ℕ) (ps qs : List (Poly K O g h k l)) → AreOver m (ps ++ qs) → AreOver m ps
  over_left m ps qs a = all_left (λ p. p.arity ≡ m) ps qs a

  pub over_right : (m : ℕ) (ps qs : List (Poly K O g h k l)) → AreOver m (ps ++ qs) → AreOver m qs
  over_right m ps qs a = all_right (λ p. p.arity ≡ m) ps qs a

  pub arity_here : (m : ℕ) (ps : List (Poly K O g h k l)) (i : ℕ) (p : Poly K O g h k l)
      → AreOver m ps → i < length ps → p ≡ get_or ps i p → p.arity ≡ m
  arity_here m ps i p a l e = ap (λ q. q.arity) e ∙ a i p l

  pub over_each : (Q : Rank) → ((o : O) → k.order o ≡ Q) → (m : ℕ) (ps : List (Poly K O g h k l))
      → AreOver m ps → Each (IsPolynomial g.scalars.arithmetic Q m) (terms_each ps)
  unfolding Each
  over_each Q rank m [] a = tt
  over_each Q rank m (p ∷ ps) a = (
    polynomial_at Q m p (rank p.order) (All-head (λ q. q.arity ≡ m) p ps a),
    over_each Q rank m ps (All-tail (λ q. q.arity ≡ m) p ps a),
  )

  pub divisors_over : (o : O) (m : ℕ) (ps : List (Poly K O g h k l)) → AreDivisors o m ps
      → AreOver m ps
  divisors_over o m ps a i d b = (a i d b).1

  pub over_like : (o : O) (m : ℕ) → ((q : O) → q ≡ o) → (ps : List (Poly K O g h k l))
      → AreOver m ps → AreLike o m ps
  over_like o m only ps a i d b = (only _, a i d b)

pub block_of : (n : ℕ) (o : Blocks) → o.first ≡ n → o ≡ record { first = n }
block_of n o e = ap (λ (j : ℕ). let b : Blocks = record { first = j } in b) e

module _ {K : Type 0} {g : Ring.Ghosts K} {h : PartialEq.Ghosts K} {k : Order.Ghosts Blocks}
    {l : PartialEq.Ghosts Blocks} where
  pub block_like : (n m : ℕ) (ps : List (Poly K Blocks g h k l)) → HaveBlock n m ps
      → AreLike (record { first = n }) m ps
  block_like n m ps a i d b = let one = a i d b in (block_of n _ one.0, one.1)

  pub block_here : (n m : ℕ) (ps : List (Poly K Blocks g h k l)) (i : ℕ) (p : Poly K Blocks g h k l)
      → HaveBlockAndLead n m ps → i < length ps → p ≡ get_or ps i p → (p.order.first ≡ n)
      × (p.arity ≡ m) × (terms_in p ≢ [])
  block_here n m ps i p a l e = subst (λ q. (q.order.first ≡ n) × (q.arity ≡ m) × (terms_in q ≢ []))
      (sym e) (a i p l)

  pub block_polynomial : ((o : Blocks) → k.order o ≡ blocks o.first grevlex grevlex)
      → (n m : ℕ) (p : Poly K Blocks g h k l) → p.order.first ≡ n → p.arity ≡ m
      → IsPolynomial g.scalars.arithmetic (blocks n grevlex grevlex) m (terms_in p)
  block_polynomial rank n m p e f = polynomial_at (blocks n grevlex grevlex) m p (rank p.order
      ∙ ap (λ j. blocks j grevlex grevlex) e) f

  pub block_each : ((o : Blocks) → k.order o ≡ blocks o.first grevlex grevlex)
      → (n m : ℕ) (ps : List (Poly K Blocks g h k l)) → HaveBlock n m ps
      → Each (IsPolynomial g.scalars.arithmetic (blocks n grevlex grevlex) m) (terms_each ps)
  unfolding Each
  block_each rank n m [] a = tt
  block_each rank n m (p ∷ ps) a =
      let one = All-head (λ q. (q.order.first ≡ n) × (q.arity ≡ m)) p ps a in (
        polynomial_at (blocks n grevlex grevlex) m p (rank p.order
            ∙ ap (λ j. blocks j grevlex grevlex) one.0) one.1,
        block_each rank n m ps (All-tail (λ q. (q.order.first ≡ n) × (q.arity ≡ m)) p ps a),
      )

  pub divisors_block : (n m : ℕ) (ps : List (Poly K Blocks g h k l))
      → AreDivisors (record { first = n }) m ps → HaveBlockAndLead n m ps
  divisors_block n m ps a i d b = let one = a i d b in (
    ap (λ (o : Blocks). o.first) one.0,
    one.1,
    one.2,
  )
