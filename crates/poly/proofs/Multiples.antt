-- A polynomial less a multiple of another, and divided by a number (specs/Multiple).
--   less_multiple                  the sum with the opposite multiple is the difference
--   past_raise, past_raise_one     where a step of that is past, by any number and by one
--   under_one, small_product       products with numbers that are at most one
--   quotient_number                a quotient is the product with the inverse
--   past_quotient_at               where that of a term is past
--   monic_already                  divided by one
--   seen_lead, first_number, first_nonzero     the lead
use Rattle.std.proofs.Common.{◌≡◌, ◌≢◌, ◌⊎◌, inl, inr, ℕ, zero, suc, ◌*◌, ◌<◌, List, [], ◌∷◌, ◌++◌, append_assoc, map, drop, slice_get, Some, replicate, refl, sym, ap, ap₂, subst, ◌∙◌, arith}
use Rattle.std.proofs.lemmas.List.{append-nil}
use Rattle.algebra.specs.Each.{Each}
use Rattle.algebra.specs.Ring.{CommRing, IsRing, IsFieldOf, ring as ring_of}
use Rattle.algebra.proofs.RingLaws.{neg-mul, one-mul}
use Rattle.algebra.specs.Scalars.{Scalars, IsBounded, IsPastAdd}
use Rattle.algebra.specs.Size.{Size, size, factor_of, IsPast, IsUnder, sum_size, product_size, quotient_size, times_size}
use Rattle.algebra.proofs.LcmLaws.{lcm-pos}
use Rattle.algebra.proofs.RatioLaws.{mul-pos}
use Rattle.algebra.proofs.SizeLaws.{under_refl, under_trans, under-sum, sum-right, past_under, sum_size_assoc}
use Rattle.algebra.proofs.ProductSizes.{under_at_most, past_at_most, product_at_most_left, product_den-pos, times_under_product, under_times, past_product, clean_of}
use Rattle.polynomials.specs.Algebra as Algebra
use Rattle.polynomials.specs.Exponent.{plus}
use Rattle.polynomials.specs.Order.{Rank}
use Rattle.polynomials.specs.Polynomial.{Arity, IsPolynomial}
use Rattle.polynomials.specs.Terms.{Terms, Same, coefficient, constant, negate, shift, times}
use Rattle.polynomials.specs.Weight.{weight, degrees, FitsMonomial, IsPastSum}
use Rattle.polynomials.proofs.Arity.{zeros-plus}
use Rattle.polynomials.proofs.Same.{Same-refl}
use Rattle.polynomials.proofs.Weight.{weight-pos, weight-append, weight-front, weight-term, clean-weight, weight-shift, sum_within}
use Rattle.poly.specs.Multiple.{IsPastMultiple, lead_coefficient}
use Rattle.poly.specs.Raised.{IsPastRaise}
use Rattle.poly.proofs.GridHolds.{shift-at}
use Rattle.poly.proofs.Steps.{past_scale_at, shift_fits_at}
use Rattle.poly.proofs.TermWeights.{weight-one}

-- ---- a product with one
pub under_one : (a : Size) → 0 < a.den → IsUnder (times_size (size 1 1) a) a
under_one a k = subst (λ x. IsUnder x a) (sym same) (under_refl a k)
  where
    one_mul : (n : ℕ) → 1 * n ≡ n
    one_mul n = omega arith

    same : times_size (size 1 1) a ≡ a
    same = λ i. record { size = one_mul a.size i; den = one_mul a.den i }

past_one : (a : Size) → IsPast (product_size (size 1 1) a) → IsPast a
past_one a past = go a.size a.den past
  where
    go : (n d : ℕ) → IsPast (size (1 * (factor_of n d).size) (1 * (factor_of n d).den))
        → IsPast (size n d)
    go zero d (inl p) = absurd (omega (arith, p))
    go zero d (inr p) = absurd (omega (arith, p))
    go (suc n) d (inl p) = inl (omega (arith, p))
    go (suc n) d (inr p) = inr (omega (arith, p))

module _ (S : Scalars) (r : IsRing S.arithmetic) where
  abbrev R : CommRing S.Elem
  R = ring_of S.arithmetic r

  abbrev W : Terms S.Elem → Size
  W = weight S.size

  negate-shift : (d : List ℕ) (c e : S.Elem) (g : Terms S.Elem) → e ≡ S.neg c
      → shift S.arithmetic d e g ≡ negate S.arithmetic (shift S.arithmetic d c g)
  unfolding Algebra.shift Algebra.negate
  negate-shift d c e [] is = refl
  negate-shift d c e (t ∷ g) is = ap₂ (λ (a : S.Elem) (zs : Terms S.Elem). (plus d t.0, a) ∷ zs)
      (ap (λ a. S.mul a t.1) is ∙ neg-mul R c t.1) (negate-shift d c e g is)

  pub less_multiple : (out zs p g : Terms S.Elem) (d : List ℕ) (c e : S.Elem) → e ≡ S.neg c
      → out ≡ zs → Same S.arithmetic zs (p ++ shift S.arithmetic d e g)
      → Same S.arithmetic out (p ++ negate S.arithmetic (shift S.arithmetic d c g))
  less_multiple out zs p g d c e is k same =
      subst (λ (q : Terms S.Elem).
      Same S.arithmetic q (p ++ negate S.arithmetic (shift S.arithmetic d c g))) (sym k)
      (subst (λ (q : Terms S.Elem). Same S.arithmetic zs (p ++ q)) (negate-shift d c e g is)
      same)

  module _ (z : IsBounded S.arithmetic S.size) where
    opposite_size : (c e : S.Elem) → e ≡ S.neg c → S.size e ≡ S.size c
    opposite_size c e is = ap S.size is ∙ z.neg_size c

    whole_pos : (c : S.Elem) (g : Terms S.Elem) → 0 < (product_size (S.size c) (W g)).den
    whole_pos c g = product_den-pos (S.size c) (W g) (z.den_pos c) (weight-pos R S.size z g)

    of_product : (p g : Terms S.Elem) (c : S.Elem) → IsPast (product_size (S.size c) (W g))
        → IsPast (sum_size (W p) (product_size (S.size c) (W g)))
    of_product p g c past =
        let whole = product_size (S.size c) (W g) in
        let hp = weight-pos R S.size z p in
        past_under whole (sum_size (W p) whole) (lcm-pos (W p).den whole.den hp (whole_pos c g))
        (sum-right (W p) whole hp (whole_pos c g)) past

    -- of a sum with the product of one term
    sized_product : (c : S.Elem) (g : Terms S.Elem) (d : List ℕ)
        → IsUnder (W (shift S.arithmetic d c g)) (product_size (S.size c) (W g))
    sized_product c g d =
        under_trans (W (shift S.arithmetic d c g)) (times_size (S.size c) (W g))
        (product_size (S.size c) (W g)) (weight-pos R S.size z (shift S.arithmetic d c g))
        (whole_pos c g)
        (weight-shift R S.size z d c g) (times_under_product (S.size c) (W g)
        (clean_of S.arithmetic S.size z c) (clean-weight R S.size z g))

    past_added : (p g done back zs : Terms S.Elem) (t : List ℕ × S.Elem) (d : List ℕ) (c : S.Elem)
        (whole : Size) → 0 < whole.den → IsUnder (W (shift S.arithmetic d c g)) whole
        → g ≡ done ++ t ∷ back → Same S.arithmetic zs (p ++ shift S.arithmetic d c done)
        → IsPastAdd S (coefficient S.arithmetic zs (plus d t.0)) (S.mul c t.1)
        → IsPast (sum_size (W p) whole)
    past_added p g done back zs t d c whole hw all is same past =
        let e = plus d t.0 in
        let a = S.mul c t.1 in
        let x = S.size (coefficient S.arithmetic zs e) in
        let front = W (shift S.arithmetic d c done) in
        let one = (e, a) ∷ [] in
        let hx = z.den_pos (coefficient S.arithmetic zs e) in
        let ha = z.den_pos a in
        let hp = weight-pos R S.size z p in
        let hf = weight-pos R S.size z (shift S.arithmetic d c done) in
        let hs = lcm-pos front.den (S.size a).den hf ha in
        let next : sum_size front (S.size a) ≡ W (shift S.arithmetic d c done ++ one) =
        ap (sum_size front) (sym (weight-one S r z e a))
        ∙ sym (weight-append R S.size z (shift S.arithmetic d c done) one) in
        let part : IsUnder (W (shift S.arithmetic d c done ++ one)) (W (shift S.arithmetic d c g)) =
        subst (λ (q : Terms S.Elem). IsUnder (W (shift S.arithmetic d c done ++ one)) (W q))
        (append_assoc (shift S.arithmetic d c done) one (shift S.arithmetic d c back)
        ∙ sym (shift-at S d c g done back t is))
        (weight-front R S.size z (shift S.arithmetic d c done ++ one) (shift S.arithmetic d c back))
        in
        let under : IsUnder (sum_size front (S.size a)) whole =
        subst (λ s. IsUnder s whole) (sym next)
        (under_trans (W (shift S.arithmetic d c done ++ one)) (W (shift S.arithmetic d c g)) whole
        (weight-pos R S.size z (shift S.arithmetic d c done ++ one)) hw part all) in
        let first : IsUnder (sum_size x (S.size a)) (sum_size (W p) (sum_size front (S.size a))) =
        subst (IsUnder (sum_size x (S.size a))) (sum_size_assoc (W p) front (S.size a) hp hf ha)
        (under-sum x (S.size a) (sum_size (W p) front) (S.size a) hx ha
        (lcm-pos (W p).den front.den hp hf) ha
        (sum_within R S.size z p (shift S.arithmetic d c done) zs same e)
        (under_refl (S.size a) ha)) in
        past_under (sum_size x (S.size a)) (sum_size (W p) whole)
        (lcm-pos (W p).den whole.den hp hw)
        (under_trans (sum_size x (S.size a)) (sum_size (W p) (sum_size front (S.size a)))
        (sum_size (W p) whole) (lcm-pos x.den (S.size a).den hx ha)
        (lcm-pos (W p).den whole.den hp hw) first
        (under-sum (W p) (sum_size front (S.size a)) (W p) whole hp hs hp hw
        (under_refl (W p) hp) under)) past

    pub past_raise : (p g done back zs : Terms S.Elem) (t : List ℕ × S.Elem) (d : List ℕ)
        (c e : S.Elem) → e ≡ S.neg c → g ≡ done ++ t ∷ back
        → Same S.arithmetic zs (p ++ shift S.arithmetic d e done)
        → IsPastRaise S zs d e t → IsPastMultiple S p d c g
    past_raise p g done back zs t d c e is at same (inl wide) =
        inr (λ fits. wide (shift_fits_at d g done back t at fits))
    past_raise p g done back zs t d c e is at same (inr (inl past)) =
        inl (of_product p g c (subst (λ s. IsPast (product_size s (W g))) (opposite_size c e is)
        (past_scale_at S r z e g done back t at past)))
    past_raise p g done back zs t d c e is at same (inr (inr past)) =
        inl (subst (λ s. IsPast (sum_size (W p) (product_size s (W g)))) (opposite_size c e is)
        (past_added p g done back zs t d e (product_size (S.size e) (W g)) (whole_pos e g)
        (sized_product e g d) at same past))

    -- of a number that is at most one
    pub small_product : (c : S.Elem) (g : Terms S.Elem) (d : List ℕ) → IsUnder (S.size c) (size 1 1)
        → IsUnder (W (shift S.arithmetic d c g)) (W g)
    small_product c g d small =
        let wg = weight-pos R S.size z g in
        under_trans (W (shift S.arithmetic d c g)) (times_size (S.size c) (W g)) (W g)
        (weight-pos R S.size z (shift S.arithmetic d c g)) wg (weight-shift R S.size z d c g)
        (under_trans (times_size (S.size c) (W g)) (times_size (size 1 1) (W g)) (W g)
        (mul-pos (S.size c).den (W g).den (z.den_pos c) wg) wg
        (under_times (S.size c) (W g) (size 1 1) (W g) (z.den_pos c) wg small
        (under_refl (W g) wg)) (under_one (W g) wg))

    opposite_small : (c e : S.Elem) → c ≡ S.one → e ≡ S.neg c → IsUnder (S.size e) (size 1 1)
    opposite_small c e one is = subst (λ s. IsUnder s (size 1 1))
        (sym (opposite_size c e is ∙ ap S.size one)) z.one_size

    pub past_raise_one : (p g done back zs : Terms S.Elem) (t : List ℕ × S.Elem) (d : List ℕ)
        (c e : S.Elem) → c ≡ S.one → e ≡ S.neg c → g ≡ done ++ t ∷ back
        → Same S.arithmetic zs (p ++ shift S.arithmetic d e done)
        → IsPastRaise S zs d e t → IsPastSum S p g ⊎ ¬ (FitsMonomial (plus d (degrees g)))
    past_raise_one p g done back zs t d c e one is at same (inl wide) =
        inr (λ fits. wide (shift_fits_at d g done back t at fits))
    past_raise_one p g done back zs t d c e one is at same (inr (inl past)) =
        let wp = weight-pos R S.size z p in
        let wg = weight-pos R S.size z g in
        inl (past_under (W g) (sum_size (W p) (W g)) (lcm-pos (W p).den (W g).den wp wg)
        (sum-right (W p) (W g) wp wg)
        (past_one (W g) (past_product (S.size e) (W g) (size 1 1) (W g) (omega arith) wg
        (opposite_small c e one is) (under_refl (W g) wg)
        (past_scale_at S r z e g done back t at past))))
    past_raise_one p g done back zs t d c e one is at same (inr (inr past)) =
        inl (past_added p g done back zs t d e (W g) (weight-pos R S.size z g)
        (small_product e g d (opposite_small c e one is)) at same past)

    pub past_quotient_at : (b : Size) (ts front back : Terms S.Elem) (t : List ℕ × S.Elem)
        → ts ≡ front ++ t ∷ back → IsPast (quotient_size (S.size t.1) b)
        → IsPast (quotient_size (W ts) b)
    past_quotient_at b ts front back t e past =
        subst (λ (zs : Terms S.Elem). IsPast (quotient_size (W zs) b)) (sym e)
        (past_at_most _ _ (product_at_most_left (S.size t.1) (W (front ++ t ∷ back))
        (size b.den b.size) (weight-pos R S.size z (front ++ t ∷ back))
        (under_at_most (S.size t.1) (W (front ++ t ∷ back))
        (weight-pos R S.size z (front ++ t ∷ back)) (weight-term R S.size z front t back)))
        past)

  module _ (f : IsFieldOf S.arithmetic S.inverse) where
    pub quotient_number : (x l a : S.Elem) → l ≢ S.zero → S.mul x l ≡ a → x ≡ S.mul (S.inverse l) a
    quotient_number x l a n e =
        sym (r.mul-one x) ∙ ap (S.mul x) (sym (f.mul-inverse l n))
        ∙ sym (r.mul_assoc x l (S.inverse l)) ∙ ap (λ y. S.mul y (S.inverse l)) e
        ∙ r.mul_comm a (S.inverse l)

    one_inverse : S.inverse S.one ≡ S.one
    one_inverse = sym (one-mul R (S.inverse S.one)) ∙ f.mul-inverse S.one f.one-ne-zero

    times-one : (m : ℕ) (p : Terms S.Elem) → Arity m p → shift S.arithmetic (replicate m 0) S.one p
        ≡ p
    unfolding Algebra.shift Each
    times-one m [] a = refl
    times-one m (t ∷ p) a = ap₂ (λ (u : List ℕ × S.Elem) (zs : Terms S.Elem). u ∷ zs)
        (λ i. (zeros-plus m t.0 a.0 i, one-mul R t.1 i)) (times-one m p a.1)

    pub monic_already : (m : ℕ) (p q : Terms S.Elem) (l : S.Elem) → Arity m p → l ≡ S.one → q ≡ p
        → Same S.arithmetic q (times S.arithmetic (constant m (S.inverse l)) p)
    unfolding Algebra.times constant
    monic_already m p q l a one same = subst (Same S.arithmetic q)
        (same ∙ sym (append-nil (shift S.arithmetic (replicate m 0) (S.inverse l) p)
        ∙ ap (λ c. shift S.arithmetic (replicate m 0) c p) (ap S.inverse one ∙ one_inverse)
        ∙ times-one m p a))
        (Same-refl S.arithmetic q)

-- the first term
pub first_number : {A : Type 0} (N : _) (ts rest : Terms A) (t : List ℕ × A) → ts ≡ t ∷ rest
    → t.1 ≡ lead_coefficient N ts
first_number N ts rest t e = ap (lead_coefficient N) (sym e)

pub first_nonzero : (S : Scalars) (O : Rank) (m : ℕ) (ts rest : Terms S.Elem) (t : List ℕ × S.Elem)
    → ts ≡ t ∷ rest → IsPolynomial S.arithmetic O m ts → t.1 ≢ S.zero
unfolding Each
first_nonzero S O m ts rest t e h = (subst (IsPolynomial S.arithmetic O m) e h).nonzero.0

-- the first of a slice of the program's terms
pub seen_lead : {X Y : Type 0} (f : X → Y) (xs items : List X) (x : X) → Some x ≡ slice_get xs 0
    → xs ≡ items → map f items ≡ f x ∷ map f (drop 1 items)
seen_lead f xs items x e s = ap (map f) (go items (e ∙ ap (λ ys. slice_get ys 0) s))
  where
    go : (ys : List _) → Some x ≡ slice_get ys 0 → ys ≡ x ∷ drop 1 ys
    go [] h = absurd (let z : ⊥ = cc in z)
    go (y ∷ ys) h = let is : x ≡ y = cc in ap (λ z. z ∷ ys) (sym is)
