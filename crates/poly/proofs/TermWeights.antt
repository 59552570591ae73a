-- The weight of a list of terms, by halves.
--   weight_none, weight_one, weight_halves     the weight of no term, of one, and of two parts
--   none_past                                  the answer None, of what is past
--   few_fit, small_fits                        that of no term isn't past, nor is that of two numbers of 128 bits
use Rattle.std.proofs.Common.{◌≡◌, ◌<◌, ◌^◌, inl, inr, ℕ, Option, None, List, [], ◌∷◌, ◌++◌, sym, ap, ap₂, subst, ◌∙◌, arith}
use Rattle.algebra.specs.Scalars.{Scalars, IsBounded}
use Rattle.algebra.specs.Ring.{IsRing, ring as ring_of}
use Rattle.algebra.specs.Size.{Size, size, sum_size, IsPast, SomeIf}
use Rattle.polynomials.specs.Terms.{Terms}
use Rattle.polynomials.specs.Weight.{weight}
use Rattle.polynomials.proofs.Weight.{weight-append}
use Rattle.algebra.proofs.SizeLaws.{sum_size_comm, zero-sum_size}

pub few_fit : IsPast (size 0 1) → ⊥
few_fit (inl h) = omega arith
few_fit (inr h) = omega arith

pub small_fits : (n d : ℕ) → n < 2 ^ 127 → d < 2 ^ 127 → IsPast (size n d) → ⊥
small_fits n d x y (inl h) = omega arith
small_fits n d x y (inr h) = omega arith

pub none_past : {W : Type 0} (size_of : W → Size) (r : Option W) (s : Size) → r ≡ None → IsPast s
    → SomeIf r size_of s
none_past size_of r s e past = subst (λ (o : Option _). SomeIf o size_of s) (sym e) past

module _ (S : Scalars) where
  pub weight_none : (ts : Terms S.Elem) → ts ≡ [] → size 0 1 ≡ weight S.size ts
  unfolding weight
  weight_none ts e = sym (ap (weight S.size) e)

  module _ (r : IsRing S.arithmetic) (z : IsBounded S.arithmetic S.size) where
    pub weight-one : (e : List ℕ) (c : S.Elem) → weight S.size ((e, c) ∷ []) ≡ S.size c
    unfolding weight
    weight-one e c = sum_size_comm (S.size c) (size 0 1) (z.den_pos c) (omega arith)
        ∙ zero-sum_size (S.size c) (z.den_pos c)

    pub weight_one : (ts : Terms S.Elem) (t : List ℕ × S.Elem) → ts ≡ t ∷ []
        → S.size t.1 ≡ weight S.size ts
    weight_one ts t e = sym (ap (weight S.size) e ∙ weight-one t.0 t.1)

    pub weight_halves : (ts front back : Terms S.Elem) (a b : Size) → front ++ back ≡ ts
        → a ≡ weight S.size front → b ≡ weight S.size back → sum_size a b ≡ weight S.size ts
    weight_halves ts front back a b e f g = ap₂ sum_size f g
        ∙ sym (weight-append (ring_of S.arithmetic r) S.size z front back) ∙ ap (weight S.size) e
