-- What the division by the numbers of a base does, over what its calls return.
use Rattle.std.proofs.Common.{◌≡◌, ◌≢◌, ℕ, suc, ◌+◌, ◌*◌, ◌^◌, ◌%◌, ◌<◌, ℤ, pos, ◌-ℤ◌, ◌<ℤ◌, List, [], ◌∷◌, ◌++◌, length, get_or, drop, unsigned_abs, sym, ap, subst, ◌∙◌, arith, drop-cons, add-one, length-append}
use borrow.Author.Differences.{ints}
use Rattle.algebra.specs.Fraction.{Fraction, whole}
use Rattle.algebra.proofs.Fractions.{ℚ_ring, facts}
use Rattle.vectors.proofs.FractionEigen.{times_bottom}
use Rattle.exponentials.specs.Base.{Coprime}
use Rattle.exponentials.specs.Powers.{number}
use Rattle.frac128.specs.declared.Whole.{Whole}
use Rattle.coprime_base.specs.Sizes.{sizes}
use Rattle.coprime_base.specs.Parts.{IsQuotient, Begun}
use Rattle.coprime_base.proofs.Quotients.{same_quotient}
use Rattle.coprime_base.proofs.Dividing.{begun_first, begun_next, begun_made, begun_none}

abbrev top : Fraction → ℕ
top x = unsigned_abs x.num

top_is : (z : ℤ) → pos 0 <ℤ z → pos (unsigned_abs z) ≡ z
top_is z h = grind (arith, ints)

top_some : (z : ℤ) → pos 0 <ℤ z → 0 < unsigned_abs z
top_some z h = grind (arith, ints)

value_quotient : (x : Fraction) → pos 0 <ℤ x.num → IsQuotient x (top x) x.den
value_quotient x h = ℚ_ring.mul_comm x (whole (pos x.den)) ∙ times_bottom x
    ∙ ap whole (sym (top_is x.num h))

pub first_case : (x : Fraction) (base : List ℕ) (found : List ℤ) (n d : ℕ) → pos 0 <ℤ x.num
    → n ≡ top x → d ≡ x.den → found ≡ [] → Begun base (top x) x.den base found n d
first_case x base found n d h p q e =
    subst (λ l. Begun base (top x) x.den base l n d) (sym e)
    (subst (λ m. Begun base (top x) x.den base [] m d) (sym p)
    (subst (λ k. Begun base (top x) x.den base [] (top x) k) (sym q)
    (begun_first base (top x) x.den (top_some x.num h) (facts x).some (facts x).lowest)))

pub next_size : (i : ℕ) (ws : List Whole) (w : Whole) → i < length ws → w ≡ get_or ws i w
    → sizes (drop i ws) ≡ unsigned_abs w.value ∷ sizes (drop (i + 1) ws)
next_size i ws w h e = ap sizes (drop-cons ws i w h ∙ ap (λ v. v ∷ drop (suc i) ws) (sym e))
    ∙ ap (λ j. unsigned_abs w.value ∷ sizes (drop j ws)) (sym (add-one i))

pub next_coprime : (b : ℕ) (all rest : List ℕ) → all ≡ b ∷ rest → Coprime all → Coprime rest
next_coprime b all rest e c = (subst Coprime e c).2

pub next_above : (b : ℕ) (all rest : List ℕ) → all ≡ b ∷ rest → Coprime all → 1 < b
next_above b all rest e c = (subst Coprime e c).0

pub next_case : (x : Fraction) (base all rest : List ℕ) (found more : List ℤ)
    (a b m k t u m' k' : ℕ) (z : ℤ) → all ≡ a ∷ rest → b ≡ a → Coprime all
    → b ^ t * m' ≡ m → m' % b ≢ 0 → b ^ u * k' ≡ k → k' % b ≢ 0 → z ≡ pos t -ℤ pos u
    → more ≡ found ++ z ∷ []
    → Begun base (top x) x.den all found m k → Begun base (top x) x.den rest more m' k'
next_case x base all rest found more a b m k t u m' k' z e f c p p' q q' zt h s =
    let all_is : all ≡ b ∷ rest = e ∙ ap (λ i. i ∷ rest) (sym f) in
    subst (λ l. Begun base (top x) x.den rest l m' k') (sym (h ∙ ap (λ v. found ++ (v ∷ [])) zt))
    (begun_next base (top x) x.den b rest found m k t u m' k' (subst Coprime all_is c) p p' q q'
    (subst (λ l. Begun base (top x) x.den l found m k) all_is s))

pub more_length : (found more : List ℤ) (z : ℤ) (i : ℕ) → more ≡ found ++ z ∷ [] → length found ≡ i
    → length more ≡ i + 1
more_length found more z i e l = ap length e ∙ length-append found (z ∷ []) ∙ ap (λ n. n + 1) l

pub made_case : (x : Fraction) (base rest : List ℕ) (found : List ℤ) (m k : ℕ) → pos 0 <ℤ x.num
    → rest ≡ [] → m ≡ 1 → k ≡ 1 → Begun base (top x) x.den rest found m k → number base found ≡ x
made_case x base rest found m k h e p q s =
    same_quotient (number base found) x (top x) x.den (facts x).some
    (begun_made base (top x) x.den found m k p q (subst (λ l. Begun base (top x) x.den l found m k)
    e s)) (value_quotient x h)

pub none_case : (x : Fraction) (base rest : List ℕ) (found : List ℤ) (m k : ℕ) → pos 0 <ℤ x.num
    → rest ≡ [] → ((m ≡ 1) × (k ≡ 1) → ⊥) → Begun base (top x) x.den rest found m k
    → (e : List ℤ) → number base e ≢ x
none_case x base rest found m k h r ne s e is =
    begun_none base (top x) x.den found m k ne (subst (λ l. Begun base (top x) x.den l found m k) r
    s) e
    (subst (λ v. IsQuotient v (top x) x.den) (sym is) (value_quotient x h))
