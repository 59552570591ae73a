-- Terms with different monomials.
--   Differ p             no two terms have the same exponents
--   pairs_of             so do terms of the code
--   differ_falls, differ_turned, differ_powers, differ_other     of a polynomial, a turned one, the terms of a power, and one more
--   turned_twice         u and v exchanged twice are as they were
--   keys_apart           different numbers have different exponents
use Rattle.std.proofs.Common.{◌≡◌, ◌≢◌, ℕ, zero, suc, ◌≤◌, ℤ, pos, negsuc, Bool, true, false, cond, List, [], ◌∷◌, ◌++◌, map, length, take, drop, replicate, refl, sym, ap, ap₂, subst, ◌∙◌, arith, take-append-drop, Less}
use Rattle.std.specs.List.{All, AllPairs}
use Rattle.std.proofs.lemmas.List.Elements.{All-nil, All-cons}
use Rattle.std.proofs.lemmas.List.Kept.{AllPairs-cons}
use Rattle.algebra.specs.Each.{Each}
use Rattle.algebra.proofs.Each.{each-append, each_weaker}
use Rattle.algebra.specs.Fraction.{Fraction}
use Rattle.polynomials.specs.Order.{Rank, IsMonomialOrder, compare}
use Rattle.polynomials.specs.Polynomial.{Arity, Falls}
use Rattle.polynomials.specs.Terms.{Terms}
use Rattle.polynomials.proofs.Order.{less_irrefl}
use Rattle.exponentials.specs.Base.{SameLength}
use Rattle.exponentials.specs.Keys.{Key, key_of, top}
use Rattle.exponentials.specs.Powers.{number, negate_if}
use Rattle.frac128.specs.declared.fraction.Frac.{Frac}
use Rattle.frac128.specs.FracMeaning.{fraction_of}
use Rattle.poly.specs.declared.Term.{Term}
use Rattle.poly.specs.View.{terms_of}
use Rattle.solvable_maps.specs.Expo.{tail, with_key, inverse_form_terms, power_key, up_part, down_part, power_terms}
use Rattle.solvable_maps.specs.Iterations.{width}
use Rattle.solvable_maps.proofs.Operations.{key_with, tail_with}
use Rattle.exponentials.proofs.Units.{Room, room_long}
use Rattle.solvable_maps.specs.NormalExponents.{inverse_form_exponents}

abbrev pub Differ : {A : Type 0} → Terms A → Type 0
Differ [] = Unit {0}
Differ (t ∷ p) = Each (λ u. t.0 ≢ u.0) p × Differ p

-- ---- terms of the code
abbrev first_of : Terms Fraction → List ℕ
first_of [] = []
first_of (t ∷ p) = t.0

abbrev others_of : Terms Fraction → Terms Fraction
others_of [] = []
others_of (t ∷ p) = p

all_apart : (d e : List ℕ) (ts : List (Term Frac)) (p : Terms Fraction) → e ≡ d
    → terms_of fraction_of ts ≡ p → Each (λ u. d ≢ u.0) p → All (λ t. e ≢ t.mono) ts
unfolding Each
all_apart d e [] p g is h = All-nil (λ t. e ≢ t.mono)
all_apart d e (x ∷ ts) [] g is h = absurd (some_none x ts is)
  where
    some_none : (x : Term Frac) (ts : List (Term Frac)) → terms_of fraction_of (x ∷ ts) ≡ [] → ⊥
    some_none x ts is = let l : suc (length (terms_of fraction_of ts)) ≡ 0 = ap length is in
        absurd (omega arith)
all_apart d e (x ∷ ts) (t ∷ p) g is h = All-cons (λ t. e ≢ t.mono) x ts
    (λ f. h.0 (sym g ∙ f ∙ ap first_of is)) (all_apart d e ts p g (ap others_of is) h.1)

pub pairs_of : (ts : List (Term Frac)) (p : Terms Fraction) → terms_of fraction_of ts ≡ p → Differ p
    → AllPairs (λ s t. s.mono ≢ t.mono) ts
pairs_of [] p is h = λ i j d l g. absurd (omega arith)
pairs_of (x ∷ ts) [] is h = let l : suc (length (terms_of fraction_of ts)) ≡ 0 = ap length is in
    absurd (omega arith)
pairs_of (x ∷ ts) (t ∷ p) is h = AllPairs-cons (λ s t. s.mono ≢ t.mono) x ts
    (all_apart t.0 x.mono ts p (ap first_of is) (ap others_of is) h.0)
    (pairs_of ts p (ap others_of is) h.1)

-- ---- a polynomial
pub differ_falls : (O : Rank) → IsMonomialOrder O → {A : Type 0} (p : Terms A) → Falls O p
    → Differ p
unfolding Falls
differ_falls O o [] f = tt
differ_falls O o (t ∷ p) f = (
  each_weaker (λ u. compare O u.0 t.0 ≡ Less) (λ u. t.0 ≢ u.0) (λ u l e.
      less_irrefl O o t.0 (subst (λ d. compare O d t.0 ≡ Less) (sym e) l)) p f.0,
  differ_falls O o p f.1,
)

-- ---- u and v exchanged
rejoined : (r : ℕ) (e : List ℕ) → 2 ≤ length e → with_key (top e) (key_of r e) (tail r e) ≡ e
rejoined r [] l = absurd (omega arith)
rejoined r (a ∷ []) l = absurd (omega arith)
rejoined r (a ∷ b ∷ e) l =
    ap (λ d. a ∷ b ∷ d) (ap (λ d. take r e ++ d) (take-append-drop r (drop r e))
    ∙ take-append-drop r e)

pub turned_twice : (bs : List ℕ) (m : ℕ) (e : List ℕ) → length e ≡ width (length bs) m
    → inverse_form_exponents (length bs) (inverse_form_exponents (length bs) e) ≡ e
turned_twice bs m e l =
    let r = length bs in
    let x : Key = key_of r e in
    let room : Room {K = ℕ} bs (e, 0) = room_long {K = ℕ} bs (e, 0) (omega arith) in
    ap₂ (λ (k : Key) t. with_key (top e) (k.0, k.2, k.1) t) (key_with bs (top e) (x.0, x.2, x.1)
    (tail r e) room.1 room.0) (tail_with bs (top e) (x.0, x.2, x.1) (tail r e) room.1 room.0)
    ∙ rejoined r e (omega arith)

pub differ_turned : (bs : List ℕ) (m : ℕ) (p : Terms Fraction) → Arity (width (length bs) m) p
    → Differ p → Differ (inverse_form_terms (length bs) p)
unfolding Each
differ_turned bs m [] a d = tt
differ_turned bs m (t ∷ p) a d = (apart t a.0 p a.1 d.0, differ_turned bs m p a.1 d.1)
  where
    apart : (t : List ℕ × Fraction) → length t.0 ≡ width (length bs) m → (p : Terms Fraction)
        → Arity (width (length bs) m) p → Each (λ u. t.0 ≢ u.0) p
        → Each (λ u. inverse_form_exponents (length bs) t.0 ≢ u.0) (inverse_form_terms (length bs)
        p)
    apart t l [] a h = tt
    apart t l (u ∷ p) a h = (
      (λ e. h.0 (sym (turned_twice bs m t.0 l) ∙ ap (inverse_form_exponents (length bs)) e
          ∙ turned_twice bs m u.0 a.0)),
      apart t l p a.1 h.1,
    )

-- ---- the terms of a power
tops_from : {A : Type 0} (m : ℕ) (x : Key) (q : ℕ → A) (lo n : ℕ)
    → Each (λ u. lo ≤ top u.0) (power_terms m x q lo n)
unfolding Each
tops_from m x q lo zero = tt
tops_from m x q lo (suc n) = (
  omega arith,
  each_weaker (λ u. suc lo ≤ top u.0) (λ u. lo ≤ top u.0)
      (λ u l. omega arith) (power_terms m x q (suc lo) n) (tops_from m x q (suc lo) n),
)

pub differ_powers : {A : Type 0} (m : ℕ) (x : Key) (q : ℕ → A) (lo n : ℕ)
    → Differ (power_terms m x q lo n)
differ_powers m x q lo zero = tt
differ_powers m x q lo (suc n) = (
  each_weaker (λ u. suc lo ≤ top u.0) (λ u. with_key lo x (replicate m 0) ≢ u.0) (λ u l e.
      let t : lo ≡ top u.0 = ap top e in absurd (omega arith)) (power_terms m x q (suc lo) n)
      (tops_from m x q (suc lo) n),
  differ_powers m x q (suc lo) n,
)

differ_push : {A : Type 0} (p : Terms A) (t : List ℕ × A) → Differ p → Each (λ u. u.0 ≢ t.0) p
    → Differ (p ++ t ∷ [])
unfolding Each
differ_push [] t d h = (tt, tt)
differ_push (u ∷ p) t d h = (
  each-append (λ v. u.0 ≢ v.0) p (t ∷ []) d.0 (h.0, tt),
  differ_push p t d.1 h.1,
)

pub differ_other : (bs : List ℕ) {A : Type 0} (m : ℕ) (x y : Key) (q : ℕ → A) (c : A) (n : ℕ)
    → SameLength bs x.1 → SameLength bs x.2 → SameLength bs y.1 → SameLength bs y.2 → x ≢ y
    → Differ (power_terms m x q 0 n ++ (with_key 0 y (replicate m 0), c) ∷ [])
unfolding Each
differ_other bs m x y q c n f g h k ne = differ_push (power_terms m x q 0 n)
    (with_key 0 y (replicate m 0), c) (differ_powers m x q 0 n) (apart n)
  where
    first : with_key 0 x (replicate m 0) ≢ with_key 0 y (replicate m 0)
    first e = ne (sym (key_with bs 0 x (replicate m 0) f g) ∙ ap (key_of (length bs)) e
        ∙ key_with bs 0 y (replicate m 0) h k)

    apart : (n : ℕ) → Each (λ u. u.0 ≢ with_key 0 y (replicate m 0)) (power_terms m x q 0 n)
    apart zero = tt
    apart (suc n) = (
      first,
      each_weaker (λ u. 1 ≤ top u.0) (λ u. u.0 ≢ with_key 0 y (replicate m 0))
          (λ u l e. let t : top u.0 ≡ 0 = ap top e in absurd (omega arith)) (power_terms m x q 1 n)
          (tops_from m x q 1 n),
    )

-- ---- exponents tell the number
same_sign : (a b : Bool) → ◌≡◌ {A = ℕ} (cond a 1 0) (cond b 1 0) → a ≡ b
same_sign true true e = refl
same_sign true false e = absurd (omega arith)
same_sign false true e = absurd (omega arith)
same_sign false false e = refl

same_part : (y z : ℤ) → up_part y ≡ up_part z → down_part y ≡ down_part z → y ≡ z
same_part (pos m) (pos n) e f = ap pos e
same_part (pos m) (negsuc n) e f = absurd (omega arith)
same_part (negsuc m) (pos n) e f = absurd (omega arith)
same_part (negsuc m) (negsuc n) e f = ap negsuc (omega arith)

heads : List ℕ → ℕ
heads [] = 0
heads (n ∷ l) = n

tails : List ℕ → List ℕ
tails [] = []
tails (n ∷ l) = l

same_parts : (d e : List ℤ) → map up_part d ≡ map up_part e → map down_part d ≡ map down_part e
    → d ≡ e
unfolding heads tails
same_parts [] [] f g = refl
same_parts [] (z ∷ e) f g = let l : 0 ≡ suc (length (map up_part e)) = ap length f in
    absurd (omega arith)
same_parts (y ∷ d) [] f g = let l : suc (length (map up_part d)) ≡ 0 = ap length f in
    absurd (omega arith)
same_parts (y ∷ d) (z ∷ e) f g = ap₂ ◌∷◌ (same_part y z (ap heads f) (ap heads g))
    (same_parts d e (ap tails f) (ap tails g))

pub keys_apart : (bs : List ℕ) (a b : Bool) (d e : List ℤ)
    → negate_if a (number bs d) ≢ negate_if b (number bs e) → power_key a d ≢ power_key b e
keys_apart bs a b d e ne h =
    ne (ap₂ (λ (n : Bool) l. negate_if n (number bs l)) (same_sign a b (ap (λ (k : Key). k.0) h))
    (same_parts d e (ap (λ (k : Key). k.1) h) (ap (λ (k : Key). k.2) h)))
