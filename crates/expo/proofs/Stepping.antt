-- What the loops over terms and exponents make.
--   step_normal, step_turned     a term more, made normal, or turned
--   sign_even, sign_odd          the sign at -n
--   parity_is                    the exponent of s
--   top_at, rest_is              the exponent of n, and the exponents behind those of n and s
--   normal_parts                 exponents cut where n, s, the u and the v end;  normal_long: as many made normal
--   even_sign, odd_sign          the sign at -n, of the exponent of n
use Rattle.std.proofs.Common.{◌≡◌, ◌≢◌, ℕ, zero, suc, ◌-◌, ◌%◌, ◌≤◌, List, [], ◌∷◌, ◌++◌, length, take, drop, get_or, refl, sym, ap, ap₂, ◌∙◌, arith, append_assoc}
use Rattle.algebra.proofs.RingLaws.{neg-neg}
use Rattle.algebra.specs.Fraction.{Fraction, opposite}
use Rattle.algebra.proofs.Fractions.{ℚ_ring}
use Rattle.polynomials.specs.Terms.{Terms}
use Rattle.exponentials.specs.Keys.{excess, parity, rest, top, key_of}
use Rattle.solvable_maps.specs.Expo.{with_normal_keys, inverse_form_terms, inverse_form_sign, tail}
use Rattle.solvable_maps.specs.NormalExponents.{normal_exponents, inverse_form_exponents}
use Rattle.solvable_maps.specs.Iterations.{width}
use Rattle.solvable_maps.proofs.Normal.{normalized-push, turned-push, normal-length}

pub step_normal : (r : ℕ) (p p' out news : Terms Fraction) (t u : List ℕ × Fraction)
    → p' ≡ p ++ t ∷ [] → news ≡ out ++ u ∷ [] → u.0 ≡ normal_exponents r t.0 → u.1 ≡ t.1
    → out ≡ with_normal_keys r p → news ≡ with_normal_keys r p'
step_normal r p p' out news t u e f m n h =
    f ∙ ap₂ (λ (zs : Terms Fraction) (v : List ℕ × Fraction). zs ++ v ∷ []) h (λ i. (m i, n i))
    ∙ sym (normalized-push r p t) ∙ ap (with_normal_keys r) (sym e)

pub step_turned : (r : ℕ) (p p' out news : Terms Fraction) (t u : List ℕ × Fraction)
    → p' ≡ p ++ t ∷ [] → news ≡ out ++ u ∷ [] → u.0 ≡ inverse_form_exponents r t.0
    → u.1 ≡ inverse_form_sign (top t.0) t.1
    → out ≡ inverse_form_terms r p → news ≡ inverse_form_terms r p'
step_turned r p p' out news t u e f m n h =
    f ∙ ap₂ (λ (zs : Terms Fraction) (v : List ℕ × Fraction). zs ++ v ∷ []) h (λ i. (m i, n i))
    ∙ sym (turned-push r p t) ∙ ap (inverse_form_terms r) (sym e)

pub sign_even : (n : ℕ) (c : Fraction) → n % 2 ≡ 0 → inverse_form_sign n c ≡ c
sign_even zero c h = refl
sign_even (suc zero) c h = absurd (omega arith)
sign_even (suc (suc n)) c h = neg-neg ℚ_ring (inverse_form_sign n c) ∙ sign_even n c (omega arith)

pub sign_odd : (n : ℕ) (c : Fraction) → n % 2 ≢ 0 → inverse_form_sign n c ≡ opposite c
sign_odd zero c h = absurd (h refl)
sign_odd (suc zero) c h = refl
sign_odd (suc (suc n)) c h = neg-neg ℚ_ring (inverse_form_sign n c)
    ∙ sign_odd n c (λ e. h (omega arith))

pub parity_is : (n : ℕ) → n % 2 ≡ parity n
parity_is zero = refl
parity_is (suc zero) = refl
parity_is (suc (suc n)) = (let e : suc (suc n) % 2 ≡ n % 2 = omega arith in e) ∙ parity_is n

-- ---- one list of exponents
top_is : (e : List ℕ) (d : ℕ) → 2 ≤ length e → get_or (take 2 e) 0 d ≡ top e
top_is [] d h = absurd (omega arith)
top_is (a ∷ e) d h = refl

sign_is : (e : List ℕ) (d : ℕ) → 2 ≤ length e → get_or (take 2 e) 1 d ≡ top (rest e)
sign_is [] d h = absurd (omega arith)
sign_is (a ∷ []) d h = absurd (omega arith)
sign_is (a ∷ b ∷ e) d h = refl

pub rest_is : (e : List ℕ) → drop 2 e ≡ rest (rest e)
rest_is [] = refl
rest_is (a ∷ []) = refl
rest_is (a ∷ b ∷ e) = refl

-- exponents cut in four, made normal, and turned
pub normal_parts : (r : ℕ) (e front others up others' down vars out : List ℕ) (a b : ℕ)
    → 2 ≤ length e → front ≡ take 2 e → others ≡ drop 2 e
    → up ≡ take r others → others' ≡ drop r others → down ≡ take r others' → vars ≡ drop r others'
    → a ≡ get_or front 0 0 → b ≡ get_or front 1 0 % 2
    → out ≡ (((a ∷ b ∷ []) ++ excess up down) ++ excess down up) ++ vars
    → out ≡ normal_exponents r e
normal_parts r e front others up others' down vars out a b l f o u o' d v p q is =
    let others_is : others ≡ rest (rest e) = o ∙ rest_is e in
    let up_is : up ≡ (key_of r e).1 = u ∙ ap (take r) others_is in
    let down_is : down ≡ (key_of r e).2 = d ∙ ap (take r) (o' ∙ ap (drop r) others_is) in
    let vars_is : vars ≡ tail r e = v ∙ ap (drop r) (o' ∙ ap (drop r) others_is) in
    let a_is : a ≡ top e = p ∙ ap (λ l. get_or l 0 0) f ∙ top_is e 0 l in
    let b_is : b ≡ parity (top (rest e)) = q ∙ ap (λ l. get_or l 1 0 % 2) f
    ∙ ap (λ n. n % 2) (sign_is e 0 l) ∙ parity_is (top (rest e)) in
    is ∙ ap (λ (l : List ℕ). a ∷ b ∷ l) (append_assoc (excess up down) (excess down up) vars)
    ∙ (λ i. a_is i ∷ b_is i ∷ (excess (up_is i) (down_is i) ++ (excess (down_is i) (up_is i)
    ++ vars_is i)))

-- the sign at -n
pub top_at : (e : List ℕ) → get_or e 0 0 ≡ top e
top_at [] = refl
top_at (a ∷ e) = refl

pub even_sign : (e : List ℕ) (c : Fraction) (n : ℕ) → n ≡ get_or e 0 0 → n % 2 ≡ 0
    → c ≡ inverse_form_sign (top e) c
even_sign e c n is h = sym (ap (λ n. inverse_form_sign n c) (sym (is ∙ top_at e)) ∙ sign_even n c h)

pub odd_sign : (e : List ℕ) (c d : Fraction) (n : ℕ) → n ≡ get_or e 0 0 → n % 2 ≢ 0 → d ≡ opposite c
    → d ≡ inverse_form_sign (top e) c
odd_sign e c d n is h k = k ∙ sym (ap (λ n. inverse_form_sign n c) (sym (is ∙ top_at e))
    ∙ sign_odd n c h)

pub normal_long : (r : ℕ) (e out : List ℕ) → width r 0 ≤ length e → out ≡ normal_exponents r e
    → length out ≡ length e
normal_long r e out h is =
    let b : length e ≡ width r (length e - width r 0) = omega arith in
    ap length is ∙ normal-length r (length e - width r 0) e b ∙ sym b
