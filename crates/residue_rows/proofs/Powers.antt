-- What loops over factors, summands and rows keep, where numbers are computed modulo a number.
--   power_begins, power_goes, power_ends       a number times a power
--   factor_goes, factor_ends                   times a monomial's value
--   term_goes, term_ends                       a polynomial's value
--   row_more, row_all                          values behind one another
use Rattle.std.proofs.Common.{◌≡◌, ◌⊎◌, inl, inr, ℕ, suc, ◌+◌, ◌-◌, ◌<◌, ◌≤◌, ℤ, pos, ◌+ℤ◌, ◌*ℤ◌, List, [], ◌∷◌, ◌++◌, map, take, get_or, length, refl, sym, ap, ap₂, subst, ◌∙◌, arith}
use Rattle.std.proofs.lemmas.List.{map_push, take_more, take_all}
use Rattle.std.proofs.lemmas.List.Elements.{AllZip-push}
use Rattle.std.specs.List.{AllZip}
use Rattle.algebra.specs.Arithmetic.{power}
use Rattle.algebra.specs.Ring.{operations}
use Rattle.algebra.specs.Sum.{sum_over}
use Rattle.algebra.proofs.IntRing.{ℤ_ring}
use Rattle.polynomials.specs.Terms.{Terms, monomial_at, evaluate, value_at}
use Rattle.ideals.proofs.Congruence.{congruent_refl, congruent_same, congruent_add}
use Rattle.closures.specs.Modulo.{AreCongruent}
use Rattle.closures.proofs.Congruent.{congruent_trans}
use Rattle.residue_rows.specs.declared.residue.Residue.{Residue}
use Rattle.residue_rows.specs.Numbers.{number_of, numbers_of}
use Rattle.residue_rows.proofs.Congruences.{product_goes, product_ends, sum_goes, sum_ends}

module _ (q : ℤ) where
  abbrev to_the : ℤ → ℕ → ℤ
  to_the x n = power (operations ℤ_ring) x n

  pub power_goes : (t : ℤ) {u : ℤ} (x : ℤ) {w : ℤ} (e k : ℕ) → k < e → AreCongruent q u (t *ℤ x)
      → AreCongruent q (t *ℤ power (operations ℤ_ring) x (e - k)) w
      → AreCongruent q (u *ℤ power (operations ℤ_ring) x (e - (k + 1))) w
  unfolding power
  power_goes t {u = u} x {w = w} e k l h before =
      let one_more : e - k ≡ suc (e - (k + 1)) = omega arith in
      product_goes q t u x (to_the x (e - (k + 1))) w h
      (subst (λ n. AreCongruent q (t *ℤ to_the x n) w) one_more before)

  pub power_ends : (t x : ℤ) {w : ℤ} (e k : ℕ) → e ≤ k
      → AreCongruent q (t *ℤ power (operations ℤ_ring) x (e - k)) w → AreCongruent q t w
  unfolding power
  power_ends t x {w = w} e k l h =
      let none : e - k ≡ 0 = omega arith in
      product_ends q t w (subst (λ n. AreCongruent q (t *ℤ to_the x n) w) none h)

  pub factor_goes : (t : ℤ) {u : ℤ} (x : ℤ) {w : ℤ} (n : ℕ) (xs : List ℤ) (e : List ℕ)
      → AreCongruent q u (t *ℤ power (operations ℤ_ring) x n)
      → AreCongruent q (t *ℤ monomial_at (operations ℤ_ring) (x ∷ xs) (n ∷ e)) w
      → AreCongruent q (u *ℤ monomial_at (operations ℤ_ring) xs e) w
  unfolding monomial_at
  factor_goes t {u = u} x {w = w} n xs e h before =
      product_goes q t u (to_the x n) _ w h before

  pub factor_ends : (t : ℤ) {w : ℤ} (xs : List ℤ) (e : List ℕ) → (e ≡ []) ⊎ (xs ≡ [])
      → AreCongruent q (t *ℤ monomial_at (operations ℤ_ring) xs e) w → AreCongruent q t w
  unfolding monomial_at
  factor_ends t {w = w} [] e left h = product_ends q t w h
  factor_ends t {w = w} (x ∷ xs) [] left h = product_ends q t w h
  factor_ends t (x ∷ xs) (n ∷ e) (inl none) h = absurd (cc)
  factor_ends t (x ∷ xs) (n ∷ e) (inr none) h = absurd (cc)

  module _ (xs : List ℤ) where
    abbrev at : Terms ℤ → ℤ
    at r = value_at (operations ℤ_ring) r xs

    pub term_goes : (t : ℤ) {u w : ℤ} {y : List ℕ × ℤ} {left rest : Terms ℤ} → left ≡ y ∷ rest
        → {v : ℤ} → AreCongruent q v (y.1 *ℤ monomial_at (operations ℤ_ring) xs y.0)
        → AreCongruent q u (t +ℤ v) → AreCongruent q (t +ℤ value_at (operations ℤ_ring) left xs) w
        → AreCongruent q (u +ℤ value_at (operations ℤ_ring) rest xs) w
    unfolding evaluate sum_over
    term_goes t {u = u} {w = w} {y = y} {rest = rest} is {v = v} near sum before =
        let term = y.1 *ℤ monomial_at (operations ℤ_ring) xs y.0 in
        sum_goes q t u term (at rest) w
        (congruent_trans q u (t +ℤ v) (t +ℤ term) sum
        (congruent_add ℤ_ring (q ∷ []) t t v term (congruent_refl ℤ_ring (q ∷ []) t) near))
        (subst (λ r. AreCongruent q (t +ℤ at r) w) is before)

    pub term_ends : (t : ℤ) {w : ℤ} {left : Terms ℤ} → left ≡ []
        → AreCongruent q (t +ℤ value_at (operations ℤ_ring) left xs) w → AreCongruent q t w
    unfolding evaluate sum_over
    term_ends t {w = w} none h =
        sum_ends q t w (subst (λ r. AreCongruent q (t +ℤ at r) w) none h)

  pub power_begins : (n x : ℤ) (e : ℕ) → AreCongruent q
      (n *ℤ power (operations ℤ_ring) x (e - 0)) (n *ℤ power (operations ℤ_ring) x e)
  power_begins n x e =
      let all : e - 0 ≡ e = omega arith in
      congruent_same ℤ_ring (q ∷ []) (ap (λ k. n *ℤ to_the x k) all) refl
      (congruent_refl ℤ_ring (q ∷ []) (n *ℤ to_the x e))

  pub factor_begins : (n : ℤ) (xs : List ℤ) {ys : List ℤ} (e f : List ℕ) → xs ≡ ys → e ≡ f
      → AreCongruent q (n *ℤ monomial_at (operations ℤ_ring) xs e)
      (n *ℤ monomial_at (operations ℤ_ring) ys f)
  factor_begins n xs {ys = ys} e f s t =
      congruent_same ℤ_ring (q ∷ [])
      (ap₂ (λ zs g. n *ℤ monomial_at (operations ℤ_ring) zs g) s t) refl
      (congruent_refl ℤ_ring (q ∷ []) (n *ℤ monomial_at (operations ℤ_ring) ys f))

  pub one_times : {r n : ℤ} (x : ℤ) → n ≡ pos 1 → AreCongruent q r (n *ℤ x) → AreCongruent q r x
  one_times x e h =
      congruent_same ℤ_ring (q ∷ []) refl
      (sym (ap (λ k. k *ℤ x) e ∙ ℤ_ring.mul_comm (pos 1) x ∙ ℤ_ring.mul-one x)) h

  module _ {X : Type 0} (f : X → ℤ) (xs : List X) where
    pub row_more : (row : List Residue) {more : List Residue} (i : ℕ) {x : X} (r : Residue)
        → i < length xs → x ≡ get_or xs i x
        → AllZip (AreCongruent q) (numbers_of row) (map f (take i xs))
        → AreCongruent q (number_of r) (f x) → more ≡ row ++ r ∷ []
        → AllZip (AreCongruent q) (numbers_of more) (map f (take (i + 1) xs))
    row_more row {more = more} i {x = x} r l is before near e =
        subst (λ ys. AllZip (AreCongruent q) (numbers_of more) ys)
        (sym (ap (map f) (take_more xs i x l) ∙ map_push f (take i xs) (get_or xs i x)
        ∙ ap (λ y. map f (take i xs) ++ f y ∷ []) (sym is)))
        (subst (λ ys. AllZip (AreCongruent q) ys (map f (take i xs) ++ f x ∷ []))
        (sym (ap numbers_of e ∙ map_push number_of row r))
        (AllZip-push (AreCongruent q) (numbers_of row) (map f (take i xs)) (number_of r) (f x)
        before near))

    pub row_all : (row : List Residue) (i : ℕ) → length xs ≤ i
        → AllZip (AreCongruent q) (numbers_of row) (map f (take i xs))
        → AllZip (AreCongruent q) (numbers_of row) (map f xs)
    row_all row i l h =
        subst (λ ys. AllZip (AreCongruent q) (numbers_of row) (map f ys)) (take_all i xs l) h
