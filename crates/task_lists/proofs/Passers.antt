-- Which variables pass, as a list tells it and as a test.
--   passers_few, passers_are      how many pass
--   before_are       what the variables were
use Rattle.std.proofs.Common.{◌≡◌, ℕ, suc, ◌+◌, ◌<◌, ◌≤◌, Bool, true, false, cond, List, [], ◌∷◌, get_or, length, refl, sym, ap, ◌∙◌, arith}
use Rattle.algebra.specs.Fraction.{Fraction}
use Rattle.polynomials.specs.Terms.{Terms}
use Rattle.rounds.specs.Form.{variable_at, copies, passing, before_by}
use Rattle.task_lists.specs.Shapes.{passers, before_in}

module _ (p : ℕ → Bool) where
  abbrev Tells : ℕ → List Bool → Type 0
  Tells i bs = (a : ℕ) → a < length bs → p (i + a) ≡ get_or bs a false

  behind : (i : ℕ) (b : Bool) (bs : List Bool) → Tells i (b ∷ bs) → Tells (suc i) bs
  behind i b bs h a l = ap p (let e : suc i + a ≡ i + suc a = omega arith in e)
      ∙ h (suc a) (omega (arith, l))

  first : (i : ℕ) (b : Bool) (bs : List Bool) → Tells i (b ∷ bs) → p i ≡ b
  first i b bs h = ap p (let e : i ≡ i + 0 = omega arith in e) ∙ h 0 (omega arith)

  counted : (m i : ℕ) (bs : List Bool) → Tells i bs → length (copies m p i (length bs))
      ≡ passers bs
  counted m i [] h = refl
  counted m i (true ∷ bs) h =
      ap (λ b. length (cond b (variable_at m i ∷ copies m p (suc i) (length bs))
      (copies m p (suc i) (length bs)))) (first i true bs h)
      ∙ ap suc (counted m (suc i) bs (behind i true bs h))
  counted m i (false ∷ bs) h =
      ap (λ b. length (cond b (variable_at m i ∷ copies m p (suc i) (length bs))
      (copies m p (suc i) (length bs)))) (first i false bs h)
      ∙ counted m (suc i) bs (behind i false bs h)

  module _ (w k : ℕ) where
    were : (i j : ℕ) (bs : List Bool) (ps : List (Terms Fraction)) → Tells i bs
        → length ps ≡ length bs → before_in w k bs j ps ≡ before_by w k p i j ps
    were i j [] [] h e = refl
    were i j [] (q ∷ ps) h e = absurd (omega (arith, e))
    were i j (b ∷ bs) [] h e = refl
    were i j (true ∷ bs) (q ∷ ps) h e =
        ap (λ l. variable_at w (k + j) ∷ l)
        (were (suc i) (suc j) bs ps (behind i true bs h) (omega (arith, e)))
        ∙ ap (λ b. cond b (variable_at w (k + j) ∷ before_by w k p (suc i) (suc j) ps)
        (q ∷ before_by w k p (suc i) j ps)) (sym (first i true bs h))
    were i j (false ∷ bs) (q ∷ ps) h e =
        ap (λ l. q ∷ l) (were (suc i) j bs ps (behind i false bs h) (omega (arith, e)))
        ∙ ap (λ b. cond b (variable_at w (k + j) ∷ before_by w k p (suc i) (suc j) ps)
        (q ∷ before_by w k p (suc i) j ps)) (sym (first i false bs h))

tells : (bs : List Bool) → Tells (λ i. get_or bs i false) 0 bs
tells bs a l = ap (λ i. get_or bs i false) (let e : 0 + a ≡ a = omega arith in e)

pub passers_few : (bs : List Bool) → passers bs ≤ length bs
passers_few [] = omega arith
passers_few (true ∷ bs) = let h = passers_few bs in omega (arith, h)
passers_few (false ∷ bs) = let h = passers_few bs in omega (arith, h)

pub passers_are : (bs : List Bool) → passers bs ≡ passing (length bs) (λ i. get_or bs i false)
passers_are bs = sym (counted (λ i. get_or bs i false) (length bs) 0 bs (tells bs))

pub before_are : (w k : ℕ) (bs : List Bool) (ps : List (Terms Fraction)) → length ps ≡ length bs
    → before_in w k bs 0 ps ≡ before_by w k (λ i. get_or bs i false) 0 0 ps
before_are w k bs ps e = were (λ i. get_or bs i false) w k 0 0 bs ps (tells bs) e
