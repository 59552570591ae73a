-- The exponents of s, u and v of a normal monomial are those of the n-th power of a number.
--   key_is_power           the law
--   differences-length     the exponents of u less those of v are as many as the base has numbers
use Rattle.std.proofs.Common.{◌≡◌, ◌⊎◌, inl, inr, ◌<◌, ℕ, zero, suc, ℤ, pos, negsuc, ◌-ℤ◌, Bool, cond, eqb, List, [], ◌∷◌, map, length, refl, sym, ap, ap₂, arith}
use borrow.Author.Differences.{ints}
use Rattle.exponentials.specs.Base.{Disjoint, SameLength}
use Rattle.exponentials.specs.Keys.{Key, IsNormalKey}
use Rattle.solvable_maps.specs.Expo.{up_part, down_part, power_key, differences}

-- of a difference where one of the two is zero
parts_are : (z : ℤ) (m n : ℕ) → z ≡ pos m -ℤ pos n → (m ≡ 0) ⊎ (n ≡ 0) → (up_part z ≡ m)
    × (down_part z ≡ n)
parts_are (pos k) m n e (inl h) = (omega (arith, ints, e, h), omega (arith, ints, e, h))
parts_are (pos k) m n e (inr h) = (omega (arith, ints, e, h), omega (arith, ints, e, h))
parts_are (negsuc k) m n e (inl h) = (omega (arith, h), omega (arith, ints, e, h))
parts_are (negsuc k) m n e (inr h) = absurd (omega (arith, ints, e, h))

up_is : (m n : ℕ) → (m ≡ 0) ⊎ (n ≡ 0) → up_part (pos m -ℤ pos n) ≡ m
up_is m n h = (parts_are (pos m -ℤ pos n) m n refl h).0

down_is : (m n : ℕ) → (m ≡ 0) ⊎ (n ≡ 0) → down_part (pos m -ℤ pos n) ≡ n
down_is m n h = (parts_are (pos m -ℤ pos n) m n refl h).1

ups : (bs u v : List ℕ) → SameLength bs u → SameLength bs v → Disjoint u v
    → map up_part (differences u v) ≡ u
ups [] [] v f g d = refl
ups [] (m ∷ u) v f g d = absurd f
ups (b ∷ bs) [] v f g d = absurd f
ups (b ∷ bs) (m ∷ u) [] f g d = absurd g
ups (b ∷ bs) (m ∷ u) (n ∷ v) f g d = ap₂ ◌∷◌ (up_is m n d.0) (ups bs u v f g d.1)

downs : (bs u v : List ℕ) → SameLength bs u → SameLength bs v → Disjoint u v
    → map down_part (differences u v)
    ≡ v
downs [] [] [] f g d = refl
downs [] [] (n ∷ v) f g d = absurd g
downs [] (m ∷ u) v f g d = absurd f
downs (b ∷ bs) [] v f g d = absurd f
downs (b ∷ bs) (m ∷ u) [] f g d = absurd g
downs (b ∷ bs) (m ∷ u) (n ∷ v) f g d = ap₂ ◌∷◌ (down_is m n d.0) (downs bs u v f g d.1)

pub differences-length : (bs u v : List ℕ) → SameLength bs u → SameLength bs v
    → length (differences u v)
    ≡ length bs
differences-length [] [] v f g = refl
differences-length [] (m ∷ u) v f g = absurd f
differences-length (b ∷ bs) [] v f g = absurd f
differences-length (b ∷ bs) (m ∷ u) [] f g = absurd g
differences-length (b ∷ bs) (m ∷ u) (n ∷ v) f g = ap suc (differences-length bs u v f g)

sign_is : (n : ℕ) (negative : Bool) → n < 2 → negative ≡ eqb n 1 → n ≡ cond negative 1 0
sign_is zero negative l e = sym (ap (λ b. cond b 1 0) e)
sign_is (suc zero) negative l e = sym (ap (λ b. cond b 1 0) e)
sign_is (suc (suc n)) negative l e = absurd (omega (arith, l))

pub key_is_power : (bs : List ℕ) (x : Key) → IsNormalKey bs x → (negative : Bool)
    → negative ≡ eqb x.0 1 → x ≡ power_key negative (differences x.1 x.2)
key_is_power bs x h negative e =
    let a = sign_is x.0 negative h.0 e in
    let b = ups bs x.1 x.2 h.1 h.2 h.3 in
    let c = downs bs x.1 x.2 h.1 h.2 h.3 in
    λ i. (a i, sym b i, sym c i)
