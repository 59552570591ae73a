-- Lists in another order: what holds of each element, coprime lists, and what a loop's edits do.
--   all-each, each-all     std's All, and back
--   each-permuted, coarsest-permuted     facts on each element, and being a coarsest base, hold in any order
--   not_self          a number above 1 isn't coprime to itself
--   picked-push, picked-remove     removing what was pushed gives the list back; `remove` removes the number at its place
use Rattle.std.proofs.Common.{◌≡◌, ◌⊎◌, inl, inr, Bool, true, false, cond, ℕ, zero, suc, ◌+◌, ◌<◌, ◌≤◌, List, [], ◌∷◌, ◌++◌, length, get_or, refl, sym, ap, subst, ◌∙◌, arith}
use Rattle.algebra.specs.Each.{Each}
use Rattle.algebra.specs.In.{In}
use Rattle.exponentials.specs.Base.{Coprime, IsCoarsest, IsProductOf}
use Rattle.std.specs.Prelude.{All, sum_by, remove}
use Rattle.std.specs.List.Sorted.{IsPermutation}
use Rattle.std.proofs.lemmas.List.Sorted.{All-permutation, sum_by-IsPermutation, IsPermutation-sym}
use Rattle.std.proofs.lemmas.List.Elements.{All-cons, All-nil}
use Rattle.std.proofs.lemmas.List.Sums.{sum_by-cons}
use native.Mathlib.Nat as N
use Rattle.algebra.specs.Gcd.{gcd}
use Rattle.algebra.proofs.In.{each_in, each_from}
use Rattle.exponentials.proofs.Lists.{each_map}
use Rattle.exponentials.specs.Table.{alike}
use Rattle.exponentials.proofs.Terms.{alike_true, alike_refl}
use Rattle.exponentials.proofs.Coprimes as C
use Rattle.exponentials.proofs.PowerProducts.{made_in, made_trans}
use Rattle.exponentials.proofs.Refine.{Picked, here, there, each-picked, coprime-above}
use Rattle.exponentials.proofs.BaseLaws.{coprime_pair}

pub all-each : {X : Type 0} (P : X → Type 0) (xs : List X) → All P xs → Each P xs
unfolding Each
all-each P [] a = tt
all-each P (x ∷ xs) a = (a 0 x (omega arith), all-each P xs (λ k d h. a (suc k) d (omega arith)))

pub each-all : {X : Type 0} (P : X → Type 0) (xs : List X) → Each P xs → All P xs
unfolding Each
each-all P [] e = All-nil P
each-all P (x ∷ xs) e = All-cons P x xs e.0 (each-all P xs e.1)

pub each-permuted : {X : Type 0} (P : X → Type 0) (xs ys : List X) → IsPermutation xs ys → Each P xs
    → Each P ys
each-permuted P xs ys p e = all-each P ys (All-permutation P xs ys p (each-all P xs e))

pub in-permuted : (xs ys : List ℕ) → IsPermutation xs ys → (z : ℕ) → In z ys → In z xs
in-permuted xs ys p z i = each_in (λ y. In y xs) ys z (each-permuted (λ y. In y xs) xs ys p
    (each_from xs (λ x j. j))) i

-- how often y stands in the list
abbrev one_at : ℕ → ℕ → ℕ
one_at y x = cond (alike x y) 1 0

abbrev count : ℕ → List ℕ → ℕ
count y [] = 0
count y (x ∷ xs) = one_at y x + count y xs

count-sum : (y : ℕ) (xs : List ℕ) → sum_by (one_at y) xs ≡ count y xs
count-sum y [] = refl
count-sum y (x ∷ xs) = sum_by-cons (one_at y) x xs ∙ ap (λ n. one_at y x + n) (count-sum y xs)

count-in : (y : ℕ) (ys : List ℕ) → In y ys → 1 ≤ count y ys
count-in y [] i = absurd i
count-in y (z ∷ ys) i =
    elim i [
      | inl e ↦ (let h : one_at y z ≡ 1 = ap (λ b. cond b 1 0) (ap (λ w. alike w y) (sym e)
          ∙ alike_refl y) in omega arith)
      | inr j ↦ (let h : 1 ≤ count y ys = count-in y ys j in omega arith)
    ]

pub not_self : (y : ℕ) → 1 < y → gcd y y ≡ 1 → ⊥
not_self y h e = let one : y ≡ 1 =
    N.eq-one_of_dvd-one (C.coprime_out y y y e (N.dvd_refl y) (N.dvd_refl y)) in
    absurd (omega arith)

count-none : (y : ℕ) (xs : List ℕ) → 1 < y → Each (λ x. gcd y x ≡ 1) xs → count y xs ≡ 0
unfolding Each
count-none y [] h e = refl
count-none y (x ∷ xs) h e =
    let r : count y xs ≡ 0 = count-none y xs h e.1 in
    let z : one_at y x ≡ 0 = go (alike x y) refl in
    omega arith
  where
    go : (b : Bool) → alike x y ≡ b → (let n : ℕ = cond b 1 0 in n) ≡ 0
    go true q = absurd (not_self y h (ap (gcd y) (sym (alike_true x y q)) ∙ e.0))
    go false q = refl

count-coprime : (y : ℕ) (xs : List ℕ) → 1 < y → Coprime xs → count y xs ≤ 1
count-coprime y [] h c = omega arith
count-coprime y (x ∷ xs) h c = go (alike x y) refl (count-coprime y xs h c.2)
  where
    go : (b : Bool) → alike x y ≡ b → count y xs ≤ 1 → cond b 1 0 + count y xs ≤ 1
    go true q r = let n : count y xs ≡ 0 =
        count-none y xs h (subst (λ z. Each (λ w. gcd z w ≡ 1) xs) (alike_true x y q) c.1) in
        omega arith
    go false q r = omega arith

from_pairs : (ys : List ℕ) → Each (λ y. 1 < y) ys → ((y z : ℕ) → In y ys → In z ys → (y ≡ z)
    ⊎ (gcd y z ≡ 1)) → ((y : ℕ) → 1 < y → count y ys ≤ 1) → Coprime ys
unfolding Each
from_pairs [] b p n = tt
from_pairs (y ∷ ys) b p n = (
  b.0,
  each_from ys (λ z i. other z i (p y z (inl refl) (inr i))),
  from_pairs ys b.1 (λ w z i j. p w z (inr i) (inr j)) (λ w h.
      (let k : one_at w y + count w ys ≤ 1 = n w h in omega arith)),
)
  where
    other : (z : ℕ) → In z ys → (y ≡ z) ⊎ (gcd y z ≡ 1) → gcd y z ≡ 1
    other z i (inr e) = e
    other z i (inl e) =
        let k : one_at y y + count y ys ≤ 1 = n y b.0 in
        let m : 1 ≤ count y ys = count-in y ys (subst (λ w. In w ys) (sym e) i) in
        let o : one_at y y ≡ 1 = ap (λ b. cond b 1 0) (alike_refl y) in
        absurd (omega arith)

pub coprime-permuted : (xs ys : List ℕ) → IsPermutation xs ys → Coprime xs → Coprime ys
coprime-permuted xs ys p c =
    from_pairs ys (each-permuted (λ y. 1 < y) xs ys p (coprime-above xs c))
    (λ y z i j. coprime_pair xs y z c (in-permuted xs ys p y i) (in-permuted xs ys p z j))
    (λ y h. subst (λ n. n ≤ 1) (sym (sym (count-sum y ys) ∙ sum_by-IsPermutation (one_at y) xs ys p
    ∙ count-sum y xs)) (count-coprime y xs h c))

pub made-permuted : (xs ys : List ℕ) (x : ℕ) → IsPermutation xs ys → IsProductOf xs x
    → IsProductOf ys x
made-permuted xs ys x p m =
    made_trans xs ys x m (each-permuted (IsProductOf ys) ys xs (IsPermutation-sym xs ys p)
    (each_from ys (made_in ys)))

-- a base in another order, as a sort leaves it
pub coarsest-permuted : (list xs ys : List ℕ) → IsPermutation xs ys → IsCoarsest list xs
    → IsCoarsest list ys
coarsest-permuted list xs ys p c = record {
  base = record {
    coprime = coprime-permuted xs ys p c.base.coprime;
    products = each_map list (λ x m. made-permuted xs ys x p m) c.base.products;
  };
  coarsest = λ cs b. each-permuted (IsProductOf cs) xs ys p (c.coarsest cs b);
}

-- ---- a new number anywhere, and one taken out
pub coprime-picked : (w : ℕ) (bs cs : List ℕ) → Picked w bs cs → 1 < w → Each (λ b. gcd w b ≡ 1) bs
    → Coprime bs → Coprime cs
unfolding Each
coprime-picked w _ _ (here bs) h e c = (h, e, c)
coprime-picked w _ _ (there a bs cs k) h e c = (
  c.0,
  each-picked (λ z. gcd a z ≡ 1) w bs cs k (C.coprime_sym w a e.0) c.1,
  coprime-picked w bs cs k h e.1 c.2,
)

pub picked-push : (w : ℕ) (bs : List ℕ) → Picked w bs (bs ++ w ∷ [])
picked-push w [] = here []
picked-push w (b ∷ bs) = there b bs (bs ++ w ∷ []) (picked-push w bs)

pub picked-remove : (i : ℕ) (xs : List ℕ) (d : ℕ) → i < length xs
    → Picked (get_or xs i d) (remove xs i) xs
picked-remove i [] d h = absurd (omega arith)
picked-remove zero (x ∷ xs) d h = here xs
picked-remove (suc i) (x ∷ xs) d h = there x (remove xs i) xs (picked-remove i xs d (omega arith))
