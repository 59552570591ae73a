-- What loops over exponents and rows of a grid make.
--   raised                       a bound of all elements so far, raised at one element more
--   place_split, next_power      the digits of a place, from one index on; the next power of the base
--   place_more, place_room, power_room, place_whole     the digits so far: one more, its room, and all
--   digits_more, digits_whole    the exponents at a place, one more, and all
--   length_before, all_are       how many stand before an index; a list of one value
--   row_arity                    a term of a factor has as many exponents as the grid
use Rattle.std.proofs.Common.{◌≡◌, ◌<◌, ◌≤◌, ◌+◌, ◌*◌, ◌-◌, ◌/◌, ◌%◌, ◌^◌, ℕ, suc, List, [], ◌∷◌, ◌++◌, length, map, replicate, get_or, take, drop, refl, sym, ap, ap₂, subst, ◌∙◌, arith, drop-cons, drop_of_length-le, add-one, length-append}
use Rattle.std.specs.List.{All}
use Rattle.std.proofs.Math.Nat.{mul-add, mul_assoc, mul-zero, pow-suc, pow-le-pow_right}
use Rattle.std.proofs.lemmas.List.Elements.{All-more, All-weaker, All-head, All-tail}
use Rattle.std.proofs.lemmas.List.{append-nil, length-map, length-take}
use Rattle.algebra.specs.Scalars.{Scalars}
use Rattle.polynomials.specs.Terms.{Terms}
use Rattle.poly.specs.Places.{place_of, exponents_at, IsInside, IsGridFor}
use Rattle.poly.proofs.Places.{place-nil, place-cons, place-bound, exponents-none, exponents-next}
use Rattle.poly.proofs.GridRows.{grid_for_row}

pub raised : {X : Type 0} (P Q : X → Type 0) → ((x : X) → P x → Q x) → (xs : List X) (i : ℕ) (x : X)
    → i < length xs → Q (get_or xs i x) → All P (take i xs) → All Q (take (i + 1) xs)
raised P Q f xs i x h q a = All-more Q xs i x h (All-weaker P Q f (take i xs) a) q

pub place_split : (b : ℕ) (xs : List ℕ) (i unit : ℕ) → i < length xs → unit * place_of b (drop i xs)
    ≡ unit * get_or xs i 0 + (unit * b) * place_of b (drop (i + 1) xs)
place_split b xs i unit h = rw add-one
    (ap (λ (ys : List ℕ). unit * place_of b ys) (drop-cons xs i 0 h)
    ∙ ap (λ n. unit * n) (place-cons b (get_or xs i 0) (drop (suc i) xs))
    ∙ mul-add unit (get_or xs i 0) (b * place_of b (drop (suc i) xs))
    ∙ ap (λ n. unit * get_or xs i 0 + n)
    (sym (mul_assoc unit b (place_of b (drop (suc i) xs)))))

pub next_power : (b n i unit : ℕ) → 0 < b → i < n → unit ≡ b ^ i → (unit * b ≡ b ^ (i + 1))
    × (unit * b ≤ b ^ n)
next_power b n i unit p h e =
    let is : unit * b ≡ b ^ suc i = ap (λ k. k * b) e ∙ sym (pow-suc b i) in
    (rw add-one is, subst (λ k. k ≤ b ^ n) (sym is) (pow-le-pow_right p (omega arith)))

module _ (b : ℕ) (xs : List ℕ) (i unit place : ℕ) (h : i < length xs) (e : place + unit
    * place_of b (drop i xs) ≡ place_of b xs) where
  pub place_more : (place + unit * get_or xs i 0) + (unit * b) * place_of b (drop (i + 1) xs)
      ≡ place_of b xs
  place_more = omega (arith, e, place_split b xs i unit h)

  pub place_room : IsInside b (length xs) xs → b ^ length xs ≤ 1048576
      → place + unit * get_or xs i 0 < 1048576
  place_room inside small = omega (
    arith,
    e,
    place_split b xs i unit h,
    place-bound b (length xs) xs inside,
    small,
  )

  pub power_room : IsInside b (length xs) xs → b ^ length xs ≤ 1048576 → unit ≡ b ^ i
      → (unit * b ≡ b ^ (i + 1)) × (unit * b ≤ 1048576)
  power_room inside small is =
      let low = inside.each i 0 h in
      let next = next_power b (length xs) i unit (omega (arith, low)) h is in
      (next.0, omega (arith, next.1, small))

pub place_whole : (b : ℕ) (xs : List ℕ) (i unit place : ℕ) → length xs ≤ i
    → place + unit * place_of b (drop i xs) ≡ place_of b xs → place ≡ place_of b xs
place_whole b xs i unit place h e =
    let none : unit * place_of b (drop i xs) ≡ 0 = ap (λ (ys : List ℕ). unit * place_of b ys)
    (drop_of_length-le xs h) ∙ ap (λ n. unit * n) (place-nil b) ∙ mul-zero unit in
    omega (arith, e, none)

pub digits_more : (b m rest : ℕ) (es news all : List ℕ) → length es < m → news ≡ es ++ (rest % b)
    ∷ [] → es ++ exponents_at b (m - length es) rest ≡ all
    → news ++ exponents_at b (m - length news) (rest / b) ≡ all
digits_more b m rest es news all h e so =
    let left : m - length es ≡ suc (m - length news) = omega (
      arith,
      h,
      ap length e
          ∙ length-append es ((rest % b) ∷ []),
    ) in
    subst (λ (ds : List ℕ). ds ++ exponents_at b (m - length news) (rest / b) ≡ all) (sym e)
    (exponents-next b (m - length news) rest es all (subst (λ n. es ++ exponents_at b n rest ≡ all)
    left so))

pub digits_whole : (b m rest : ℕ) (es all : List ℕ) → m ≤ length es
    → es ++ exponents_at b (m - length es) rest ≡ all → es ≡ all
digits_whole b m rest es all h so =
    let none : m - length es ≡ 0 = omega (arith, h) in
    sym (append-nil es) ∙ sym (ap (λ (ds : List ℕ). es ++ ds) (ap (λ n. exponents_at b n rest) none
    ∙ exponents-none b rest)) ∙ so

pub row_arity : (S : Scalars) (b m : ℕ) (p front back q : Terms S.Elem) (t : List ℕ × S.Elem)
    → p ≡ front ++ t ∷ back → IsGridFor S.arithmetic b m p q → length t.0 ≡ m
row_arity S b m p front back q t e g =
    ((grid_for_row S b m p front back q t e g).left 0 t (omega arith)).arity

pub length_before : {X Y : Type 0} (f : X → Y) (xs : List X) (i : ℕ) → i < length xs
    → length (map f (take i xs)) ≡ i
length_before f xs i h = length-map (take i xs) f ∙ omega (arith, length-take i xs, h)

pub all_are : {X Y : Type 0} (f : X → Y) (y : Y) (xs : List X) → All (λ x. f x ≡ y) xs
    → map f xs ≡ replicate (length xs) y
all_are f y [] a = refl
all_are f y (x ∷ xs) a = ap₂ ◌∷◌ (All-head (λ z. f z ≡ y) x xs a)
    (all_are f y xs (All-tail (λ z. f z ≡ y) x xs a))
