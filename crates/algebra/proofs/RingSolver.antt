-- A proved solver: an equation over a commutative ring holds where both sides have the same normal form.
--   ring R l (search ring_rules depth 40) refl     proves it; l lists the atoms, ten at most
--   from, from_one, from_two     from equations that are known, by their multiples, with `ring` for the rest
--   value R ρ e     what an expression stands for, where ρ has the values of its variables; env R l: those that are listed in l
--   solve           two expressions with the same normal form have the same value
use Rattle.std.proofs.Common.{◌≡◌, ℕ, zero, suc, ℤ, pos, negsuc, ◌+ℤ◌, ◌*ℤ◌, true, false, List, [], ◌∷◌, leb, refl, sym, ap, ap₂, ◌∙◌}
use Prim.Native.Nat.{compare}
use Prim.Native.Nat as Nat
use native.Mathlib.Omega.{arith}
use Rattle.algebra.specs.Ring.{CommRing}
use Rattle.algebra.specs.RingExpression.{Expression, var, num, nothing, unit, plus, times, minus, Sum, none, term, Order, lower, same, higher, order_of, put, merge, join, insert, sum_add, scale_onto, sum_mul, sum_neg, normal}
use Rattle.algebra.proofs.RingLaws as L
use Rattle.algebra.proofs.OfInt.{of_int, of_int-add, of_int-mul, of_int-neg}

abbrev pub value : {A : Type 0} → CommRing A → (ℕ → A) → Expression → A
value R ρ (var i) = ρ i
value R ρ (num c) = of_int R c
value R ρ nothing = R.zero
value R ρ unit = R.one
value R ρ (plus e f) = R.add (value R ρ e) (value R ρ f)
value R ρ (times e f) = R.mul (value R ρ e) (value R ρ f)
value R ρ (minus e) = R.neg (value R ρ e)

abbrev product : {A : Type 0} → CommRing A → (ℕ → A) → List ℕ → A
product R ρ [] = R.one
product R ρ (i ∷ m) = R.mul (ρ i) (product R ρ m)

abbrev total : {A : Type 0} → CommRing A → (ℕ → A) → Sum → A
total R ρ none = R.zero
total R ρ (term c m p) = R.add (R.mul (of_int R c) (product R ρ m)) (total R ρ p)

same_number : (i j : ℕ) → compare i j ≡ Nat.Ordering.eq → i ≡ j
same_number i j e = grind arith

same_list : (m n : List ℕ) → order_of m n ≡ same → m ≡ n
same_list [] [] e = refl
same_list [] (j ∷ n) e = cc
same_list (i ∷ m) [] e = cc
same_list (i ∷ m) (j ∷ n) e =
    (elim (compare i j) as (λ o. compare i j ≡ o → elim o as (λ _. Order) [
      | Nat.Ordering.lt ↦ lower
      | Nat.Ordering.eq ↦ order_of m n
      | Nat.Ordering.gt ↦ higher
    ] ≡ same
    → i ∷ m ≡ j ∷ n) [
      | Nat.Ordering.lt ↦ λ c e. cc
      | Nat.Ordering.eq ↦ λ c e. ap₂ ◌∷◌ (same_number i j c) (same_list m n e)
      | Nat.Ordering.gt ↦ λ c e. cc
    ]) refl e

module _ {A : Type 0} (R : CommRing A) (ρ : ℕ → A) where
  product-put : (i : ℕ) (m : List ℕ) → product R ρ (put i m) ≡ R.mul (ρ i) (product R ρ m)
  product-put i [] = refl
  product-put i (j ∷ m) =
      elim (leb i j) as (λ b. product R ρ (elim b as (λ _. List ℕ) [
        | true ↦ i ∷ j ∷ m
        | false
            ↦ j ∷ put i m
      ]) ≡ R.mul (ρ i) (product R ρ (j ∷ m))) [
        | true ↦ refl
        | false ↦ ap (R.mul (ρ j)) (product-put i m) ∙ L.mul_left_comm R (ρ j) (ρ i) (product R ρ m)
      ]

  product-merge : (m n : List ℕ) → product R ρ (merge m n) ≡ R.mul (product R ρ m) (product R ρ n)
  product-merge [] n = sym (L.one-mul R (product R ρ n))
  product-merge (i ∷ m) n = product-put i (merge m n) ∙ ap (R.mul (ρ i)) (product-merge m n)
      ∙ sym (R.mul_assoc (ρ i) (product R ρ m) (product R ρ n))

  total-join : (c : ℤ) (m : List ℕ) (p : Sum) → total R ρ (join c m p)
      ≡ R.add (R.mul (of_int R c) (product R ρ m)) (total R ρ p)
  total-join (pos zero) m p = sym (ap (λ x. R.add x (total R ρ p)) (L.zero-mul R (product R ρ m))
      ∙ L.zero-add R (total R ρ p))
  total-join (pos (suc c)) m p = refl
  total-join (negsuc c) m p = refl

  total-insert : (c : ℤ) (m : List ℕ) (p : Sum) → total R ρ (insert c m p)
      ≡ R.add (R.mul (of_int R c) (product R ρ m)) (total R ρ p)
  total-insert c m none = total-join c m none
  total-insert c m (term d n p) =
      let x = R.mul (of_int R c) (product R ρ m) in
      let y = R.mul (of_int R d) (product R ρ n) in
      let t = total R ρ p in
      (elim (order_of m n) as (λ o. order_of m n ≡ o
      → total R ρ (elim o as (λ _. Sum) [
        | lower ↦ join c m (term d n p)
        | same
            ↦ join (c +ℤ d) m p
        | higher ↦ term d n (insert c m p)
      ]) ≡ R.add x (R.add y t)) [
        | lower ↦ λ e. total-join c m (term d n p)
        | same ↦ λ e.
            total-join (c +ℤ d) m p
            ∙ ap (λ z. R.add z t)
            (ap (λ z. R.mul z (product R ρ m)) (of_int-add R c d)
            ∙ L.add-mul R (of_int R c) (of_int R d) (product R ρ m)
            ∙ ap (λ k. R.add x (R.mul (of_int R d) (product R ρ k))) (same_list m n e))
            ∙ R.add_assoc x y t
        | higher ↦ λ e. ap (R.add y) (total-insert c m p) ∙ L.add_left_comm R y x t
      ]) refl

  total-add : (p q : Sum) → total R ρ (sum_add p q) ≡ R.add (total R ρ p) (total R ρ q)
  total-add none q = sym (L.zero-add R (total R ρ q))
  total-add (term c m p) q =
      total-insert c m (sum_add p q) ∙ ap (R.add (R.mul (of_int R c) (product R ρ m)))
      (total-add p q)
      ∙ sym (R.add_assoc (R.mul (of_int R c) (product R ρ m)) (total R ρ p) (total R ρ q))

  total-scale : (c : ℤ) (m : List ℕ) (p q : Sum) → total R ρ (scale_onto c m p q)
      ≡ R.add (R.mul (R.mul (of_int R c) (product R ρ m)) (total R ρ p)) (total R ρ q)
  total-scale c m none q =
      sym (ap (λ x. R.add x (total R ρ q)) (L.mul-zero R (R.mul (of_int R c) (product R ρ m)))
      ∙ L.zero-add R (total R ρ q))
  total-scale c m (term d n p) q =
      let x = R.mul (of_int R c) (product R ρ m) in
      let y = R.mul (of_int R d) (product R ρ n) in
      total-insert (c *ℤ d) (merge m n) (scale_onto c m p q)
      ∙ ap₂ R.add (ap₂ R.mul (of_int-mul R c d) (product-merge m n)
      ∙ L.mul_swap R (of_int R c) (of_int R d) (product R ρ m) (product R ρ n))
      (total-scale c m p q)
      ∙ sym (R.add_assoc (R.mul x y) (R.mul x (total R ρ p)) (total R ρ q))
      ∙ ap (λ z. R.add z (total R ρ q)) (sym (R.mul-add x y (total R ρ p)))

  total-mul : (p q : Sum) → total R ρ (sum_mul p q) ≡ R.mul (total R ρ p) (total R ρ q)
  total-mul none q = sym (L.zero-mul R (total R ρ q))
  total-mul (term c m p) q =
      let x = R.mul (of_int R c) (product R ρ m) in
      total-scale c m q (sum_mul p q) ∙ ap (R.add (R.mul x (total R ρ q))) (total-mul p q)
      ∙ sym (L.add-mul R x (total R ρ p) (total R ρ q))

  total-neg : (p : Sum) → total R ρ (sum_neg p) ≡ R.neg (total R ρ p)
  total-neg none = sym (L.neg-zero R)
  total-neg (term c m p) =
      let x = of_int R c in
      ap₂ R.add (ap (λ z. R.mul z (product R ρ m)) (of_int-neg R c) ∙ L.neg-mul R x (product R ρ m))
      (total-neg p)
      ∙ sym (L.neg-add R (R.mul x (product R ρ m)) (total R ρ p))

  -- one times itself
  of_one : (x : A) → R.add (R.mul (R.add R.one R.zero) x) R.zero ≡ x
  of_one x = R.add-zero (R.mul (R.add R.one R.zero) x) ∙ ap (λ z. R.mul z x) (R.add-zero R.one)
      ∙ L.one-mul R x

  pub total-normal : (e : Expression) → total R ρ (normal e) ≡ value R ρ e
  total-normal (var i) = of_one (R.mul (ρ i) R.one) ∙ R.mul-one (ρ i)
  total-normal (num c) = total-join c [] none ∙ R.add-zero (R.mul (of_int R c) R.one)
      ∙ R.mul-one (of_int R c)
  total-normal nothing = refl
  total-normal unit = of_one R.one
  total-normal (plus e f) = total-add (normal e) (normal f)
      ∙ ap₂ R.add (total-normal e) (total-normal f)
  total-normal (times e f) = total-mul (normal e) (normal f)
      ∙ ap₂ R.mul (total-normal e) (total-normal f)
  total-normal (minus e) = total-neg (normal e) ∙ ap R.neg (total-normal e)

  pub solve : (e f : Expression) → normal e ≡ normal f → value R ρ e ≡ value R ρ f
  solve e f alike = sym (total-normal e) ∙ ap (total R ρ) alike ∙ total-normal f

-- ---- how a proof calls it
-- the variables' values
abbrev pub env : {A : Type 0} → CommRing A → List A → ℕ → A
env R [] i = R.zero
env R (a ∷ l) zero = a
env R (a ∷ l) (suc i) = env R l i

-- an element with an expression for it: `search ring_rules` finds one
pub record Reading {A : Type 0} (R : CommRing A) (l : List A) (a : A) : Type 0 where
  pub code : Expression
  pub reads : value R (env R l) code ≡ a

abbrev pub read_add : {A : Type 0} {R : CommRing A} {l : List A} {a b : A} → Reading R l a
    → Reading R l b → Reading R l (R.add a b)
read_add {R = R} p q = record { code = plus p.code q.code; reads = ap₂ R.add p.reads q.reads }

abbrev pub read_mul : {A : Type 0} {R : CommRing A} {l : List A} {a b : A} → Reading R l a
    → Reading R l b → Reading R l (R.mul a b)
read_mul {R = R} p q = record { code = times p.code q.code; reads = ap₂ R.mul p.reads q.reads }

abbrev pub read_neg : {A : Type 0} {R : CommRing A} {l : List A} {a : A} → Reading R l a
    → Reading R l (R.neg a)
read_neg {R = R} p = record { code = minus p.code; reads = ap R.neg p.reads }

abbrev pub read_zero : {A : Type 0} {R : CommRing A} {l : List A} → Reading R l R.zero
read_zero = record { code = nothing; reads = refl }

abbrev pub read_one : {A : Type 0} {R : CommRing A} {l : List A} → Reading R l R.one
read_one = record { code = unit; reads = refl }

abbrev pub read_0 : {A : Type 0} {R : CommRing A} {l : List A} {a : A} → Reading R (a ∷ l) a
read_0 = record { code = var 0; reads = refl }

abbrev pub read_1 : {A : Type 0} {R : CommRing A} {l : List A} {a b : A} → Reading R (a ∷ b ∷ l) b
read_1 = record { code = var 1; reads = refl }

abbrev pub read_2 : {A : Type 0} {R : CommRing A} {l : List A} {a b c : A}
    → Reading R (a ∷ b ∷ c ∷ l) c
read_2 = record { code = var 2; reads = refl }

abbrev pub read_3 : {A : Type 0} {R : CommRing A} {l : List A} {a b c d : A}
    → Reading R (a ∷ b ∷ c ∷ d ∷ l) d
read_3 = record { code = var 3; reads = refl }

abbrev pub read_4 : {A : Type 0} {R : CommRing A} {l : List A} {a b c d e : A}
    → Reading R (a ∷ b ∷ c ∷ d ∷ e ∷ l) e
read_4 = record { code = var 4; reads = refl }

abbrev pub read_5 : {A : Type 0} {R : CommRing A} {l : List A} {a b c d e f : A}
    → Reading R (a ∷ b ∷ c ∷ d ∷ e ∷ f ∷ l) f
read_5 = record { code = var 5; reads = refl }

abbrev pub read_6 : {A : Type 0} {R : CommRing A} {l : List A} {a b c d e f g : A}
    → Reading R (a ∷ b ∷ c ∷ d ∷ e ∷ f ∷ g ∷ l) g
read_6 = record { code = var 6; reads = refl }

abbrev pub read_7 : {A : Type 0} {R : CommRing A} {l : List A} {a b c d e f g h : A}
    → Reading R (a ∷ b ∷ c ∷ d ∷ e ∷ f ∷ g ∷ h ∷ l) h
read_7 = record { code = var 7; reads = refl }

abbrev pub read_8 : {A : Type 0} {R : CommRing A} {l : List A} {a b c d e f g h k : A}
    → Reading R (a ∷ b ∷ c ∷ d ∷ e ∷ f ∷ g ∷ h ∷ k ∷ l) k
read_8 = record { code = var 8; reads = refl }

abbrev pub read_9 : {A : Type 0} {R : CommRing A} {l : List A} {a b c d e f g h k m : A}
    → Reading R (a ∷ b ∷ c ∷ d ∷ e ∷ f ∷ g ∷ h ∷ k ∷ m ∷ l) m
read_9 = record { code = var 9; reads = refl }

-- both sides of an equation
pub record Sides {A : Type 0} (R : CommRing A) (l : List A) (a b : A) : Type 0 where
  pub left : Reading R l a
  pub right : Reading R l b

abbrev pub read_sides : {A : Type 0} {R : CommRing A} {l : List A} {a b : A} → Reading R l a
    → Reading R l b → Sides R l a b
read_sides p q = record { left = p; right = q }

pub ruleset ring_rules = (
  read_0,
  read_1,
  read_2,
  read_3,
  read_4,
  read_5,
  read_6,
  read_7,
  read_8,
  read_9,
  read_add,
  read_mul,
  read_neg,
  read_zero,
  read_one,
  read_sides,
)

pub ring_by : {A : Type 0} {R : CommRing A} {l : List A} {a b : A} (p : Reading R l a)
    (q : Reading R l b) → normal p.code ≡ normal q.code → a ≡ b
ring_by {R = R} {l} p q h = sym p.reads ∙ solve R (env R l) p.code q.code h ∙ q.reads

-- An equation over R in the elements of l: `ring R l (search ring_rules depth 40) refl`
pub ring : {A : Type 0} (R : CommRing A) (l : List A) {a b : A} (s : Sides R l a b)
    → normal s.left.code ≡ normal s.right.code → a ≡ b
ring R l s h = ring_by {R = R} {l = l} s.left s.right h

-- ---- from equations that are known: a - b is k times l - r
pub from_one : {A : Type 0} (R : CommRing A) {a b l r : A} (k : A) → l ≡ r
    → R.add a (R.mul k r) ≡ R.add b (R.mul k l) → a ≡ b
from_one R {a} {b} {l} {r} k e h =
    L.add_cancel R (R.mul k r) a b (R.add_comm (R.mul k r) a ∙ h ∙ ap (λ x. R.add b (R.mul k x)) e
    ∙ R.add_comm b (R.mul k r))

-- a - b is k times l - r, and j times s - t
pub from_two : {A : Type 0} (R : CommRing A) {a b l r s t : A} (k : A) → l ≡ r → (j : A) → s ≡ t
    → R.add a (R.add (R.mul k r) (R.mul j t)) ≡ R.add b (R.add (R.mul k l) (R.mul j s)) → a ≡ b
from_two R {a} {b} {l} {r} {s} {t} k e j f h =
    let known : R.add (R.mul k l) (R.mul j s) ≡ R.add (R.mul k r) (R.mul j t) =
    λ i. R.add (R.mul k (e i)) (R.mul j (f i)) in
    L.add_cancel R (R.add (R.mul k r) (R.mul j t)) a b (R.add_comm (R.add (R.mul k r) (R.mul j t)) a
    ∙ h ∙ ap (R.add b) known ∙ R.add_comm b (R.add (R.mul k r) (R.mul j t)))

-- a - b is l - r
pub from : {A : Type 0} (R : CommRing A) {a b l r : A} → l ≡ r → R.add a r ≡ R.add b l → a ≡ b
from R {a} {b} {l} {r} e h = L.add_cancel R r a b (R.add_comm r a ∙ h ∙ ap (R.add b) e
    ∙ R.add_comm b r)
