-- The whole numbers are an ordered commutative ring.
--   ℤ_ring, ℤ_ordered     the ring, the ordered ring
--   int_literals          for literals in a goal of `ring ℤ_ring`: `search (ring_rules, int_literals) depth 40`
--   int_less_in, int_less_out     the test of the order and `int_cmp`
--   self_equal, turned_order      `int_cmp` of the same, and the other way round
use Rattle.std.proofs.Common.{sym, ◌≡◌, ◌∙◌, refl, List, ◌⊎◌, ℕ, zero, suc, ◌+◌, ◌*◌, ◌<◌, T, ℤ, pos, negsuc, ◌+ℤ◌, ◌*ℤ◌, neg_ℤ, ap, arith, zero-lt-suc}
use borrow.Author.Differences.{up, down, sum_is_lem, product_is, same_in, ints, lt_T, lt_in}
use native.Mathlib.Nat.{mul-lt-mul_of_pos_right}
use lib.IntN.{+ℤ_assoc, +ℤ_comm, +ℤ_idr, +ℤ_invr, ℤ_set, *ℤ_comm}
use lib.Signed.{lt_z, ◌<ℤ◌}
use Rattle.std.specs.declared.cmp.Ordering.{Ordering}
use Rattle.std.specs.declared.cmp.Ordering.TheVariants.{Less, Equal}
use Rattle.std.specs.Ordering.{int_cmp, ordering_reverse}
use Rattle.std.specs.Cmp.{int_cmp_is, int_ranks}
use Rattle.std.proofs.lemmas.Cmp.{int_cmp_total}
use Rattle.algebra.specs.Ring.{CommRing, OrderedRing, of_nat}
use Rattle.algebra.proofs.OfInt.{of_int}
use Rattle.algebra.proofs.RingSolver.{Reading}
use Rattle.algebra.specs.RingExpression.{num}

times_equal : (k m n : ℕ) → m ≡ n → m * k ≡ n * k
times_equal k m n e = ap (λ x. x * k) e

pub *ℤ_assoc : (a b c : ℤ) → (a *ℤ b) *ℤ c ≡ a *ℤ (b *ℤ c)
*ℤ_assoc a b c =
    let ab = product_is a b in
    let bc = product_is b c in
    let left = product_is (a *ℤ b) c in
    let right = product_is a (b *ℤ c) in
    same_in ((a *ℤ b) *ℤ c) (a *ℤ (b *ℤ c)) (omega (
      arith,
      times_equal (up c) _ _ ab.0,
      times_equal (down c) _ _ ab.1,
      times_equal (up a) _ _ bc.0,
      times_equal (down a) _ _ bc.1,
      times_equal (down c) _ _ ab.0,
      times_equal (up c) _ _ ab.1,
      times_equal (down a) _ _ bc.0,
      times_equal (up a) _ _ bc.1,
    ))

pub one-*ℤ : (a : ℤ) → pos 1 *ℤ a ≡ a
one-*ℤ a = omega (arith, ints)

pub *ℤ-+ℤ : (a b c : ℤ) → a *ℤ (b +ℤ c) ≡ a *ℤ b +ℤ a *ℤ c
*ℤ-+ℤ a b c =
    let whole = product_is a (b +ℤ c) in
    let ab = product_is a b in
    let ac = product_is a c in
    let sum = sum_is_lem b c in
    let parts = sum_is_lem (a *ℤ b) (a *ℤ c) in
    same_in (a *ℤ (b +ℤ c)) (a *ℤ b +ℤ a *ℤ c) (omega (
      arith,
      times_equal (up a) _ _ sum,
      times_equal (down a) _ _ sum,
    ))

abbrev pub ℤ_ring : CommRing ℤ
ℤ_ring = record {
  zero = pos 0;
  one = pos 1;
  add = ◌+ℤ◌;
  mul = ◌*ℤ◌;
  neg = neg_ℤ;
  add_assoc = +ℤ_assoc;
  add_comm = +ℤ_comm;
  add-zero = +ℤ_idr;
  add-neg = +ℤ_invr;
  mul_assoc = *ℤ_assoc;
  mul_comm = *ℤ_comm;
  mul-one = λ a. *ℤ_comm a (pos 1) ∙ one-*ℤ a;
  mul-add = *ℤ-+ℤ;
  is_set = ℤ_set;
}

pub irreflexive : (a : ℤ) → T (lt_z a a) → ⊥
irreflexive a h = omega (arith, ints)

pub transitive : (a b c : ℤ) → T (lt_z a b) → T (lt_z b c) → T (lt_z a c)
transitive a b c h k = omega (arith, ints)

pub total : (a b : ℤ) → (T (lt_z a b)) ⊎ (a ≡ b) ⊎ (T (lt_z b a))
total a b = grind (arith, ints)

pub less-add : (a b c : ℤ) → T (lt_z a b) → T (lt_z (a +ℤ c) (b +ℤ c))
less-add a b c h = omega (arith, ints)

-- a * c < b * c in parts
less-parts : (a b : ℤ) (n : ℕ) → up a + down b < up b + down a → (up a + down b) * suc n
    < (up b + down a) * suc n
less-parts a b n h = mul-lt-mul_of_pos_right h (zero-lt-suc n)

pub less-mul : (a b c : ℤ) → T (lt_z (pos 0) c) → T (lt_z a b) → T (lt_z (a *ℤ c) (b *ℤ c))
less-mul a b (pos zero) h k = absurd (omega (arith, ints))
less-mul a b (pos (suc n)) h k = lt_in (a *ℤ pos (suc n)) (b *ℤ pos (suc n))
    (omega (
      arith,
      product_is a (pos (suc n)),
      product_is b (pos (suc n)),
      less-parts a b n (lt_T a b k),
    ))
less-mul a b (negsuc n) h k = absurd (omega (arith, ints))

abbrev pub ℤ_ordered : OrderedRing ℤ
ℤ_ordered = record {
  ring = ℤ_ring;
  less = lt_z;
  irreflexive = irreflexive;
  transitive = transitive;
  total = total;
  less-add = less-add;
  less-mul = less-mul;
}

of_nat-ℤ : (n : ℕ) → of_nat ℤ_ring n ≡ pos n
of_nat-ℤ zero = refl
of_nat-ℤ (suc n) = ap (λ x. pos 1 +ℤ x) (of_nat-ℤ n) ∙ ap pos (omega arith)

pub of_int-ℤ : (z : ℤ) → of_int ℤ_ring z ≡ z
of_int-ℤ (pos n) = of_nat-ℤ n
of_int-ℤ (negsuc n) = ap neg_ℤ (of_nat-ℤ (suc n))

abbrev pub read_pos : {l : List ℤ} (n : ℕ) → Reading ℤ_ring l (pos n)
read_pos n = record { code = num (pos n); reads = of_int-ℤ (pos n) }

abbrev pub read_negsuc : {l : List ℤ} (n : ℕ) → Reading ℤ_ring l (negsuc n)
read_negsuc n = record { code = num (negsuc n); reads = of_int-ℤ (negsuc n) }

pub ruleset int_literals = (read_pos, read_negsuc)

pub int_less_in : (x y : ℤ) → T (lt_z x y) → int_cmp x y ≡ Less
int_less_in x y h = let l : x <ℤ y = omega (arith, ints) in sym (int_cmp_is x y Less l)

pub int_less_out : (x y : ℤ) → int_cmp x y ≡ Less → T (lt_z x y)
int_less_out x y e = let l : x <ℤ y = rw e at (int_ranks x y) in omega (arith, ints)

pub self_equal : (x : ℤ) → int_cmp x x ≡ Equal
self_equal x = sym (int_cmp_is x x Equal refl)

pub turned_order : (x y : ℤ) (o : Ordering) → int_cmp x y ≡ o → int_cmp y x ≡ ordering_reverse o
turned_order x y o e = int_cmp_total.antisymm y x ∙ ap ordering_reverse e
