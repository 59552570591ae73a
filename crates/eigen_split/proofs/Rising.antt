-- The values of a search ascend, but zeros stand last.
--   candidate_next         the candidate after one
--   not_below              what is over d for a greater number is not below
--   values_ascend          of the whole search
use Rattle.std.proofs.Common.{◌≡◌, ◌≢◌, inl, inr, ℕ, zero, suc, ◌+◌, ◌*◌, ◌<◌, ℤ, pos, ◌+ℤ◌, neg_ℤ, List, [], ◌∷◌, ◌++◌, length, refl, sym, ap, ap₂, subst, ◌∙◌, arith, lt→ltb, Less, Equal}
use Rattle.std.specs.Int.Signed.{◌<ℤ◌, lt_z_yes}
use Rattle.std.specs.Ordering.{int_cmp}
use Rattle.std.proofs.lemmas.Int.{ints}
use Rattle.algebra.specs.Each.{Each}
use Rattle.algebra.proofs.Each.{each-append, each_of, each_weaker}
use Rattle.algebra.proofs.FieldLaws as FL
use Rattle.algebra.proofs.RingLaws as L
use Rattle.algebra.proofs.IntRing.{int_less_in, int_less_out}
use Rattle.algebra.specs.Fraction.{Fraction, ℚ, whole, over, fraction_order}
use Rattle.algebra.proofs.Fractions.{ℚ_ring, ℚ_field, fractions_ordered}
use Rattle.algebra.proofs.Wholes.{order-whole, whole_injective, whole-some}
use Rattle.vectors.specs.Matrices.{denominator}
use Rattle.vectors.proofs.SearchLaws.{below_more, below_next}
use Rattle.vectors.proofs.SplitDecided.{denominator_some}
use Rattle.eigen_split.specs.Refusal.{MayFollow, Ascending}
use Rattle.eigen_split.specs.Search.{Found, copies, IsIteration, no_eigenvalue, new_forms, IsOther, zero_passed, other_iteration, IterationsTo, IsWholeSearch, enough, zero_last}
use Rattle.eigen_split.proofs.Forming.{over-is}

pub candidate_next : (b k : ℕ) → (pos k +ℤ neg_ℤ (pos b)) +ℤ pos 1 ≡ pos (suc k) +ℤ neg_ℤ (pos b)
candidate_next b k = omega (arith, ints)

-- ---- the order
one_way : (p q : ℤ) → p <ℤ q → q <ℤ p → ⊥
one_way p q h k = grind (arith, ints)

pub not_below : (d : ℕ) (p q : ℤ) → 0 < d → p <ℤ q → fraction_order (over q d) (over p d) ≢ Less
not_below d p q some l e =
    let first : fraction_order ℚ.zero (whole (pos d)) ≡ Less = order-whole (pos 0) (pos d)
    ∙ int_less_in (pos 0) (pos d) (lt→ltb 0 d some) in
    let both = fractions_ordered.mul_keeps (over q d) (over p d) (whole (pos d)) first e in
    let times : (z : ℤ) → ℚ.mul (over z d) (whole (pos d)) ≡ whole z =
    λ z. ℚ_ring.mul_comm (over z d) (whole (pos d)) ∙ over-is d z some in
    let less : int_cmp q p ≡ Less = sym (order-whole q p)
    ∙ ap₂ fraction_order (sym (times q)) (sym (times p)) ∙ both in
    one_way p q l (lt_z_yes (int_less_out q p less))

not_below_self : (c : Fraction) → fraction_order c c ≢ Less
not_below_self c e = (let z : Equal ≡ Less = sym (fractions_ordered.same_is c) ∙ e in cc)

over_some : (d : ℕ) (p : ℤ) → 0 < d → p ≢ pos 0 → over p d ≢ ℚ.zero
over_some d p some ne e = ne (whole_injective p (pos 0) (sym (over-is d p some)
    ∙ ap (ℚ.mul (whole (pos d))) e ∙ L.mul-zero ℚ_ring (whole (pos d))))

over-zero : (d : ℕ) → 0 < d → over (pos 0) d ≡ ℚ.zero
over-zero d some = elim (FL.no_zero_divisors ℚ_field (whole (pos d)) (over (pos 0) d) (over-is d
    (pos 0) some)) [ inl z ↦ absurd (whole-some d some z) | inr z ↦ z ]

-- ---- one value so many times
each_repeated : (P : Fraction → Type 0) (k : ℕ) (c : Fraction) → P c → Each P (copies k c)
unfolding Each
each_repeated P zero c h = tt
each_repeated P (suc k) c h = (h, each_repeated P k c h)

repeated-ascends : (k : ℕ) (c : Fraction) → MayFollow c c → Ascending (copies k c)
repeated-ascends zero c h = tt
repeated-ascends (suc k) c h = (each_repeated (MayFollow c) k c h, repeated-ascends k c h)

ascending-append : (k : ℕ) (c : Fraction) (values : List Fraction) → MayFollow c c
    → Ascending values → Each (λ v. MayFollow v c) values → Ascending (values ++ copies k c)
unfolding Each
ascending-append k c [] s a h = repeated-ascends k c s
ascending-append k c (v ∷ values) s a h = (
  each-append (MayFollow v) values (copies k c) a.0 (each_repeated (MayFollow v) k c h.0),
  ascending-append k c values s a.1 h.1,
)

-- ---- the search
-- it is that of a number below m, which isn't 0
record IsBelow (d : ℕ) (m : ℤ) (c : Fraction) : Type 0 where
  number : ℤ
  low : number <ℤ m
  some : number ≢ pos 0
  is : c ≡ over number d

record AscendTo (d : ℕ) (m : ℤ) (values : List Fraction) : Type 0 where
  ascending : Ascending values
  below : Each (IsBelow d m) values

module _ (n : ℕ) (rows : List (List Fraction)) where
  abbrev d : ℕ
  d = denominator rows

  more : (p : ℤ) (values : List Fraction) → AscendTo d p values → AscendTo d (p +ℤ pos 1) values
  more p values a = record {
    ascending = a.ascending;
    below = each_weaker (IsBelow d p) (IsBelow d (p +ℤ pos 1)) (λ c h. record {
      number = h.number;
      low = below_more h.number p h.low;
      some = h.some;
      is = h.is;
    }) values a.below;
  }

  follows : (p : ℤ) (c : Fraction) → p ≢ pos 0 → IsBelow d p c → MayFollow c (over p d)
  follows p c ne h = inr (
    (λ z. over_some d h.number (denominator_some rows) h.some (sym h.is ∙ z)),
    subst (λ c. fraction_order (over p d) c ≢ Less) (sym h.is)
        (not_below d h.number p (denominator_some rows) h.low),
  )

  turned : (p : ℤ) (f g : Found) → IsOther n rows p f g → AscendTo d p f.values
      → AscendTo d (p +ℤ pos 1) g.values
  turned p f g (zero_passed z e) a = subst (λ (g : Found). AscendTo d (p +ℤ pos 1) g.values)
      (sym e) (more p f.values a)
  turned p f g (other_iteration ne (no_eigenvalue h e)) a =
      subst (λ (g : Found). AscendTo d (p +ℤ pos 1) g.values) (sym e) (more p f.values a)
  turned p f g (other_iteration ne (new_forms forms h e)) a =
      subst (λ (g : Found). AscendTo d (p +ℤ pos 1) g.values) (sym e)
      (record {
        ascending = ascending-append (length forms) (over p d) f.values
            (inr (over_some d p (denominator_some rows) ne, not_below_self (over p d)))
            a.ascending
            (each_weaker (IsBelow d p) (λ c. MayFollow c (over p d)) (λ c h. follows p c ne h)
            f.values a.below);
        below = each-append (IsBelow d (p +ℤ pos 1)) f.values
            (copies (length forms) (over p d)) ((more p f.values a).below)
            (each_repeated (IsBelow d (p +ℤ pos 1)) (length forms)
            (over p d) (record { number = p; low = below_next p; some = ne; is = refl }));
      })

  ascend_to : (b k : ℕ) (f : Found) → IterationsTo n rows b k f
      → AscendTo d (pos k +ℤ neg_ℤ (pos b)) f.values
  unfolding Each
  ascend_to b zero f e = subst (λ (f : Found). AscendTo d (pos 0 +ℤ neg_ℤ (pos b)) f.values) (sym e)
      (record { ascending = tt; below = tt })
  ascend_to b (suc k) f h = subst (λ m. AscendTo d m f.values) (candidate_next b k)
      (turned (pos k +ℤ neg_ℤ (pos b)) h.0 f h.2 (ascend_to b k h.0 h.1))

  with_zero : (e f : Found) → IsIteration n rows (pos 0) e f → Ascending e.values
      → Ascending f.values
  with_zero e f (no_eigenvalue h q) a = subst (λ (g : Found). Ascending g.values) (sym q) a
  with_zero e f (new_forms forms h q) a =
      let zero_is = over-zero d (denominator_some rows) in
      subst (λ (g : Found). Ascending g.values) (sym q)
      (ascending-append (length forms) (over (pos 0) d) e.values (inl zero_is) a
      (each_of (λ v. MayFollow v (over (pos 0) d)) (λ v. inl zero_is) e.values))

  pub values_ascend : (b : ℕ) (f : Found) → IsWholeSearch n rows b f → Ascending f.values
  values_ascend b f (enough others l) = (ascend_to b (2 * b + 1) f others).ascending
  values_ascend b f (zero_last e others l h) = with_zero e f h
      (ascend_to b (2 * b + 1) e others).ascending
