-- How many cofactors a stage has of what.
--   free_test              the test whether one is free of the first variables, in the words of machines
--   none_kept, free_in, free_out     how many are free: of none, and one element further
--   pairs_count            how many pairs a list has
--   same_count             the test of it
use Rattle.std.proofs.Common.{◌≡◌, ℕ, zero, suc, ◌+◌, ◌-◌, ◌*◌, ◌<◌, Bool, true, false, ◌&&◌, cond, List, [], ◌∷◌, ◌++◌, map, flat_map, get_or, length, drop, take, replicate, refl, sym, ap, ap₂, ◌∙◌, arith}
use Rattle.std.specs.Prelude.{◌==◌, ◌↔◌, IsTrue}
use Rattle.std.proofs.lemmas.Bool.{and_parts}
use Rattle.std.proofs.lemmas.Bool.Decides.{nat_tests}
use Rattle.std.proofs.Math.Nat.{mul-suc, suc-mul}
use Rattle.std.proofs.lemmas.List.{length-append, length-map, map-append, take_more}
use Rattle.algebra.specs.Each.{Each}
use Rattle.algebra.specs.Fraction.{Fraction}
use Rattle.polynomials.specs.Exponent.{same}
use Rattle.polynomials.specs.Terms.{Terms, retold}
use Rattle.polynomials.proofs.Exponent.{same_refl, same_true}
use Rattle.exponentials.specs.Table.{numbers}
use Rattle.machines.specs.Elimination.{free, all_free, free_part}
use Rattle.machines.proofs.Front.{kept-append}
use Rattle.machines.specs.Front.{IsFreeOfFirst}
use Rattle.corollaries.specs.Representation.{pairs_of}

-- ---- free of the first variables
module _ {A : Type 0} (k : ℕ) where
  free_all : (p : Terms A) → IsFreeOfFirst k p → all_free k p ≡ true
  unfolding Each all_free
  free_all [] h = refl
  free_all (t ∷ p) h =
      ap₂ ◌&&◌ (ap (λ d. same d (replicate k 0)) h.0 ∙ same_refl (replicate k 0)) (free_all p h.1)

  all_free_of : (p : Terms A) → all_free k p ≡ true → IsFreeOfFirst k p
  unfolding Each all_free
  all_free_of [] h = tt
  all_free_of (t ∷ p) h =
      let two = and_parts (free k t.0) (all_free k p) h in
      (same_true (take k t.0) (replicate k 0) two.0, all_free_of p two.1)

  pub free_test : (b : Bool) (p : Terms A) → (IsTrue b ↔ IsFreeOfFirst k p) → b ≡ all_free k p
  free_test true p h = sym (free_all p (h.0 refl))
  free_test false p h = go (all_free k p) refl
    where
      go : (c : Bool) → all_free k p ≡ c → false ≡ all_free k p
      go true e = h.1 (all_free_of p e) ∙ sym e
      go false e = sym e

  one_kept : (g : Terms A) (b : Bool) → all_free k g ≡ b
      → length (free_part k (g ∷ [])) ≡ cond b 1 0
  unfolding free_part
  one_kept g true e = ap (λ c. length (cond c (retold (drop k) g ∷ []) [])) e
  one_kept g false e = ap (λ c. length (cond c (retold (drop k) g ∷ []) [])) e

  free_more : (b : Bool) (gs next : List (Terms A)) (g : Terms A) (n : ℕ) → next ≡ gs ++ g ∷ []
      → all_free k g ≡ b → n ≡ length (free_part k gs) → n + cond b 1 0 ≡ length (free_part k next)
  free_more b gs next g n more is so_far =
      ap₂ ◌+◌ so_far (sym (one_kept g b is))
      ∙ sym (length-append (free_part k gs) (free_part k (g ∷ [])))
      ∙ ap length (sym (kept-append k gs (g ∷ [])))
      ∙ ap (λ zs. length (free_part k zs)) (sym more)

pub none_kept : (k : ℕ) → 0 ≡ length (free_part {A = Fraction} k [])
unfolding free_part
none_kept k = refl

module _ {P A : Type 0} (see : P → Terms A) (k : ℕ) (ps : List P) (i : ℕ) (p : P) (n : ℕ)
    (within : i < length ps) (is : p ≡ get_or ps i p)
    (so_far : n ≡ length (free_part k (map see (take i ps)))) where
  taken : map see (take (i + 1) ps) ≡ map see (take i ps) ++ see p ∷ []
  taken = ap (map see) (take_more ps i p within ∙ ap (λ x. take i ps ++ x ∷ []) (sym is))
      ∙ map-append see (take i ps) (p ∷ [])

  pub free_in : all_free k (see p) ≡ true → n + 1 ≡ length (free_part k (map see (take (i + 1) ps)))
  free_in f = free_more k true _ _ (see p) n taken f so_far

  pub free_out : all_free k (see p) ≡ false → n ≡ length (free_part k (map see (take (i + 1) ps)))
  free_out f = let h = free_more k false _ _ (see p) n taken f so_far in omega (arith, h)

-- ---- pairs
abbrev from : ℕ → List ℕ → List (ℕ × ℕ)
from n is = flat_map (λ i. map (λ j. (i, j)) (numbers (suc i) (n - suc i))) is

length-numbers : (lo n : ℕ) → length (numbers lo n) ≡ n
length-numbers lo zero = refl
length-numbers lo (suc n) = ap suc (length-numbers (suc lo) n)

next_square : (c r : ℕ) → r + r + c ≡ c * c → (c + r) + (c + r) + suc c ≡ suc c * suc c
next_square c r h =
    let last = mul-suc (suc c) c in
    let first = suc-mul c c in
    omega (arith, h, last, first)

total : (n lo c : ℕ) → n ≡ lo + c
    → length (from n (numbers lo c)) + length (from n (numbers lo c)) + c ≡ c * c
total n lo zero e = refl
total n lo (suc c) e =
    let row : List (ℕ × ℕ) = map (λ j. (lo, j)) (numbers (suc lo) (n - suc lo)) in
    let rest : List (ℕ × ℕ) = from n (numbers (suc lo) c) in
    let width : length row ≡ c =
    length-map (numbers (suc lo) (n - suc lo)) (λ j. (lo, j))
    ∙ length-numbers (suc lo) (n - suc lo) ∙ omega (arith, e) in
    let all : length (row ++ rest) ≡ c + length rest =
    length-append row rest ∙ ap (λ x. x + length rest) width in
    ap (λ x. x + x + suc c) all
    ∙ next_square c (length rest) (total n (suc lo) c (omega (arith, e)))

pub pairs_count : (n : ℕ) → length (pairs_of n) + length (pairs_of n) + n ≡ n * n
unfolding pairs_of
pairs_count n = total n 0 n (omega arith)

pub same_count : (p n : ℕ) → ((p + p + n) == (n * n)) ≡ (p == length (pairs_of n))
same_count p n = go (length (pairs_of n)) (pairs_count n)
  where
    go : (q : ℕ) → q + q + n ≡ n * n → ((p + p + n) == (n * n)) ≡ (p == q)
    go q h = ap (λ x. (p + p + n) == x) (sym h) ∙ grind (arith, nat_tests)
