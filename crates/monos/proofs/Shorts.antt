-- What is short, and what a test of equality answers.
use Rattle.std.specs.Bool.{MatchBool}
use Rattle.std.proofs.Common.{◌≡◌, ◌<◌, ◌≤◌, ◌↔◌, ℕ, zero, suc, ◌^◌, ◌+◌, List, [], ◌∷◌, Bool, true, false, IsTrue, nat_eq, length, replicate, set, refl, sym, ◌∙◌, subst, arith}
use Rattle.std.specs.Cmp.Lexicographic.{pointwise, told_text}
use Rattle.std.proofs.lemmas.List.{length-replicate, length-set}
use Rattle.std.proofs.lemmas.List.Elements.{All-cons, All-nil}
use Rattle.std.proofs.Math.Nat.{pow-le-pow_right}
use Rattle.polynomials.specs.Exponent.{plus, lcm}
use Rattle.polynomials.proofs.Exponent.{length-plus_same, length-lcm, get_or-plus}
use Rattle.monos.specs.Products.{ProductFits}
use Rattle.monos.specs.Lanes.{AreSmall, IsShort, lane_room}
use Rattle.monos.proofs.Words.{small_first, small_rest}
use Rattle.monos.proofs.ShortWords.{by_room, room_small}

at_least : (n : ℕ) → 2 ≤ 2 ^ lane_room n
at_least n = by_room n (λ r c. 2 ≤ 2 ^ r) (λ low. omega arith) (λ high. omega arith)

zeros : (b n : ℕ) → 2 ≤ 2 ^ b → AreSmall b (replicate n 0)
zeros b zero h = All-nil (λ k. k < 2 ^ b)
zeros b (suc n) h = All-cons (λ k. k < 2 ^ b) 0 (replicate n 0) (omega (arith, h)) (zeros b n h)

zeros_and_one : (b n i : ℕ) → 2 ≤ 2 ^ b → AreSmall b (set (replicate n 0) i 1)
zeros_and_one b zero i h = All-nil (λ k. k < 2 ^ b)
zeros_and_one b (suc n) zero h = All-cons (λ k. k < 2 ^ b) 1 (replicate n 0) (omega (arith, h))
    (zeros b n h)
zeros_and_one b (suc n) (suc i) h = All-cons (λ k. k < 2 ^ b) 0 (set (replicate n 0) i 1)
    (omega (arith, h)) (zeros_and_one b n i h)

pub short_one : (n : ℕ) → n ≤ 16 → IsShort (replicate n 0)
short_one n h =
    let count : length (replicate n 0) ≡ n = length-replicate n 0 in
    record {
      few = subst (λ k. k ≤ 16) (sym count) h;
      small = zeros (lane_room (length (replicate n 0))) n (at_least (length (replicate n 0)));
    }

pub short_variable : (n i : ℕ) → n ≤ 16 → IsShort (set (replicate n 0) i 1)
short_variable n i h =
    let count : length (set (replicate n 0) i 1) ≡ n = length-set (replicate n 0) i 1
    ∙ length-replicate n 0 in
    record {
      few = subst (λ k. k ≤ 16) (sym count) h;
      small = zeros_and_one (lane_room (length (set (replicate n 0) i 1))) n i
          (at_least (length (set (replicate n 0) i 1)));
    }

-- what is added to give small exponents is small
small_part : (b : ℕ) (d q : List ℕ) → length d ≡ length q → AreSmall b (plus d q) → AreSmall b q
unfolding plus
small_part b [] [] l s = s
small_part b [] (y ∷ q) l s = absurd (omega arith)
small_part b (x ∷ d) [] l s = absurd (omega arith)
small_part b (x ∷ d) (y ∷ q) l s =
    let first = small_first b (x + y) (plus d q) s in
    All-cons (λ k. k < 2 ^ b) y q (omega (arith, first)) (small_part b d q (omega arith)
    (small_rest b (x + y) (plus d q) s))

pub short_part : (d q e : List ℕ) → plus d q ≡ e → length q ≡ length e → length e ≡ length d
    → IsShort e → IsShort q
short_part d q e is count same short = record {
  few = subst (λ k. k ≤ 16) (sym count) short.few;
  small = small_part (lane_room (length q)) d q (sym (count ∙ same))
      (subst (AreSmall (lane_room (length q))) (sym is) (subst (λ k. AreSmall (lane_room k) e)
      (sym count) short.small));
}

pub few_plus : (d e : List ℕ) → length d ≡ length e → IsShort (plus d e) → length d ≤ 16
few_plus d e same short = subst (λ k. k ≤ 16) (length-plus_same d e same ∙ sym same) short.few

pub few_lcm : (d e : List ℕ) → length d ≡ length e → IsShort (lcm d e) → length d ≤ 16
few_lcm d e same short = subst (λ k. k ≤ 16) (length-lcm d e same) short.few

-- a short product has room in 16 bits
pub short_fits : (d e : List ℕ) → length d ≡ length e → IsShort (plus d e) → ProductFits d e
short_fits d e same short i h =
    let top = pow-le-pow_right {n = 2} (omega arith) (room_small (length (plus d e))) in
    let within : i < length (plus d e) = subst (λ k. i < k)
    (same ∙ sym (length-plus_same d e same)) h in
    let small = short.small i 0 within in
    let is = get_or-plus d e i in
    omega (arith, top, small, is)

-- a test that tells whether two lists are one
pub told_is : (r : Bool) (xs ys : List ℕ) → (IsTrue r ↔ (xs ≡ ys)) → r ≡ pointwise nat_eq xs ys
told_is r xs ys tells = go r (pointwise nat_eq xs ys) tells
    (told_text xs ys (pointwise nat_eq xs ys) refl)
  where
    go : (r t : Bool) → (IsTrue r ↔ (xs ≡ ys)) → MatchBool t (xs ≡ ys) (xs ≡ ys → ⊥) → r ≡ t
    go true true tells told = refl
    go false false tells told = refl
    go true false tells told = absurd (told (tells.0 refl))
    go false true tells told = tells.1 told
