-- The product of the powers on one side, number by number.
--   side_none, side_more     of no numbers; of one more
--   side_past                where a part does not fit, neither does the whole
use Rattle.std.proofs.Common.{◌≡◌, ℕ, ◌*◌, ◌^◌, ◌<◌, ◌≤◌, ℤ, Bool, List, ◌∷◌, map, unsigned_abs, sym, subst, arith}
use native.Mathlib.Nat as N
use Rattle.exponentials.specs.Base.{Coprime}
use Rattle.frac128.specs.declared.Whole.{Whole}
use Rattle.coprime_base.specs.Sizes.{sizes}
use Rattle.expo.specs.Powers.{side_of, side_product}
use Rattle.expo.proofs.Ratios.{power_some, product_some}

pub side_some : (ws : List Whole) (below : Bool) (e : List ℤ) (rest : ℕ) → Coprime (sizes ws)
    → rest ≡ side_product (sizes ws) below e → 0 < rest
side_some ws below e rest c h =
    subst (λ n. 0 < n) (sym h) (product_some (sizes ws) (map (side_of below) e) c)

pub tail_coprime : (ws rest : List Whole) (w : Whole) → ws ≡ w ∷ rest → Coprime (sizes ws)
    → Coprime (sizes rest)
tail_coprime ws rest w h c = (subst (λ l. Coprime (sizes l)) h c).2

pub side_past : (below : Bool) (ws us : List Whole) (w : Whole) (e f : List ℤ) (z : ℤ) → ws ≡ w ∷ us
    → e ≡ z ∷ f → Coprime (sizes ws)
    → 2 ^ 128 ≤ side_product (sizes us) below f → 2 ^ 128 ≤ side_product (sizes ws) below e
side_past below ws us w e f z h k c past =
    let d : Coprime (sizes (w ∷ us)) = subst (λ l. Coprime (sizes l)) h c in
    let some : 0 < unsigned_abs w.value ^ side_of below z = power_some (unsigned_abs w.value)
    (side_of below z) (let o : 1 < unsigned_abs w.value = d.0 in omega arith) in
    let x = side_product (sizes us) below f in
    let more : x ≤ unsigned_abs w.value ^ side_of below z * x =
    subst (λ y. y ≤ unsigned_abs w.value ^ side_of below z * x) (N.one-mul x)
    (N.mul-le-mul_right x (let o : 1 ≤ unsigned_abs w.value ^ side_of below z = omega arith in
    o)) in
    let all : 2 ^ 128 ≤ unsigned_abs w.value ^ side_of below z * x = omega arith in
    subst (λ l. 2 ^ 128 ≤ side_product (sizes l) below e) (sym h)
    (subst (λ l. 2 ^ 128 ≤ side_product (sizes (w ∷ us)) below l) (sym k) all)
