-- A coprime base by gcd alone: two numbers that are not coprime are taken apart, until all are.
--   all xs             the product of all; all-pos: above 0, where all are;  coprime-above: those of a coprime base are above 1
--   Picked b bs cs     bs is cs with one b removed; picked-each: what holds of each of cs holds of b and of each of bs
--   size ws bs         a measure of the waiting numbers ws and the base bs, which each step makes less
use Rattle.std.proofs.Common.{◌≡◌, ◌≢◌, Bool, true, false, cond, ℕ, zero, suc, ◌+◌, ◌*◌, ◌/◌, ◌<◌, List, [], ◌∷◌, length, refl, sym, ap, ap₂, subst, ◌∙◌, arith}
use Rattle.algebra.specs.Each.{Each}
use Rattle.exponentials.specs.Base.{Coprime}
use native.Mathlib.Nat as N
use Rattle.algebra.specs.Gcd.{gcd}
use Rattle.algebra.proofs.GcdLaws as G
use Rattle.algebra.proofs.RatioLaws.{mul-pos}
use Rattle.exponentials.proofs.Lists.{each_map}
use Rattle.exponentials.specs.Table.{alike}
use Rattle.exponentials.proofs.Terms.{alike_true}

-- the first number that has a common divisor above 1 with a, and the others
pub data Found : Type 0 where
  none : Found
  hit : ℕ → List ℕ → Found

abbrev pub behind : ℕ → Found → Found
behind b none = none
behind b (hit c bs) = hit c (b ∷ bs)

abbrev pub seek : ℕ → List ℕ → Found
seek a [] = none
seek a (b ∷ bs) = cond (alike (gcd a b) 1) (behind b (seek a bs)) (hit b bs)

-- the waiting numbers, and a coprime base: in at most so many steps
abbrev pub refine : ℕ → List ℕ → List ℕ → List ℕ
refine zero ws bs = bs
refine (suc n) [] bs = bs
refine (suc n) (w ∷ ws) bs = cond (alike w 1) (refine n ws bs) (elim (seek w bs) [
  | none
      ↦ refine n ws (w ∷ bs)
  | hit b rest ↦ let g : ℕ = gcd w b in
      refine n (w / g ∷ g ∷ b / g ∷ ws) rest
])

pub data Picked (b : ℕ) : List ℕ → List ℕ → Type 0 where
  here : (bs : List ℕ) → Picked b bs (b ∷ bs)
  there : (c : ℕ) (bs cs : List ℕ) → Picked b bs cs → Picked b (c ∷ bs) (c ∷ cs)

pub picked-each : (P : ℕ → Type 0) (b : ℕ) (bs cs : List ℕ) → Picked b bs cs → Each P cs → P b
    × Each P bs
unfolding Each
picked-each P b _ _ (here bs) p = (p.0, p.1)
picked-each P b _ _ (there c bs cs k) p = let r = picked-each P b bs cs k p.1 in (r.0, (p.0, r.1))

pub each-picked : (P : ℕ → Type 0) (b : ℕ) (bs cs : List ℕ) → Picked b bs cs → P b → Each P bs
    → Each P cs
unfolding Each
each-picked P b _ _ (here bs) p q = (p, q)
each-picked P b _ _ (there c bs cs k) p q = (q.0, each-picked P b bs cs k p q.1)

pub picked-coprime : (b : ℕ) (bs cs : List ℕ) → Picked b bs cs → Coprime cs → Coprime bs
picked-coprime b _ _ (here bs) c = c.2
picked-coprime b _ _ (there a bs cs k) c = (
  c.0,
  (picked-each (λ d. gcd a d ≡ 1) b bs cs k c.1).1,
  picked-coprime b bs cs k c.2,
)

abbrev pub all : List ℕ → ℕ
all [] = 1
all (x ∷ xs) = x * all xs

pub picked-all : (b : ℕ) (bs cs : List ℕ) → Picked b bs cs → all cs ≡ b * all bs
picked-all b _ _ (here bs) = refl
picked-all b _ _ (there c bs cs k) = ap (λ x. c * x) (picked-all b bs cs k)
    ∙ N.mul_left_comm c b (all bs)

pub all-pos : (xs : List ℕ) → Each (λ x. 0 < x) xs → 0 < all xs
unfolding Each
all-pos [] p = omega arith
all-pos (x ∷ xs) p = mul-pos x (all xs) p.0 (all-pos xs p.1)

pub above_one : (g : ℕ) → 0 < g → g ≢ 1 → 1 < g
above_one zero h n = absurd (omega arith)
above_one (suc zero) h n = absurd (n refl)
above_one (suc (suc g)) h n = omega arith

pub regroup : (g x y a r : ℕ) → g * x * a * (g * y * r) ≡ g * (x * (g * (y * a)) * r)
regroup g x y a r = omega arith

pub coprime-above : (bs : List ℕ) → Coprime bs → Each (λ b. 1 < b) bs
unfolding Each
coprime-above [] c = tt
coprime-above (b ∷ bs) c = (c.0, coprime-above bs c.2)

unfoldable pub size : List ℕ → List ℕ → ℕ
size ws bs = 3 * (all ws * all bs) + length ws

-- what `seek` says
seek-none : (a : ℕ) (bs : List ℕ) → seek a bs ≡ none → Each (λ b. gcd a b ≡ 1) bs
unfolding Each
seek-none a [] e = tt
seek-none a (b ∷ bs) e = go (alike (gcd a b) 1) refl (seek a bs) refl e (seek-none a bs)
  where
    go : (t : Bool) → alike (gcd a b) 1 ≡ t → (f : Found) → seek a bs ≡ f
        → cond t (behind b f) (hit b bs) ≡ none → (seek a bs ≡ none → Each (λ b. gcd a b ≡ 1) bs)
        → Each (λ b. gcd a b ≡ 1) (b ∷ bs)
    go true e none s h r = (alike_true (gcd a b) 1 e, r s)
    go true e (hit c cs) s h r = cc
    go false e f s h r = cc

seek-hit : (a : ℕ) (bs : List ℕ) (b : ℕ) (rest : List ℕ) → seek a bs ≡ hit b rest → Picked b rest bs
    × (gcd a b ≢ 1)
seek-hit a [] b rest e = cc
seek-hit a (c ∷ bs) b rest e = go (alike (gcd a c) 1) refl (seek a bs) refl e (seek-hit a bs)
  where
    go : (t : Bool) → alike (gcd a c) 1 ≡ t → (f : Found) → seek a bs ≡ f
        → cond t (behind c f) (hit c bs) ≡ hit b rest
        → ((b : ℕ) (rest : List ℕ) → seek a bs ≡ hit b rest → Picked b rest bs × (gcd a b ≢ 1))
        → Picked b rest (c ∷ bs) × (gcd a b ≢ 1)
    go true e none s h r = cc
    go true e (hit d cs) s h r =
        let x : d ≡ b = cc in
        let y : c ∷ cs ≡ rest = cc in
        let p = r d cs s in (
          subst (λ z. Picked z rest (c ∷ bs)) x (subst (λ l. Picked d l (c ∷ bs)) y
              (there c cs bs p.0)),
          subst (λ z. gcd a z ≢ 1) x p.1,
        )
    go false e f s h r =
        let x : c ≡ b = cc in
        let y : bs ≡ rest = cc in (
          subst (λ z. Picked z rest (c ∷ bs)) x (subst (λ l. Picked c l (c ∷ bs)) y (here bs)),
          subst (λ z. gcd a z ≢ 1) x (λ q. let t : alike (gcd a c) 1 ≡ true =
              ap (λ z. alike z 1) q in cc),
        )

pub shrink : (g p p' k l : ℕ) → 1 < g → 0 < p' → p ≡ g * p' → 3 * p + suc l < suc k
    → 3 * p' + suc (suc (suc l)) < k
shrink zero p p' k l h i e s = absurd (omega arith)
shrink (suc zero) p p' k l h i e s = absurd (omega arith)
shrink (suc (suc g)) p p' k l h i e s = omega (arith, N.mul-add g p' p')

pub record Cut (n w b : ℕ) (ws rest : List ℕ) : Type 0 where
  pub left_is : gcd w b * (w / gcd w b) ≡ w
  pub right_is : gcd w b * (b / gcd w b) ≡ b
  pub left_pos : 0 < gcd w b * (w / gcd w b)
  pub right_pos : 0 < gcd w b * (b / gcd w b)
  pub common : gcd (gcd w b * (w / gcd w b)) (gcd w b * (b / gcd w b)) ≡ gcd w b
  pub x_pos : 0 < w / gcd w b
  pub g_pos : 0 < gcd w b
  pub y_pos : 0 < b / gcd w b
  pub less : size (w / gcd w b ∷ gcd w b ∷ b / gcd w b ∷ ws) rest < n

pub pos_right : (g x : ℕ) → 0 < g * x → 0 < x
pos_right g zero h = absurd (omega arith)
pos_right g (suc x) h = omega arith

pub cut : (n w b : ℕ) (ws bs rest : List ℕ) → Each (λ w. 0 < w) (w ∷ ws) → Coprime bs
    → Picked b rest bs → gcd w b ≢ 1 → size (w ∷ ws) bs < suc n → Cut n w b ws rest
unfolding size Each
cut n w b ws bs rest p c k ne s =
    let big : 1 < b = (picked-each (λ b. 1 < b) b rest bs k (coprime-above bs c)).0 in
    let g = gcd w b in
    let x = w / g in
    let y = b / g in
    let some : 0 < g = G.gcd-pos w b (omega arith) in
    let left_is : g * x ≡ w = N.mul-div_cancel' g (G.gcd-left w b) in
    let right_is : g * y ≡ b = N.mul-div_cancel' g (G.gcd-right w b) in
    let left_pos : 0 < g * x = subst (λ z. 0 < z) (sym left_is) p.0 in
    let right_pos : 0 < g * y = subst (λ z. 0 < z) (sym right_is) (omega arith) in
    let x_pos : 0 < x = pos_right g x left_pos in
    let y_pos : 0 < y = pos_right g y right_pos in
    let rest_pos : 0 < all rest =
    all-pos rest (each_map rest (λ z h. omega arith) (picked-each (λ b. 1 < b) b rest bs k
    (coprime-above bs c)).1) in
    let p' = x * (g * (y * all ws)) * all rest in
    let p'_pos : 0 < p' = mul-pos (x * (g * (y * all ws))) (all rest) (mul-pos x (g * (y * all ws))
    x_pos (mul-pos g (y * all ws) some (mul-pos y (all ws) y_pos (all-pos ws p.1))))
    rest_pos in
    let sizes : w * all ws * all bs ≡ g * p' =
    ap (λ z. w * all ws * z) (picked-all b rest bs k) ∙ ap₂ (λ u v. u * all ws * (v * all rest))
    (sym left_is) (sym right_is) ∙ regroup g x y (all ws) (all rest) in
    record {
      left_is = left_is;
      right_is = right_is;
      left_pos = left_pos;
      right_pos = right_pos;
      common = ap₂ gcd left_is right_is;
      x_pos = x_pos;
      g_pos = some;
      y_pos = y_pos;
      less = shrink g (w * all ws * all bs) p' n (length ws) (above_one g some ne) p'_pos sizes s;
    }

-- a fact on the numbers that wait, the base and the result holds where each step keeps it, backward
pub refine_ind : (Q : List ℕ → List ℕ → List ℕ → Type 0)
    → ((bs : List ℕ) → Coprime bs → Q [] bs bs)
    → ((ws bs r : List ℕ) → Q ws bs r → Q (1 ∷ ws) bs r)
    → ((w : ℕ) (ws bs r : List ℕ) → Q ws (w ∷ bs) r → Q (w ∷ ws) bs r)
    → ((g x y : ℕ) (ws bs rest r : List ℕ) → 0 < g * x → 0 < g * y → gcd (g * x) (g * y) ≡ g
    → Picked (g * y) rest bs → Q (x ∷ g ∷ y ∷ ws) rest r → Q (g * x ∷ ws) bs r)
    → (n : ℕ) (ws bs : List ℕ) → Each (λ w. 0 < w) ws → Coprime bs → size ws bs < n
    → Q ws bs (refine n ws bs)
unfolding size Each
refine_ind Q done one new split zero ws bs p c s = absurd (omega arith)
refine_ind Q done one new split (suc n) [] bs p c s = done bs c
refine_ind Q done one new split (suc n) (w ∷ ws) bs p c s =
    (elim (alike w 1) as (λ t. alike w 1 ≡ t
    → Q (w ∷ ws) bs (cond t (refine n ws bs) (elim (seek w bs) as (λ _. List ℕ) [
      | none
          ↦ refine n ws (w ∷ bs)
      | hit b rest
          ↦ refine n (w / gcd w b ∷ gcd w b ∷ b / gcd w b ∷ ws) rest
    ]))) [
      | true ↦ λ e.
          let w1 : w ≡ 1 = alike_true w 1 e in
          subst (λ z. Q (z ∷ ws) bs (refine n ws bs)) (sym w1)
          (one ws bs (refine n ws bs) (refine_ind Q done one new split n ws bs p.1 c
          (smaller_one n w ws bs w1 s)))
      | false ↦ λ e.
          let big : 1 < w = above w p.0 e in
          (elim (seek w bs) as (λ f. seek w bs ≡ f
          → Q (w ∷ ws) bs (elim f as (λ _. List ℕ) [
            | none ↦ refine n ws (w ∷ bs)
            | hit b rest ↦ refine n (w / gcd w b ∷ gcd w b ∷ b / gcd w b ∷ ws) rest
          ])) [
            | none ↦ λ h. new w ws bs (refine n ws (w ∷ bs)) (refine_ind Q done one new split n ws
                (w ∷ bs) p.1 (big, seek-none w bs h, c) (smaller_new n w ws bs s))
            | hit b rest ↦ λ h.
                let k = seek-hit w bs b rest h in
                let v = cut n w b ws bs rest p c k.0 k.1 s in
                let r = refine n (w / gcd w b ∷ gcd w b ∷ b / gcd w b ∷ ws) rest in
                subst (λ z. Q (z ∷ ws) bs r) v.left_is
                (split (gcd w b) (w / gcd w b) (b / gcd w b) ws bs rest r v.left_pos v.right_pos
                v.common (subst (λ z. Picked z rest bs) (sym v.right_is) k.0)
                (refine_ind Q done one new split n (w / gcd w b ∷ gcd w b ∷ b / gcd w b ∷ ws) rest
                (v.x_pos, (v.g_pos, (v.y_pos, p.1))) (picked-coprime b rest bs k.0 c) v.less))
          ]) refl
    ]) refl
  where
    above : (w : ℕ) → 0 < w → alike w 1 ≡ false → 1 < w
    above zero h e = absurd (omega arith)
    above (suc zero) h e = cc
    above (suc (suc w)) h e = omega arith

    smaller_one : (n w : ℕ) (ws bs : List ℕ) → w ≡ 1 → 3 * (w * all ws * all bs) + suc (length ws)
        < suc n → 3 * (all ws * all bs) + length ws < n
    smaller_one n w ws bs e s =
        let q : 3 * (w * all ws * all bs) ≡ 3 * (all ws * all bs) =
        ap (λ z. 3 * (z * all bs)) (ap (λ z. z * all ws) e ∙ N.one-mul (all ws)) in
        omega arith

    smaller_new : (n w : ℕ) (ws bs : List ℕ) → 3 * (w * all ws * all bs) + suc (length ws) < suc n
        → 3 * (all ws * (w * all bs)) + length ws < n
    smaller_new n w ws bs s =
        let q : w * all ws * all bs ≡ all ws * (w * all bs) =
        ap (λ z. z * all bs) (N.mul_comm w (all ws)) ∙ N.mul_assoc (all ws) w (all bs) in
        omega arith
