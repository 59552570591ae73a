-- What a loop keeps that refines a list: the waiting numbers ws and the base bs, by its steps.
--   Refining list ws bs     what the loop keeps
--   refining_start, refining_done     it holds where all numbers wait; where it holds and none waits, bs is a coarsest base
--   Settles w ws bs ws' bs'     an iteration that takes w from the waiting numbers keeps this, and makes the size less
--   settles_one, settles_new, settles_split     where w is 1; where it is coprime to the base; where it has a common divisor with one of its numbers
use Rattle.std.proofs.Common.{◌≡◌, ◌≢◌, ℕ, suc, ◌+◌, ◌*◌, ◌/◌, ◌<◌, List, [], ◌∷◌, ◌++◌, length, refl, sym, ap, ap₂, subst, ◌∙◌, arith}
use Rattle.algebra.specs.Each.{Each}
use Rattle.algebra.proofs.Each.{each-append, each-left, each-right}
use Rattle.exponentials.specs.Base.{Coprime, Divides, IsBase, IsCoarsest, IsProductOf}
use native.Mathlib.Nat as N
use Rattle.algebra.specs.Gcd.{gcd}
use Rattle.algebra.proofs.GcdLaws as G
use Rattle.algebra.proofs.RatioLaws.{mul-pos}
use Rattle.algebra.proofs.In.{each_from}
use Rattle.exponentials.proofs.Lists.{each_map}
use Rattle.exponentials.proofs.PowerProducts.{Split, pos_left, made_one, made_mul, made_in, made_split, made_trans}
use Rattle.exponentials.proofs.Refine.{size, shrink, all-pos, all as every, picked-all, here, there, Picked, picked-each, each-picked, picked-coprime, coprime-above, above_one, pos_right, regroup}
use Rattle.exponentials.proofs.BaseLaws.{divides_split}
use Rattle.exponentials.proofs.Orders.{coprime-picked, picked-push}

append-each : (P : ℕ → Type 0) (xs ys : List ℕ) → Each P (xs ++ ys) → Each P xs × Each P ys
append-each P xs ys p = (each-left P xs ys p, each-right P xs ys p)

pub record Refining (list ws bs : List ℕ) : Type 0 where
  pub positive : Each (λ w. 0 < w) ws
  pub coprime : Coprime bs
  pub products : Each (IsProductOf (ws ++ bs)) list
  pub divides : Each (Divides list) (ws ++ bs)
  pub coarsest : (cs : List ℕ) → IsBase list cs → Each (IsProductOf cs) (ws ++ bs)

-- the step's numbers make the ones before it, and each property that splits is kept
pub stepped : (list ws bs ws' bs' : List ℕ) → Refining list ws bs → Each (λ w. 0 < w) ws'
    → Coprime bs'
    → Each (IsProductOf (ws' ++ bs')) ws → Each (IsProductOf (ws' ++ bs')) bs
    → ((P : ℕ → Type 0) → Split P → Each P ws → Each P bs → Each P ws' × Each P bs')
    → Refining list ws' bs'
stepped list ws bs ws' bs' r p c m n k = record {
  positive = p;
  coprime = c;
  products = each_map list (λ x q. made_trans (ws ++ bs) (ws' ++ bs') x q
      (each-append (IsProductOf (ws' ++ bs')) ws bs m n)) r.products;
  divides =
      let d = append-each (Divides list) ws bs r.divides in
      let e = k (Divides list) (divides_split list) d.0 d.1 in
      each-append (Divides list) ws' bs' e.0 e.1;
  coarsest = λ cs b.
      let d = append-each (IsProductOf cs) ws bs (r.coarsest cs b) in
      let e = k (IsProductOf cs) (made_split cs b.coprime) d.0 d.1 in
      each-append (IsProductOf cs) ws' bs' e.0 e.1;
}

-- the numbers themselves
own : (xs ys : List ℕ) → Each (IsProductOf (xs ++ ys)) xs × Each (IsProductOf (xs ++ ys)) ys
own xs ys = append-each (IsProductOf (xs ++ ys)) xs ys (each_from (xs ++ ys) (made_in (xs ++ ys)))

pub refining_start : (list : List ℕ) → Each (λ x. 0 < x) list → Refining list list []
unfolding Each
refining_start list p = record {
  positive = p;
  coprime = tt;
  products = (own list []).0;
  divides = each-append (Divides list) list []
      (each_from list (λ x i. record { number = x; within = i; divides = N.dvd_refl x })) tt;
  coarsest = λ cs b. each-append (IsProductOf cs) list [] b.products tt;
}

pub refining_done : (list bs : List ℕ) → Refining list [] bs → IsCoarsest list bs
refining_done list bs r = record {
  base = record { coprime = r.coprime; products = r.products };
  coarsest = r.coarsest;
}

-- ---- the same where the numbers stand anywhere
pub refining_one_at : (list ws ws' bs : List ℕ) → Picked 1 ws' ws → Refining list ws bs
    → Refining list ws' bs
refining_one_at list ws ws' bs k r =
    stepped list ws bs ws' bs r (picked-each (λ w. 0 < w) 1 ws' ws k r.positive).1 r.coprime
    (each-picked (IsProductOf (ws' ++ bs)) 1 ws' ws k (made_one (ws' ++ bs)) (own ws' bs).0)
    (own ws' bs).1
    (λ P s p q. ((picked-each P 1 ws' ws k p).1, q))

pub refining_new_at : (list : List ℕ) (w : ℕ) (ws ws' bs bs' : List ℕ) → Picked w ws' ws
    → Picked w bs bs' → 1 < w → Each (λ b. gcd w b ≡ 1) bs → Refining list ws bs
    → Refining list ws' bs'
refining_new_at list w ws ws' bs bs' k l h e r =
    let o = own ws' bs' in
    let b = picked-each (IsProductOf (ws' ++ bs')) w bs bs' l o.1 in
    stepped list ws bs ws' bs' r (picked-each (λ w. 0 < w) w ws' ws k r.positive).1
    (coprime-picked w bs bs' l h e r.coprime)
    (each-picked (IsProductOf (ws' ++ bs')) w ws' ws k b.0 o.0) b.1
    (λ P s p q. let a = picked-each P w ws' ws k p in (a.1, each-picked P w bs bs' l a.0 q))

-- three numbers more
pub record Three (x g y : ℕ) (ws ws' : List ℕ) : Type 0 where
  pub one : List ℕ
  pub two : List ℕ
  pub first : Picked y ws one
  pub second : Picked g one two
  pub third : Picked x two ws'

pub three-each : (P : ℕ → Type 0) (x g y : ℕ) (ws ws' : List ℕ) → Three x g y ws ws' → Each P ws'
    → P x × P g × P y × Each P ws
three-each P x g y ws ws' t p =
    let a = picked-each P x t.two ws' t.third p in
    let b = picked-each P g t.one t.two t.second a.1 in
    let c = picked-each P y ws t.one t.first b.1 in
    (a.0, b.0, c.0, c.1)

pub each-three : (P : ℕ → Type 0) (x g y : ℕ) (ws ws' : List ℕ) → Three x g y ws ws' → P x → P g
    → P y → Each P ws → Each P ws'
each-three P x g y ws ws' t p q r s = each-picked P x t.two ws' t.third p
    (each-picked P g t.one t.two t.second q (each-picked P y ws t.one t.first r s))

pub refining_split_at : (list : List ℕ) (g x y : ℕ) (ws ws' ws'' bs bs' : List ℕ)
    → gcd (g * x) (g * y) ≡ g → Picked (g * x) ws' ws → Picked (g * y) bs' bs → Three x g y ws' ws''
    → Refining list ws bs → Refining list ws'' bs'
refining_split_at list g x y ws ws' ws'' bs bs' e k l t r =
    let was = picked-each (λ w. 0 < w) (g * x) ws' ws k r.positive in
    let i : 0 < g * x = was.0 in
    let j : 0 < g * y =
    (let big : 1 < g * y =
    (picked-each (λ b. 1 < b) (g * y) bs' bs l (coprime-above bs r.coprime)).0 in
    omega arith) in
    let o = own ws'' bs' in
    let m = ws'' ++ bs' in
    let v = three-each (IsProductOf m) x g y ws' ws'' t o.0 in
    stepped list ws bs ws'' bs' r
    (each-three (λ w. 0 < w) x g y ws' ws'' t (pos_right g x i) (pos_left g x i) (pos_right g y j)
    was.1)
    (picked-coprime (g * y) bs' bs l r.coprime)
    (each-picked (IsProductOf m) (g * x) ws' ws k (made_mul m g x v.1 v.0) v.3)
    (each-picked (IsProductOf m) (g * y) bs' bs l (made_mul m g y v.1 v.2) o.1)
    (λ P s p q.
    let a = picked-each P (g * x) ws' ws k p in
    let b = picked-each P (g * y) bs' bs l q in (
      each-three P x g y ws' ws'' t (s.quotient g x y i j e a.0 b.0) (s.common g x y i j e a.0 b.0)
          (s.quotient g y x j i (G.gcd_comm (g * y) (g * x) ∙ e) b.0 a.0) a.1,
      b.1,
    ))

-- ---- what one iteration of a loop does with the number w, taken from the waiting ones
abbrev pub Settles : ℕ → List ℕ → List ℕ → List ℕ → List ℕ → Type 0
Settles w ws bs ws' bs' = (list all : List ℕ) → Picked w ws all → Refining list all bs
    → Refining list ws' bs' × (size ws' bs' < size all bs)

pub picked-length : (b : ℕ) (bs cs : List ℕ) → Picked b bs cs → length cs ≡ suc (length bs)
picked-length b _ _ (here bs) = refl
picked-length b _ _ (there c bs cs k) = ap suc (picked-length b bs cs k)

pub settles_one : (ws bs : List ℕ) → Settles 1 ws bs ws bs
unfolding size
settles_one ws bs list all k r =
    let l : length all ≡ suc (length ws) = picked-length 1 ws all k in
    let p : every all * every bs ≡ every ws * every bs =
    ap (λ z. z * every bs) (picked-all 1 ws all k ∙ N.one-mul (every ws)) in (
      refining_one_at list all ws bs k r,
      (let h : 3 * (every ws * every bs) + length ws < 3
          * (every all * every bs) + length all = omega arith in h),
    )

pub settles_new : (w : ℕ) (ws bs : List ℕ) → 1 < w → Each (λ b. gcd w b ≡ 1) bs
    → Settles w ws bs ws (bs ++ w ∷ [])
unfolding size
settles_new w ws bs h e list all k r =
    let bs' = bs ++ w ∷ [] in
    let l : length all ≡ suc (length ws) = picked-length w ws all k in
    let p : every all * every bs ≡ every ws * every bs' =
    ap (λ z. z * every bs) (picked-all w ws all k ∙ N.mul_comm w (every ws))
    ∙ N.mul_assoc (every ws) w (every bs)
    ∙ ap (λ z. every ws * z) (sym (picked-all w bs bs' (picked-push w bs))) in (
      refining_new_at list w all ws bs bs' k (picked-push w bs) h e r,
      (let h : 3 * (every ws * every bs') + length ws < 3 * (every all * every bs)
          + length all = omega arith in h),
    )

pub settles_split : (w b : ℕ) (ws ws' bs bs' : List ℕ) → Picked b bs' bs → gcd w b ≢ 1
    → Three (w / gcd w b) (gcd w b) (b / gcd w b) ws ws' → Settles w ws bs ws' bs'
unfolding size
settles_split w b ws ws' bs bs' k ne t list all j r =
    let g = gcd w b in
    let x = w / g in
    let y = b / g in
    let was = picked-each (λ w. 0 < w) w ws all j r.positive in
    let tops = picked-each (λ b. 1 < b) b bs' bs k (coprime-above bs r.coprime) in
    let big : 1 < b = tops.0 in
    let some : 0 < g = G.gcd-pos w b (omega arith) in
    let left_is : g * x ≡ w = N.mul-div_cancel' g (G.gcd-left w b) in
    let right_is : g * y ≡ b = N.mul-div_cancel' g (G.gcd-right w b) in
    let y_pos : 0 < y = pos_right g y (subst (λ z. 0 < z) (sym right_is) (omega arith)) in
    let x_pos : 0 < x = pos_right g x (subst (λ z. 0 < z) (sym left_is) was.0) in
    let p' = x * (g * (y * every ws)) * every bs' in
    let p'_pos : 0 < p' =
    mul-pos (x * (g * (y * every ws))) (every bs') (mul-pos x (g * (y * every ws)) x_pos
    (mul-pos g (y * every ws) some (mul-pos y (every ws) y_pos (all-pos ws was.1))))
    (all-pos bs' (each_map bs' (λ z h. omega arith) tops.1)) in
    let before : every all * every bs ≡ g * p' =
    ap₂ ◌*◌ (picked-all w ws all j) (picked-all b bs' bs k)
    ∙ ap₂ (λ u v. u * every ws * (v * every bs')) (sym left_is) (sym right_is)
    ∙ regroup g x y (every ws) (every bs') in
    let after : every ws' * every bs' ≡ p' =
    ap (λ z. z * every bs') (picked-all x t.two ws' t.third
    ∙ ap (λ z. x * z) (picked-all g t.one t.two t.second
    ∙ ap (λ z. g * z) (picked-all y ws t.one t.first))) in
    let l : length all ≡ suc (length ws) = picked-length w ws all j in
    let l₁ : length ws' ≡ suc (length t.two) = picked-length x t.two ws' t.third in
    let l₂ : length t.two ≡ suc (length t.one) = picked-length g t.one t.two t.second in
    let l₃ : length t.one ≡ suc (length ws) = picked-length y ws t.one t.first in
    let less : 3 * p' + suc (suc (suc (length ws))) < 3 * (every all * every bs) + suc (length ws) =
    shrink g (every all * every bs) p' (3 * (every all * every bs) + suc (length ws)) (length ws)
    (above_one g some ne) p'_pos before
    (N.lt-suc_self (3 * (every all * every bs) + suc (length ws))) in (
      refining_split_at list g x y all ws ws' bs bs' (ap₂ gcd left_is right_is)
          (subst (λ z. Picked z ws all) (sym left_is) j) (subst (λ z. Picked z bs' bs)
          (sym right_is) k) t r,
      (let h : 3 * (every ws' * every bs') + length ws' < 3 * (every all * every bs) + length all =
          omega arith in h),
    )
