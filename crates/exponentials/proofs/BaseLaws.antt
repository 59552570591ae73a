-- The coarsest coprime base of a list: there is exactly one, and refining gives it.
--   the_base list     the base that refining gives, in ascending order; is_the_base: no other base is the coarsest one in ascending order
use Rattle.std.proofs.Common.{◌≡◌, ◌≢◌, ◌⊎◌, inl, inr, Bool, true, false, cond, ltb, ℕ, zero, suc, ◌*◌, ◌^◌, ◌<◌, ◌≤◌, List, [], ◌∷◌, refl, sym, ap, ap₂, subst, ◌∙◌, arith}
use Rattle.algebra.specs.Each.{Each}
use Rattle.algebra.specs.In.{In}
use Rattle.exponentials.specs.Base.{Ascending, Coprime, Divides, IsCoarsest, IsTheBase, IsProductOf, product}
use Prim.Native.Nat.{◌∣◌}
use native.Mathlib.Nat as N
use Rattle.algebra.specs.Gcd.{gcd}
use Rattle.algebra.proofs.GcdLaws as G
use Rattle.algebra.proofs.In.{each_in, each_from}
use Rattle.exponentials.proofs.Lists.{each_map}
use Rattle.exponentials.proofs.Coprimes as C
use Rattle.exponentials.proofs.PowerProducts.{Split, made_one, made_mul, made_in, made_split, made_trans}
use Rattle.exponentials.proofs.Refine.{refine, refine_ind, size, picked-each, each-picked, coprime-above}

pub divides_split : (list : List ℕ) → Split (Divides list)
divides_split list = record {
  common = λ g x y h h' e p q. record {
    number = p.number;
    within = p.within;
    divides = N.dvd_trans g (N.dvd-mul_right g x) p.divides;
  };
  quotient = λ g x y h h' e p q. record {
    number = p.number;
    within = p.within;
    divides = N.dvd_trans x (N.dvd-mul_left x g) p.divides;
  };
}

-- ---- what refining keeps
pub refine-coprime : (n : ℕ) (ws bs : List ℕ) → Each (λ w. 0 < w) ws → Coprime bs → size ws bs < n
    → Coprime (refine n ws bs)
refine-coprime = refine_ind (λ ws bs r. Coprime r) (λ bs c. c) (λ ws bs r h. h) (λ w ws bs r h. h)
    (λ g x y ws bs rest r p q e k h. h)

pub refine-made : (n : ℕ) (ws bs : List ℕ) → Each (λ w. 0 < w) ws → Coprime bs → size ws bs < n
    → Each (IsProductOf (refine n ws bs)) ws × Each (IsProductOf (refine n ws bs)) bs
unfolding Each
refine-made =
    refine_ind (λ ws bs r. Each (IsProductOf r) ws × Each (IsProductOf r) bs)
    (λ bs c. (tt, each_from bs (made_in bs)))
    (λ ws bs r h. ((made_one r, h.0), h.1))
    (λ w ws bs r h. ((h.1.0, h.0), h.1.1))
    (λ g x y ws bs rest r p q e k h. (
      (made_mul r g x h.0.1.0 h.0.0, h.0.1.1.1),
      each-picked (IsProductOf r) (g * y) rest bs k (made_mul r g y h.0.1.0 h.0.1.1.0) h.1,
    ))

pub refine-keeps : (P : ℕ → Type 0) → Split P → (n : ℕ) (ws bs : List ℕ) → Each (λ w. 0 < w) ws
    → Coprime bs → size ws bs < n → Each P ws → Each P bs → Each P (refine n ws bs)
unfolding Each
refine-keeps P s =
    refine_ind (λ ws bs r. Each P ws → Each P bs → Each P r)
    (λ bs c p q. q)
    (λ ws bs r h p q. h p.1 q)
    (λ w ws bs r h p q. h p.1 (p.0, q))
    (λ g x y ws bs rest r i j e k h p q.
    let both = picked-each P (g * y) rest bs k q in
    h (
      s.quotient g x y i j e p.0 both.0,
      (
        s.common g x y i j e p.0 both.0,
        (s.quotient g y x j i (G.gcd_comm (g * y) (g * x) ∙ e) both.0 p.0, p.1),
      ),
    ) both.1)

-- ---- existence
unfoldable pub base_of : List ℕ → List ℕ
base_of list = refine (suc (size list [])) list []

pub base_of-coarsest : (list : List ℕ) → Each (λ x. 0 < x) list → IsCoarsest list (base_of list)
unfolding base_of Each
base_of-coarsest list p = record {
  base = record {
    coprime = refine-coprime (suc (size list [])) list [] p tt (N.lt-suc_self (size list []));
    products = (refine-made (suc (size list [])) list [] p tt (N.lt-suc_self (size list []))).0;
  };
  coarsest = λ cs b. refine-keeps (IsProductOf cs) (made_split cs b.coprime) (suc (size list []))
      list [] p tt (N.lt-suc_self (size list [])) b.products tt;
}

pub base_of-divides : (list : List ℕ) → Each (λ x. 0 < x) list → Each (Divides list) (base_of list)
unfolding base_of Each
base_of-divides list p =
    refine-keeps (Divides list) (divides_split list) (suc (size list [])) list [] p tt
    (N.lt-suc_self (size list []))
    (each_from list (λ x i. record { number = x; within = i; divides = N.dvd_refl x })) tt

-- ---- uniqueness
pub coprime_pair : (bs : List ℕ) (b c : ℕ) → Coprime bs → In b bs → In c bs → (b ≡ c)
    ⊎ (gcd b c ≡ 1)
coprime_pair [] b c k i j = absurd i
coprime_pair (a ∷ bs) b c k i j = go i j (coprime_pair bs b c k.2)
  where
    go : In b (a ∷ bs) → In c (a ∷ bs) → (In b bs → In c bs → (b ≡ c) ⊎ (gcd b c ≡ 1)) → (b ≡ c)
        ⊎ (gcd b c ≡ 1)
    go (inl p) (inl q) r = inl (p ∙ sym q)
    go (inl p) (inr q) r = inr (ap (λ z. gcd z c) p ∙ each_in (λ z. gcd a z ≡ 1) bs c k.1 q)
    go (inr p) (inl q) r =
        inr (ap (gcd b) q ∙ C.coprime_sym a b (each_in (λ z. gcd a z ≡ 1) bs b k.1 p))
    go (inr p) (inr q) r = r p q

pub record Factor (cs : List ℕ) (x : ℕ) : Type 0 where
  pub number : ℕ
  pub within : In number cs
  pub divides : number ∣ x

factor_product : (cs e : List ℕ) → 1 < product cs e → Factor cs (product cs e)
factor_product [] e h = absurd (N.lt_irrefl 1 h)
factor_product (c ∷ cs) [] h = absurd (N.lt_irrefl 1 h)
factor_product (c ∷ cs) (zero ∷ e) h =
    let same : c ^ 0 * product cs e ≡ product cs e = ap (λ z. z * product cs e) (N.pow-zero c)
    ∙ N.one-mul (product cs e) in
    let r = factor_product cs e (subst (λ z. 1 < z) same h) in
    record {
      number = r.number;
      within = inr r.within;
      divides = subst (λ z. r.number ∣ z) (sym same) r.divides;
    }
factor_product (c ∷ cs) (suc n ∷ e) h = record {
  number = c;
  within = inl refl;
  divides = subst (λ z. c ∣ z) (sym (ap (λ z. z * product cs e) (N.pow-succ' c n)
      ∙ N.mul_assoc c (c ^ n) (product cs e))) (N.dvd-mul_right c (c ^ n * product cs e));
}

pub factor : (cs : List ℕ) (x : ℕ) → 1 < x → IsProductOf cs x → Factor cs x
factor cs x h m =
    subst (Factor cs) m.is (factor_product cs m.exponents (subst (λ z. 1 < z) (sym m.is) h))

pub base_in : (bs cs : List ℕ) → Coprime bs → Coprime cs → Each (IsProductOf cs) bs
    → Each (IsProductOf bs) cs → (b : ℕ) → In b bs → In b cs
base_in bs cs k l p q b i =
    let big = each_in (λ z. 1 < z) bs b (coprime-above bs k) i in
    let f = factor cs b big (each_in (IsProductOf cs) bs b p i) in
    let c = f.number in
    let g = factor bs c (each_in (λ z. 1 < z) cs c (coprime-above cs l) f.within)
    (each_in (IsProductOf bs) cs c q f.within) in
    let d = g.number in
    elim (coprime_pair bs b d k i g.within) [
      | inl e ↦ subst (λ z. In z cs)
          (N.dvd_antisymm f.divides (subst (λ z. z ∣ c) (sym e) g.divides)) f.within
      | inr e ↦
          let one : d ≡ 1 =
          N.eq-one_of_dvd-one (C.coprime_out b d d e (N.dvd_trans d g.divides f.divides)
          (N.dvd_refl d)) in
          absurd (N.lt_irrefl 1
          (subst (λ z. 1 < z) one (each_in (λ z. 1 < z) bs d (coprime-above bs k) g.within)))
    ]

pub ascending_same : (xs ys : List ℕ) → Ascending xs → Ascending ys → ((z : ℕ) → In z xs → In z ys)
    → ((z : ℕ) → In z ys → In z xs) → xs ≡ ys
ascending_same [] [] a b f g = refl
ascending_same [] (y ∷ ys) a b f g = absurd (g y (inl refl))
ascending_same (x ∷ xs) [] a b f g = absurd (f x (inl refl))
ascending_same (x ∷ xs) (y ∷ ys) a b f g =
    let tops : x ≡ y = go (f x (inl refl)) (g y (inl refl)) in
    ap₂ ◌∷◌ tops
    (ascending_same xs ys a.1 b.1
    (λ z i. elim (f z (inr i)) [
      | inl e ↦ (let l : x < z = each_in (λ w. x < w) xs z a.0 i in
          absurd (omega arith))
      | inr j ↦ j
    ])
    (λ z i. elim (g z (inr i)) [
      | inl e ↦ (let l : y < z = each_in (λ w. y < w) ys z b.0 i in
          absurd (omega arith))
      | inr j ↦ j
    ]))
  where
    go : In x (y ∷ ys) → In y (x ∷ xs) → x ≡ y
    go (inl e) j = e
    go (inr i) (inl e) = sym e
    go (inr i) (inr j) =
        let l : y < x = each_in (λ w. y < w) ys x b.0 i in
        let r : x < y = each_in (λ w. x < w) xs y a.0 j in
        absurd (omega arith)

pub coarsest_unique : (list bs cs : List ℕ) → IsCoarsest list bs → IsCoarsest list cs → Ascending bs
    → Ascending cs → bs ≡ cs
coarsest_unique list bs cs p q a b =
    let down : Each (IsProductOf cs) bs = p.coarsest cs q.base in
    let up : Each (IsProductOf bs) cs = q.coarsest bs p.base in
    ascending_same bs cs a b (base_in bs cs p.base.coprime q.base.coprime down up)
    (base_in cs bs q.base.coprime p.base.coprime up down)

-- ---- in ascending order
abbrev pub put : ℕ → List ℕ → List ℕ
put x [] = x ∷ []
put x (y ∷ ys) = cond (ltb x y) (x ∷ y ∷ ys) (y ∷ put x ys)

abbrev pub ascend : List ℕ → List ℕ
ascend [] = []
ascend (x ∷ xs) = put x (ascend xs)

-- a list as a set: what holds of each element
put-each : (P : ℕ → Type 0) (x : ℕ) (xs : List ℕ) → P x → Each P xs → Each P (put x xs)
unfolding Each
put-each P x [] p q = (p, tt)
put-each P x (y ∷ ys) p q = go (ltb x y) (put-each P x ys p q.1)
  where
    go : (b : Bool) → Each P (put x ys) → Each P (cond b (x ∷ y ∷ ys) (y ∷ put x ys))
    go true r = (p, q)
    go false r = (q.0, r)

each-put : (P : ℕ → Type 0) (x : ℕ) (xs : List ℕ) → Each P (put x xs) → P x × Each P xs
unfolding Each
each-put P x [] p = p
each-put P x (y ∷ ys) p = go (ltb x y) p (each-put P x ys)
  where
    go : (b : Bool) → Each P (cond b (x ∷ y ∷ ys) (y ∷ put x ys))
        → (Each P (put x ys) → P x × Each P ys) → P x × Each P (y ∷ ys)
    go true r h = (r.0, r.1)
    go false r h = let s = h r.1 in (s.0, (r.0, s.1))

pub ascend-each : (P : ℕ → Type 0) (xs : List ℕ) → Each P xs → Each P (ascend xs)
unfolding Each
ascend-each P [] p = tt
ascend-each P (x ∷ xs) p = put-each P x (ascend xs) p.0 (ascend-each P xs p.1)

pub each-ascend : (P : ℕ → Type 0) (xs : List ℕ) → Each P (ascend xs) → Each P xs
unfolding Each
each-ascend P [] p = tt
each-ascend P (x ∷ xs) p = let s = each-put P x (ascend xs) p in (s.0, each-ascend P xs s.1)

put-coprime : (x : ℕ) (xs : List ℕ) → 1 < x → Each (λ y. gcd x y ≡ 1) xs → Coprime xs
    → Coprime (put x xs)
unfolding Each
put-coprime x [] h p c = (h, tt, tt)
put-coprime x (y ∷ ys) h p c = go (ltb x y) (put-coprime x ys h p.1 c.2)
  where
    go : (b : Bool) → Coprime (put x ys) → Coprime (cond b (x ∷ y ∷ ys) (y ∷ put x ys))
    go true r = (h, p, c)
    go false r = (c.0, put-each (λ z. gcd y z ≡ 1) x ys (C.coprime_sym x y p.0) c.1, r)

pub ascend-coprime : (xs : List ℕ) → Coprime xs → Coprime (ascend xs)
ascend-coprime [] c = tt
ascend-coprime (x ∷ xs) c = put-coprime x (ascend xs) c.0 (ascend-each (λ y. gcd x y ≡ 1) xs c.1)
    (ascend-coprime xs c.2)

put-ascending : (x : ℕ) (xs : List ℕ) → Each (λ y. x ≢ y) xs → Ascending xs → Ascending (put x xs)
unfolding Each
put-ascending x [] p a = (tt, tt)
put-ascending x (y ∷ ys) p a = go (ltb x y) refl (put-ascending x ys p.1 a.1)
  where
    go : (b : Bool) → ltb x y ≡ b → Ascending (put x ys)
        → Ascending (cond b (x ∷ y ∷ ys) (y ∷ put x ys))
    go true e r = let l : x < y = grind arith in ((l, each_map ys (λ z h. omega arith) a.0), a)
    go false e r = let l : y ≤ x = grind arith in let n : x ≢ y = p.0 in let s : y < x =
        grind arith in (put-each (λ z. y < z) x ys s a.0, r)

pub ascend-ascending : (xs : List ℕ) → Coprime xs → Ascending (ascend xs)
ascend-ascending [] c = tt
ascend-ascending (x ∷ xs) c =
    put-ascending x (ascend xs)
    (ascend-each (λ y. x ≢ y) xs (each_map xs (λ y e p. differ y (ap (λ z. gcd z y) (sym p)
    ∙ e) p) c.1)) (ascend-ascending xs c.2)
  where
    differ : (y : ℕ) → gcd y y ≡ 1 → x ≡ y → ⊥
    differ y e p =
        let one : y ≡ 1 =
        N.eq-one_of_dvd-one (C.coprime_out y y y e (N.dvd_refl y) (N.dvd_refl y)) in
        let big : 1 < x = c.0 in
        absurd (omega arith)

pub made_ascend : (bs : List ℕ) (x : ℕ) → IsProductOf bs x → IsProductOf (ascend bs) x
made_ascend bs x p = made_trans bs (ascend bs) x p (each-ascend (IsProductOf (ascend bs)) bs
    (each_from (ascend bs) (made_in (ascend bs))))

-- ---- the base of a list, and what is said of it
unfoldable pub the_base : List ℕ → List ℕ
the_base list = ascend (base_of list)

pub the_base-ascending : (list : List ℕ) → Each (λ x. 0 < x) list → Ascending (the_base list)
unfolding the_base
the_base-ascending list p = ascend-ascending (base_of list) (base_of-coarsest list p).base.coprime

pub the_base-coarsest : (list : List ℕ) → Each (λ x. 0 < x) list → IsCoarsest list (the_base list)
unfolding the_base
the_base-coarsest list p =
    let b = base_of-coarsest list p in
    record {
      base = record {
        coprime = ascend-coprime (base_of list) b.base.coprime;
        products = each_map list (λ x m. made_ascend (base_of list) x m) b.base.products;
      };
      coarsest = λ cs q. ascend-each (IsProductOf cs) (base_of list) (b.coarsest cs q);
    }

pub the_base-divides : (list : List ℕ) → Each (λ x. 0 < x) list
    → Each (Divides list) (the_base list)
unfolding the_base
the_base-divides list p = ascend-each (Divides list) (base_of list) (base_of-divides list p)

pub the_base_unique : (list bs : List ℕ) → Each (λ x. 0 < x) list → IsCoarsest list bs
    → Ascending bs → bs ≡ the_base list
the_base_unique list bs p c a = coarsest_unique list bs (the_base list) c (the_base-coarsest list p)
    a (the_base-ascending list p)

-- that each number of a base divides one of the list isn't enough to be the coarsest: 2 and 3 are a
-- base of 4 and 9, as 4 and 9 are
computed : the_base (12 ∷ 18 ∷ 1 ∷ 50 ∷ 7 ∷ []) ≡ 2 ∷ 3 ∷ 7 ∷ 25 ∷ []
unfolding the_base base_of refine size gcd
computed = refl

pub the_base-is : (list : List ℕ) → Each (λ x. 0 < x) list → IsTheBase list (the_base list)
the_base-is list p = record {
  coarsest = the_base-coarsest list p;
  ascending = the_base-ascending list p;
  divides = the_base-divides list p;
}

pub is_the_base : (list bs : List ℕ) → Each (λ x. 0 < x) list → IsTheBase list bs
    → bs ≡ the_base list
is_the_base list bs p b = the_base_unique list bs p b.coarsest b.ascending
