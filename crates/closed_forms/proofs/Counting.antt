-- How many numbers a base has at most.
--   base_few        pairwise coprime numbers above 1, each of which divides one of at most 24 numbers below 2^127
--   values_few, twelve_values      the values of all classes are at most as many as variables
use Rattle.std.proofs.Common.{◌≡◌, inl, inr, ℕ, zero, suc, ◌+◌, ◌*◌, ◌/◌, ◌^◌, ◌<◌, ◌≤◌, List, [], ◌∷◌, ◌++◌, length, get_or, All, Option, Some, None, refl, sym, ap, ap₂, subst, ◌∙◌, arith, ltb→lt}
use Prim.Native.Nat.{◌∣◌}
use native.Mathlib.Nat as N
use Rattle.std.proofs.Math.Nat.{mul-le-mul}
use Rattle.std.proofs.lemmas.Bool.{cases_lt}
use Rattle.std.proofs.lemmas.List.{length-append}
use Rattle.algebra.specs.Each.{Each}
use Rattle.algebra.specs.In.{In}
use Rattle.algebra.proofs.Each.{each-append, each_weaker}
use Rattle.algebra.proofs.In.{in_either, each_from}
use Rattle.algebra.specs.Gcd.{gcd}
use Rattle.algebra.proofs.Coprime.{coprime_from, coprime-mul}
use Rattle.algebra.proofs.GcdLaws.{dvd_from_coprime}
use Rattle.exponentials.specs.Base.{Coprime, Ascending, Divides, IsTheBase}
use Rattle.exponentials.proofs.Refine.{all, all-pos, coprime-above}
use Rattle.expansion.proofs.Counting.{power_some}
use Rattle.polynomials.specs.Terms.{Terms}
use Rattle.algebra.specs.Fraction.{Fraction}
use Rattle.solvable_maps.specs.Class.{Above, Ascends}
use Rattle.solvable_maps.specs.Uses.{IsMap}
use Rattle.solvable_maps.proofs.Cycles.{Once, once_short}
use Rattle.linear.specs.Rows.{fractions_of}
use Rattle.poly.specs.Seen.{terms_each}
use Rattle.solvable.proofs.Using.{FracPoly, length_each}
use Rattle.eigen_split.specs.declared.splitting.Split.{Split}
use Rattle.solvable_maps.specs.Classes.{IsClass, first_of}
use Rattle.solvable_maps.proofs.Classwise.{class_shared}
use Rattle.closed_forms.specs.Splits.{IsSplitAt, AreSplits}
use Rattle.closed_forms.specs.Values.{values_in}
use Rattle.closed_forms.proofs.Splitting.{map_of}

-- ---- the product of a list
part_divides : (list : List ℕ) (n : ℕ) → In n list → n ∣ all list
part_divides [] n h = absurd h
part_divides (x ∷ list) n (inl e) = subst (λ y. n ∣ y * all list) e (N.dvd-mul_right n (all list))
part_divides (x ∷ list) n (inr h) = N.dvd-mul_left_of_dvd n (part_divides list n h) x

apart : (b : ℕ) (bs : List ℕ) → Each (λ c. gcd b c ≡ 1) bs → gcd b (all bs) ≡ 1
unfolding Each
apart b [] h = coprime_from b 1 (λ d p q. N.eq-one_of_dvd-one q)
apart b (c ∷ bs) h = coprime-mul b c (all bs) h.0 (apart b bs h.1)

both_divide : (x y n : ℕ) → gcd x y ≡ 1 → x ∣ n → y ∣ n → x * y ∣ n
both_divide x y n g p q =
    let whole : x * (n / x) ≡ n = N.mul-div_cancel' x p in
    let rest : y ∣ n / x = dvd_from_coprime x y (n / x) g (subst (λ z. y ∣ z) (sym whole
    ∙ N.mul_comm x (n / x)) q) in
    subst (λ z. x * y ∣ z) whole (N.mul-dvd-mul_left y x rest)

all_divide : (bs : List ℕ) (n : ℕ) → Coprime bs → Each (λ b. b ∣ n) bs → all bs ∣ n
unfolding Each
all_divide [] n c h = N.one-dvd n
all_divide (b ∷ bs) n c h = both_divide b (all bs) n (apart b bs c.1) h.0 (all_divide bs n c.2 h.1)

-- ---- ascending numbers above k
abbrev rising : ℕ → ℕ → ℕ
rising k zero = 1
rising k (suc m) = suc k * rising (suc k) m

above_zero : (k : ℕ) (bs : List ℕ) → Each (λ b. k < b) bs → Each (λ b. 0 < b) bs
above_zero k bs h = each_weaker (λ b. k < b) (λ b. 0 < b) (λ b l. omega (arith, l)) bs h

rising_least : (m k : ℕ) (bs : List ℕ) → m ≤ length bs → Each (λ b. k < b) bs → Ascending bs
    → rising k m ≤ all bs
unfolding Each
rising_least zero k bs l h a = (let s = all-pos bs (above_zero k bs h) in omega (arith, s))
rising_least (suc m) k [] l h a = absurd (omega (arith, l))
rising_least (suc m) k (b ∷ bs) l h a =
    let low : suc k ≤ b = (let f = h.0 in omega (arith, f)) in
    mul-le-mul low (rising_least m (suc k) bs (omega (arith, l)) (each_weaker (λ c. b < c)
    (λ c. suc k < c) (λ c i. omega (arith, i, low)) bs a.0) a.1)

-- ---- numbers below a bound
all_low : (w k : ℕ) (list : List ℕ) → 0 < w → length list ≤ k → Each (λ n. n < w) list
    → all list ≤ w ^ k
unfolding Each
all_low w k [] s l h = (let t = power_some w k s in omega (arith, t))
all_low w zero (n ∷ list) s l h = absurd (omega (arith, l))
all_low w (suc k) (n ∷ list) s l h = subst (λ m. n * all list ≤ m) (sym (N.pow-succ' w k))
    (mul-le-mul (let low = h.0 in omega (arith, low)) (all_low w k list s (omega (arith, l)) h.1))

-- ---- a base
between : (m limit n t r p : ℕ) → (limit ≤ m → r ≤ p) → p ≤ n → n ≤ t → t < r → m < limit
between m limit n t r p up down low big = elim (cases_lt m limit) [
  | inl l ↦ l
  | inr g ↦ absurd (let u = up g in omega (arith, u, down, low, big))
]

big : (2 ^ 127) ^ 24 < rising 1 500
big = ltb→lt ((2 ^ 127) ^ 24) (rising 1 500) tt

few_among : (w k limit : ℕ) (list bs : List ℕ) → 0 < w → w ^ k < rising 1 limit
    → length list ≤ k → Each (λ n. 0 < n) list → Each (λ n. n < w) list → IsTheBase list bs
    → length bs < limit
few_among w k limit list bs s b l some low is =
    let coprime = is.coarsest.base.coprime in
    between (length bs) limit (all list) (w ^ k) (rising 1 limit) (all bs)
    (λ g. rising_least limit 1 bs g (coprime-above bs coprime) is.ascending)
    (N.le_of_dvd (all-pos list some) (all_divide bs (all list) coprime
    (each_weaker (Divides list) (λ x. x ∣ all list) (λ x d.
    N.dvd_trans x d.divides (part_divides list d.number d.within)) bs is.divides)))
    (all_low w k list s l low) b

pub base_few : (list bs : List ℕ) → length list ≤ 24 → Each (λ n. 0 < n) list
    → Each (λ n. n < 2 ^ 127) list → IsTheBase list bs → length bs < 500
base_few list bs l some low is = few_among (2 ^ 127) 24 500 list bs (omega arith) big l some low is

-- ---- numbers below m, none of them twice
first_low : (m x : ℕ) (xs : List ℕ) → Each (λ x. x < m) (x ∷ xs) → (x < m) × Each (λ x. x < m) xs
unfolding Each
first_low m x xs h = h

short : (m : ℕ) (P : List ℕ → Type 0) → ((xs : List ℕ) → Once xs → P xs → length xs ≤ m) → P []
    → ((x : ℕ) (xs : List ℕ) → x < m → P xs → P (x ∷ xs)) → (xs : List ℕ) → Once xs
    → Each (λ x. x < m) xs → length xs ≤ m
short m P few none more xs once low = few xs once (along xs low)
  where
    along : (xs : List ℕ) → Each (λ x. x < m) xs → P xs
    along [] h = none
    along (x ∷ xs) h = (let l = first_low m x xs h in more x xs l.0 (along xs l.1))

once_below : (m : ℕ) (xs : List ℕ) → Once xs → Each (λ x. x < m) xs → length xs ≤ m
once_below m xs once low = short m _ (once_short m) tt (λ x ys l h. (l, h)) xs once low

above_later : (i : ℕ) (js : List ℕ) → Above i js → (j : ℕ) → In j js → i < j
above_later i [] a j h = absurd h
above_later i (k ∷ js) a j (inl e) = (let l = a.0 in omega (arith, l, e))
above_later i (k ∷ js) a j (inr h) = above_later i js a.1 j h

ascending_once : (g : List ℕ) → Ascends g → Once g
ascending_once [] a = tt
ascending_once (i ∷ g) a = (
  (λ h. let l = above_later i g a.0 i h in omega (arith, l)),
  ascending_once g a.1,
)

once-append : (xs ys : List ℕ) → Once xs → Once ys → ((i : ℕ) → In i xs → In i ys → ⊥)
    → Once (xs ++ ys)
once-append [] ys o p apart = p
once-append (x ∷ xs) ys o p apart = (
  λ h. elim (in_either x xs ys h) [ inl a ↦ o.0 a | inr b ↦ apart x (inl refl) b ],
  once-append xs ys o.1 p (λ i a b. apart i (inr a) b),
)

-- ---- the variables of the classes whose first one is not before a place
module _ {images : List (Terms Fraction)} (is : IsMap (length images) images) where
  record Owned (k : ℕ) (splits : List (Option Split)) : Type 0 where
    own : List ℕ
    once : Once own
    low : Each (λ i. i < length images) own
    later : (i : ℕ) → In i own → (g : List ℕ) × IsClass images g × In i g × (k ≤ first_of g)
    size : length (values_in splits) ≡ length own

  owned_none : (k : ℕ) → Owned k []
  unfolding Each
  owned_none k = record { own = []; once = tt; low = tt; later = λ i h. absurd h; size = refl }

  owned_skip : (k : ℕ) (splits : List (Option Split)) → Owned (suc k) splits
      → Owned k (None ∷ splits)
  owned_skip k splits h = record {
    own = h.own;
    once = h.once;
    low = h.low;
    later = λ i a. (let r = h.later i a in let l = r.3 in (r.0, r.1, r.2, omega (arith, l)));
    size = h.size;
  }

  owned_more : (k : ℕ) (splits : List (Option Split)) (split : Split) (g : List ℕ)
      → IsClass images g → first_of g ≡ k → length (fractions_of split.values.items) ≡ length g
      → Owned (suc k) splits → Owned k (Some split ∷ splits)
  owned_more k splits split g class first n h = record {
    own = g ++ h.own;
    once = once-append g h.own (ascending_once g class.is.ascends) h.once apart;
    low = each-append (λ i. i < length images) g h.own
        (each_from g (λ j i. (class.is.inside j i).0)) h.low;
    later = λ i a. elim (in_either i g h.own a) [
      | inl b ↦ (g, class, b, (omega (arith, first)))
      | inr b ↦ (let r = h.later i b in let l = r.3 in (r.0, r.1, r.2, omega (arith, l)))
    ];
    size = length-append (fractions_of split.values.items) (values_in splits)
        ∙ ap₂ (λ a b. a + b) n h.size ∙ sym (length-append g h.own);
  }
    where
      apart : (i : ℕ) → In i g → In i h.own → ⊥
      apart i a b =
          let r = h.later i b in
          let l = r.3 in
          let same = ap first_of (class_shared images is g r.0 class r.1 i a r.2) in
          omega (arith, l, same, first)

  owned : (k : ℕ) (splits : List (Option Split)) → ((j : ℕ) (d : Option Split) → j < length splits
      → IsSplitAt images (k + j) (get_or splits j d)) → Owned k splits
  owned k [] h = owned_none k
  owned k (found ∷ splits) h = go found (h 0 None (omega arith)) (owned (suc k) splits (λ j d l.
      subst (λ i. IsSplitAt images i (get_or splits j d)) (let e : k + suc j ≡ suc k + j =
      omega arith in e) (h (suc j) d (omega (arith, l)))))
    where
      go : (found : Option Split) → IsSplitAt images (k + 0) found → Owned (suc k) splits
          → Owned k (found ∷ splits)
      go None own rest = owned_skip k splits rest
      go (Some split) own rest = (let r = own.only split refl in owned_more k splits split r.0 r.1
          (let e = r.2 in omega (arith, e)) r.3.are.value_count rest)

  pub values_few : (splits : List (Option Split)) → AreSplits images splits
      → length (values_in splits) ≤ length images
  values_few splits h =
      let o = owned 0 splits (λ j d l. subst (λ i. IsSplitAt images i (get_or splits j d))
      (let e : j ≡ 0 + j = omega arith in e) (h.each j d l)) in
      let low = once_below (length images) o.own o.once o.low in
      let size = o.size in
      omega (arith, low, size)

pub twelve_values : (images : List FracPoly) → length images ≤ 12
    → All (λ (p : FracPoly). p.arity ≡ length images) images → {splits : List (Option Split)}
    → AreSplits (terms_each images) splits → length (values_in splits) ≤ 12
twelve_values images few square {splits = splits} h =
    let m = length_each images in
    let low = values_few (map_of images square) splits h in
    omega (arith, few, m, low)
