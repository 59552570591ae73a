-- Lists of numbers in their order.
--   less_irrefl, less_total      of lists of one length: none is less than itself, and of two that
--                                differ one is less
--   less_behind                  less than a list with one number more: less in front, or the same
--                                there and less at the end
--   first_less, rest_less        a list is less by its first number, and by what is behind the same one
--   less_cases                   and only so
--   earlier_irrefl, earlier_total, earlier_asym      the same of words, and no two are before each other
use Rattle.std.proofs.Common.{◌≡◌, ◌⊎◌, inl, inr, ℕ, zero, suc, ◌<◌, List, [], ◌∷◌, ◌++◌, length, refl, sym, ap, ap₂, ◌∙◌, arith, Ordering, Less, Equal, Greater, nat_cmp, subst}
use Rattle.std.specs.Ordering.{ordering_then}
use Rattle.std.specs.Cmp.Lexicographic.{slice_cmp}
use Rattle.std.proofs.lemmas.Cmp.{ranked, by_ranked}
use Rattle.corollaries.specs.Word.{IsLess, IsEarlier}

-- by the first numbers
then_case : (o r : Ordering) → ordering_then o r ≡ Less → (o ≡ Less) ⊎ ((o ≡ Equal) × (r ≡ Less))
then_case Less r h = inl refl
then_case Equal r h = inr (refl, h)
then_case Greater r h = absurd (cc)

pub first_less : (x y : ℕ) (xs ys : List ℕ) → x < y → IsLess (x ∷ xs) (y ∷ ys)
first_less x y xs ys l = by_ranked (x < y) (x ≡ y) (y < x) (nat_cmp x y) (ranked x y _ refl)
    (λ o lt. ap (λ c. ordering_then c (slice_cmp nat_cmp xs ys)) o)
    (λ o is. absurd (omega arith))
    (λ o gt. absurd (omega arith))

same_first : (x : ℕ) → nat_cmp x x ≡ Equal
same_first x = by_ranked (x < x) (x ≡ x) (x < x) (nat_cmp x x) (ranked x x _ refl)
    (λ o lt. absurd (omega arith))
    (λ o is. o)
    (λ o gt. absurd (omega arith))

pub rest_less : (x : ℕ) (xs ys : List ℕ) → IsLess xs ys → IsLess (x ∷ xs) (x ∷ ys)
rest_less x xs ys h = ap (λ c. ordering_then c (slice_cmp nat_cmp xs ys)) (same_first x) ∙ h

pub less_cases : (x y : ℕ) (xs ys : List ℕ) → IsLess (x ∷ xs) (y ∷ ys)
    → (x < y) ⊎ ((x ≡ y) × IsLess xs ys)
less_cases x y xs ys h = go (then_case (nat_cmp x y) (slice_cmp nat_cmp xs ys) h)
  where
    go : (nat_cmp x y ≡ Less) ⊎ ((nat_cmp x y ≡ Equal) × IsLess xs ys)
        → (x < y) ⊎ ((x ≡ y) × IsLess xs ys)
    go (inl e) =
        by_ranked (x < y) (x ≡ y) (y < x) (nat_cmp x y) (ranked x y _ refl) (λ o lt. inl lt)
        (λ o is. absurd (let f : ⊥ = cc in f)) (λ o gt. absurd (let f : ⊥ = cc in f))
    go (inr e) =
        by_ranked (x < y) (x ≡ y) (y < x) (nat_cmp x y) (ranked x y _ refl) (λ o lt. inl lt)
        (λ o is. inr (is, e.1))
        (λ o gt. absurd (let i : nat_cmp x y ≡ Equal = e.0 in let f : ⊥ = cc in f))

pub less_irrefl : (xs : List ℕ) → IsLess xs xs → ⊥
less_irrefl [] h = cc
less_irrefl (x ∷ xs) h = go (less_cases x x xs xs h) (less_irrefl xs)
  where
    go : (x < x) ⊎ ((x ≡ x) × IsLess xs xs) → (IsLess xs xs → ⊥) → ⊥
    go (inl l) ih = omega arith
    go (inr r) ih = ih r.1

pub less_asym : (xs ys : List ℕ) → IsLess xs ys → IsLess ys xs → ⊥
less_asym [] [] h k = cc
less_asym [] (y ∷ ys) h k = cc
less_asym (x ∷ xs) [] h k = cc
less_asym (x ∷ xs) (y ∷ ys) h k =
    go (less_cases x y xs ys h) (less_cases y x ys xs k) (less_asym xs ys)
  where
    go : (x < y) ⊎ ((x ≡ y) × IsLess xs ys) → (y < x) ⊎ ((y ≡ x) × IsLess ys xs)
        → (IsLess xs ys → IsLess ys xs → ⊥) → ⊥
    go (inl a) (inl b) ih = omega arith
    go (inl a) (inr b) ih = let e : y ≡ x = b.0 in omega arith
    go (inr a) (inl b) ih = let e : x ≡ y = a.0 in omega arith
    go (inr a) (inr b) ih = ih a.1 b.1

pub less_total : (xs ys : List ℕ) → length xs ≡ length ys
    → IsLess xs ys ⊎ ((xs ≡ ys) ⊎ IsLess ys xs)
less_total [] [] l = inr (inl refl)
less_total [] (y ∷ ys) l = absurd (omega arith)
less_total (x ∷ xs) [] l = absurd (omega arith)
less_total (x ∷ xs) (y ∷ ys) l = by_ranked (x < y) (x ≡ y) (y < x) (nat_cmp x y) (ranked x y _ refl)
    (λ o lt. inl (first_less x y xs ys lt))
    (λ o is. go is (less_total xs ys (omega arith)))
    (λ o gt. inr (inr (first_less y x ys xs gt)))
  where
    go : x ≡ y → IsLess xs ys ⊎ ((xs ≡ ys) ⊎ IsLess ys xs)
        → IsLess (x ∷ xs) (y ∷ ys) ⊎ ((x ∷ xs ≡ y ∷ ys) ⊎ IsLess (y ∷ ys) (x ∷ xs))
    go is (inl h) = inl (subst (λ z. IsLess (x ∷ xs) (z ∷ ys)) is (rest_less x xs ys h))
    go is (inr (inl e)) = inr (inl (ap₂ ◌∷◌ is e))
    go is (inr (inr h)) = inr (inr (subst (λ z. IsLess (z ∷ ys) (x ∷ xs)) is (rest_less x ys xs h)))

-- a list with a last number
record HasLast (zs : List ℕ) (k : ℕ) : Type 0 where
  prefix : List ℕ
  last : ℕ
  is : zs ≡ prefix ++ last ∷ []
  count : length prefix ≡ k

last_of : (zs : List ℕ) (k : ℕ) → length zs ≡ suc k → HasLast zs k
last_of [] k l = absurd (omega arith)
last_of (z ∷ []) k l = record { prefix = []; last = z; is = refl; count = omega arith }
last_of (z ∷ y ∷ zs) zero l = absurd (omega arith)
last_of (z ∷ y ∷ zs) (suc k) l =
    let r = last_of (y ∷ zs) k (omega arith) in
    record {
      prefix = z ∷ r.prefix;
      last = r.last;
      is = ap (λ u. z ∷ u) r.is;
      count = ap suc r.count;
    }

-- a list that is less than one with a last number
pub record IsSplit (zs : List ℕ) (xs : List ℕ) (n : ℕ) : Type 0 where
  pub prefix : List ℕ
  pub last : ℕ
  pub is : zs ≡ prefix ++ last ∷ []
  pub count : length prefix ≡ length xs
  pub less : IsLess prefix xs ⊎ ((prefix ≡ xs) × (last < n))

one_less : (y n : ℕ) → IsLess (y ∷ []) (n ∷ []) → y < n
one_less y n h = go (less_cases y n [] [] h)
  where
    go : (y < n) ⊎ ((y ≡ n) × IsLess [] []) → y < n
    go (inl l) = l
    go (inr r) = absurd (less_irrefl [] r.1)

pub less_behind : (zs xs : List ℕ) (n : ℕ) → length zs ≡ suc (length xs) → IsLess zs (xs ++ n ∷ [])
    → IsSplit zs xs n
less_behind [] xs n l h = absurd (omega arith)
less_behind (z ∷ []) [] n l h =
    record { prefix = []; last = z; is = refl; count = refl; less = inr (refl, one_less z n h) }
less_behind (z ∷ y ∷ zs) [] n l h = absurd (omega arith)
less_behind (z ∷ zs) (x ∷ xs) n l h =
    go (less_cases z x zs (xs ++ n ∷ []) h) (λ k. less_behind zs xs n (omega arith) k)
  where
    with_front : (s : List ℕ) (y : ℕ) → zs ≡ s ++ y ∷ [] → length s ≡ length xs
        → IsLess (z ∷ s) (x ∷ xs) ⊎ ((z ∷ s ≡ x ∷ xs) × (y < n)) → IsSplit (z ∷ zs) (x ∷ xs) n
    with_front s y e c k =
        record { prefix = z ∷ s; last = y; is = ap (λ r. z ∷ r) e; count = ap suc c; less = k }

    behind : z ≡ x → IsSplit zs xs n → IsSplit (z ∷ zs) (x ∷ xs) n
    behind e s = with_front s.prefix s.last s.is s.count (cases s.less)
      where
        cases : IsLess s.prefix xs ⊎ ((s.prefix ≡ xs) × (s.last < n))
            → IsLess (z ∷ s.prefix) (x ∷ xs) ⊎ ((z ∷ s.prefix ≡ x ∷ xs) × (s.last < n))
        cases (inl k) =
            inl (subst (λ u. IsLess (z ∷ s.prefix) (u ∷ xs)) e (rest_less z s.prefix xs k))
        cases (inr k) = inr (ap₂ ◌∷◌ e k.0, k.1)

    go : (z < x) ⊎ ((z ≡ x) × IsLess zs (xs ++ n ∷ []))
        → (IsLess zs (xs ++ n ∷ []) → IsSplit zs xs n) → IsSplit (z ∷ zs) (x ∷ xs) n
    go (inl lt) ih =
        let s = last_of zs (length xs) (omega arith) in
        with_front s.prefix s.last s.is s.count (inl (first_less z x s.prefix xs lt))
    go (inr k) ih = behind k.0 (ih k.1)

-- ---- words
pub earlier_irrefl : (w : List ℕ) → IsEarlier w w → ⊥
earlier_irrefl w (inl l) = omega arith
earlier_irrefl w (inr r) = less_irrefl w r.1

pub earlier_asym : (v w : List ℕ) → IsEarlier v w → IsEarlier w v → ⊥
earlier_asym v w (inl a) (inl b) = omega arith
earlier_asym v w (inl a) (inr b) = let e : length w ≡ length v = b.0 in omega arith
earlier_asym v w (inr a) (inl b) = let e : length v ≡ length w = a.0 in omega arith
earlier_asym v w (inr a) (inr b) = less_asym v w a.1 b.1

pub earlier_total : (v w : List ℕ) → IsEarlier v w ⊎ ((v ≡ w) ⊎ IsEarlier w v)
earlier_total v w = go (cases (length v) (length w))
  where
    cases : (m n : ℕ) → (m < n) ⊎ ((m ≡ n) ⊎ (n < m))
    cases m n = grind arith

    same : length v ≡ length w → IsLess v w ⊎ ((v ≡ w) ⊎ IsLess w v)
        → IsEarlier v w ⊎ ((v ≡ w) ⊎ IsEarlier w v)
    same l (inl h) = inl (inr (l, h))
    same l (inr (inl e)) = inr (inl e)
    same l (inr (inr h)) = inr (inr (inr (sym l, h)))

    go : (length v < length w) ⊎ ((length v ≡ length w) ⊎ (length w < length v))
        → IsEarlier v w ⊎ ((v ≡ w) ⊎ IsEarlier w v)
    go (inl l) = inl (inl l)
    go (inr (inl e)) = same e (less_total v w e)
    go (inr (inr l)) = inr (inr (inl l))
