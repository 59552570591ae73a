-- The variables after a branch don't depend on what its local names were before, if it sets each before it uses it.
--   no_value          any values before the branch
--   no_local_names    without local names an effect is what the statements do
--   sets_no_locals    without local names a branch sets each before it uses it
use Rattle.std.proofs.Common.{◌≡◌, ◌≢◌, ◌⊎◌, inl, inr, ℕ, zero, suc, ◌+◌, ◌<◌, ◌≤◌, Bool, true, false, not, ◌&&◌, ◌||◌, ◌==◌, List, [], ◌∷◌, ◌++◌, map, get_or, set, take, replicate, length, arith, refl, sym, ap, ap₂, ◌∙◌, All, eq-eqb}
use Rattle.std.proofs.lemmas.Bool.{eqb-true, or_from}
use Rattle.std.proofs.lemmas.List.{append-nil, get_or_past, length-append, length-map, length-replicate, length-set, take_all}
use Rattle.std.proofs.lemmas.List.Elements.{All-head, All-tail, All-weaker}
use Rattle.std.proofs.lemmas.Map.Views.{any-filter_same}
use Rattle.algebra.specs.In.{In}
use Rattle.algebra.specs.Arithmetic as numeral
use Rattle.algebra.specs.Fraction.{Fraction, ℚ, whole, inverse}
use Rattle.loops.specs.Program.{Expr, number, variable, neg, add, sub, mul, divide, power, Statement, Program}
use Rattle.loops.specs.Effect.{store, value_of, after_statement, after_branch}
use Rattle.loops.specs.Run.{effect, IsState}
use Rattle.loops.specs.WellFormed.{Uses, IsStatement, is_among, local_places, still_unset, SetsFirst}
use Rattle.loops.proofs.Effects.{length-statement, length-branch}
use Rattle.loops.proofs.Starts.{uses_weaker}

-- ---- lists that are the same at some places
set_same : {A : Type 0} (s t : List A) (i j : ℕ) (x d : A) → length s ≡ length t
    → (get_or s j d ≡ get_or t j d) ⊎ (j ≡ i) → get_or (set s i x) j d ≡ get_or (set t i x) j d
set_same [] [] i j x d l h = refl
set_same [] (z ∷ t) i j x d l h = absurd (omega (arith, l))
set_same (y ∷ s) [] i j x d l h = absurd (omega (arith, l))
set_same (y ∷ s) (z ∷ t) zero zero x d l h = refl
set_same (y ∷ s) (z ∷ t) zero (suc j) x d l (inl h) = h
set_same (y ∷ s) (z ∷ t) zero (suc j) x d l (inr e) = absurd (omega (arith, e))
set_same (y ∷ s) (z ∷ t) (suc i) zero x d l (inl h) = h
set_same (y ∷ s) (z ∷ t) (suc i) zero x d l (inr e) = absurd (omega (arith, e))
set_same (y ∷ s) (z ∷ t) (suc i) (suc j) x d l (inl h) = set_same s t i j x d (omega (arith, l))
    (inl h)
set_same (y ∷ s) (z ∷ t) (suc i) (suc j) x d l (inr e) = set_same s t i j x d (omega (arith, l))
    (inr (omega (arith, e)))

store_same : {A : Type 0} (is : List ℕ) (xs s t : List A) (j : ℕ) (d : A) → length is ≡ length xs
    → length s ≡ length t → (get_or s j d ≡ get_or t j d) ⊎ In j is → get_or (store is xs s) j d
    ≡ get_or (store is xs t) j d
unfolding store
store_same [] xs s t j d n l (inl h) = h
store_same [] xs s t j d n l (inr h) = absurd h
store_same (i ∷ is) [] s t j d n l h = absurd (omega (arith, n))
store_same (i ∷ is) (x ∷ xs) s t j d n l (inl h) =
    store_same is xs (set s i x) (set t i x) j d (omega (arith, n)) (length-set s i x ∙ l
    ∙ sym (length-set t i x)) (inl (set_same s t i j x d l (inl h)))
store_same (i ∷ is) (x ∷ xs) s t j d n l (inr (inl e)) =
    store_same is xs (set s i x) (set t i x) j d (omega (arith, n)) (length-set s i x ∙ l
    ∙ sym (length-set t i x)) (inl (set_same s t i j x d l (inr e)))
store_same (i ∷ is) (x ∷ xs) s t j d n l (inr (inr h)) =
    store_same is xs (set s i x) (set t i x) j d (omega (arith, n)) (length-set s i x ∙ l
    ∙ sym (length-set t i x)) (inr h)

take_same : {A : Type 0} (m : ℕ) (s t : List A) (d : A) → length s ≡ length t
    → ((i : ℕ) → i < m → get_or s i d ≡ get_or t i d) → take m s ≡ take m t
take_same zero s t d l h = refl
take_same (suc m) [] [] d l h = refl
take_same (suc m) [] (y ∷ t) d l h = absurd (omega (arith, l))
take_same (suc m) (x ∷ s) [] d l h = absurd (omega (arith, l))
take_same (suc m) (x ∷ s) (y ∷ t) d l h =
    ap₂ ◌∷◌ (h 0 (omega arith)) (take_same m s t d (omega (arith, l)) (λ i k.
    h (suc i) (omega (arith, k))))

front_same : {A : Type 0} (s l r : List A) (i : ℕ) (d : A) → i < length s
    → get_or (s ++ l) i d ≡ get_or (s ++ r) i d
front_same [] l r i d h = absurd (omega (arith, h))
front_same (x ∷ s) l r zero d h = refl
front_same (x ∷ s) l r (suc i) d h = front_same s l r i d (omega (arith, h))

-- ---- what is unset
in_among : (is : List ℕ) (i : ℕ) → is_among is i ≡ true → In i is
in_among [] i h = absurd (cc)
in_among (j ∷ is) i h = go (j == i) refl h (in_among is i)
  where
    go : (b : Bool) → (j == i) ≡ b → (b || is_among is i) ≡ true → (is_among is i ≡ true → In i is)
        → In i (j ∷ is)
    go true e h rest = inl (sym (eqb-true j i e))
    go false e h rest = inr (rest h)

pub among_still : (targets unset : List ℕ) (i : ℕ) → is_among (still_unset targets unset) i
    ≡ (not (is_among targets i) && is_among unset i)
among_still targets unset i = any-filter_same (λ j. j == i) (λ j. not (is_among targets j))
    (not (is_among targets i)) (λ j e. ap (λ n. not (is_among targets n)) (eqb-true j i e)) unset

-- what isn't unset behind a statement was set by it, or wasn't before
set_or_before : (targets unset : List ℕ) (i : ℕ) → is_among (still_unset targets unset) i ≡ false
    → (is_among unset i ≡ false) ⊎ In i targets
set_or_before targets unset i h = go (is_among targets i) refl (sym (among_still targets unset i)
    ∙ h)
  where
    go : (b : Bool) → is_among targets i ≡ b → (not b && is_among unset i) ≡ false
        → (is_among unset i ≡ false) ⊎ In i targets
    go true e h = inr (in_among targets i e)
    go false e h = inl h

among_places : (m k i : ℕ) → m ≤ i → i < m + k → is_among (local_places m k) i ≡ true
unfolding local_places
among_places m zero i l h = absurd (omega (arith, l, h))
among_places m (suc k) i l h = go (m == i) refl (λ d. among_places (suc m) k i d (omega (arith, h)))
  where
    go : (b : Bool) → (m == i) ≡ b → (suc m ≤ i → is_among (local_places (suc m) k) i ≡ true)
        → (b || is_among (local_places (suc m) k) i) ≡ true
    go true e rest = refl
    go false e rest = let other : m ≢ i = λ q. let y : (m == i) ≡ true = eq-eqb m i q in
        let no : true ≡ false = sym y ∙ e in cc in
        rest (grind (arith, l, other))

-- ---- values and states
abbrev At_both : List Fraction → List Fraction → ℕ → Type 0
At_both s t i = get_or s i ℚ.zero ≡ get_or t i ℚ.zero

-- s and t agree at what isn't unset
abbrev Agree : List Fraction → List Fraction → List ℕ → Type 0
Agree s t unset = (i : ℕ) → is_among unset i ≡ false → At_both s t i

-- nothing below m is unset
abbrev Above : ℕ → List ℕ → Type 0
Above m unset = (i : ℕ) → i < m → is_among unset i ≡ false

above_still : (m : ℕ) (targets unset : List ℕ) → Above m unset → Above m (still_unset targets unset)
above_still m targets unset h = λ i l. among_still targets unset i
    ∙ and_false (not (is_among targets i)) (is_among unset i) (h i l)
  where
    and_false : (a b : Bool) → b ≡ false → (a && b) ≡ false
    and_false true b e = e
    and_false false b e = refl

not_same : (i j : ℕ) → i ≢ j → (i == j) ≡ false
not_same i j n = go (i == j) refl
  where
    go : (b : Bool) → (i == j) ≡ b → (i == j) ≡ false
    go true e = absurd (n (eqb-true i j e))
    go false e = e

above_places : (m j k : ℕ) → m ≤ j → Above m (local_places j k)
unfolding local_places
above_places m j zero l i h = refl
above_places m j (suc k) l i h = or_from (j == i) (is_among (local_places (suc j) k) i)
    (not_same j i (λ e. omega (arith, e, l, h))) (above_places m (suc j) k (omega (arith, l)) i h)

abbrev IsSet : List ℕ → ℕ → Type 0
IsSet unset i = is_among unset i ≡ false

module _ {At : Type 0} (m n : ℕ) where
  same_value : (s t : List Fraction) (unset : List ℕ) → Agree s t unset → (e : Expr At)
      → Uses (IsSet unset) e → value_of ℚ (λ c. c) s e ≡ value_of ℚ (λ c. c) t e
  unfolding Uses value_of
  same_value s t unset h (number n) u = refl
  same_value s t unset h (variable i) u = h i u
  same_value s t unset h (neg at e) u = ap ℚ.neg (same_value s t unset h e u)
  same_value s t unset h (add at e f) u = ap₂ ℚ.add (same_value s t unset h e u.0)
      (same_value s t unset h f u.1)
  same_value s t unset h (sub at e f) u = ap₂ ℚ.add (same_value s t unset h e u.0)
      (ap ℚ.neg (same_value s t unset h f u.1))
  same_value s t unset h (mul at e f) u = ap₂ ℚ.mul (same_value s t unset h e u.0)
      (same_value s t unset h f u.1)
  same_value s t unset h (divide at e n) u = ap (λ x. ℚ.mul x (inverse (whole n)))
      (same_value s t unset h e u.0)
  same_value s t unset h (power at e n) u = ap (λ x. numeral.power ℚ x n)
      (same_value s t unset h e u)

  same_values : (s t : List Fraction) (unset : List ℕ) → Agree s t unset → (es : List (Expr At))
      → All (Uses (IsSet unset)) es → map (value_of ℚ (λ c. c) s) es ≡ map (value_of ℚ (λ c. c) t)
      es
  same_values s t unset h [] u = refl
  same_values s t unset h (e ∷ es) u =
      ap₂ ◌∷◌ (same_value s t unset h e (All-head (Uses (IsSet unset)) e es u))
      (same_values s t unset h es (All-tail (Uses (IsSet unset)) e es u))

  same_statement : (s t : List Fraction) (unset : List ℕ) → length s ≡ length t → Agree s t unset
      → (c : Statement (Expr At)) → IsStatement n c → All (Uses (IsSet unset)) c.values
      → Agree (after_statement ℚ (λ c. c) c s) (after_statement ℚ (λ c. c) c t)
      (still_unset c.targets unset)
  unfolding after_statement
  same_statement s t unset l h c w u = λ i k.
      ap (λ xs. get_or (store c.targets xs s) i ℚ.zero) (same_values s t unset h c.values u)
      ∙ store_same c.targets (map (value_of ℚ (λ c. c) t) c.values) s t i ℚ.zero (w.sizes
      ∙ sym (length-map c.values (value_of ℚ (λ c. c) t))) l
      (elim (set_or_before c.targets unset i k) [ inl f ↦ inl (h i f) | inr f ↦ inr f ])

  same_branch : (cs : List (Statement (Expr At))) (s t : List Fraction) (unset : List ℕ)
      → length s ≡ length t → Agree s t unset → Above m unset → All (IsStatement n) cs
      → SetsFirst unset cs
      → (i : ℕ) → i < m → At_both (after_branch ℚ (λ c. c) cs s) (after_branch ℚ (λ c. c) cs t) i
  unfolding after_branch SetsFirst
  same_branch [] s t unset l h a w f i k = h i (a i k)
  same_branch (c ∷ cs) s t unset l h a w f i k =
      same_branch cs (after_statement ℚ (λ c. c) c s) (after_statement ℚ (λ c. c) c t)
      (still_unset c.targets unset)
      (length-statement ℚ (λ c. c) c s ∙ l ∙ sym (length-statement ℚ (λ c. c) c t))
      (same_statement s t unset l h c (All-head (IsStatement n) c cs w) f.0)
      (above_still m c.targets unset a) (All-tail (IsStatement n) c cs w) f.1 i k

  pub no_value : (program : Program (Expr At)) (cs : List (Statement (Expr At)))
      (s l : List Fraction) → m ≡ length program.names → All (IsStatement n) cs
      → SetsFirst (local_places m (length program.locals)) cs → IsState program s
      → length l ≡ length program.locals
      → take m (after_branch ℚ (λ c. c) cs (s ++ l)) ≡ effect program cs s
  no_value program cs s l e w f is o =
      take_same m (after_branch ℚ (λ c. c) cs (s ++ l)) (after_branch ℚ (λ c. c) cs (s ++ pad))
      ℚ.zero
      (length-branch ℚ (λ c. c) cs (s ++ l) ∙ same ∙ sym (length-branch ℚ (λ c. c) cs (s ++ pad)))
      (same_branch cs (s ++ l) (s ++ pad) (local_places m k) same agree
      (above_places m m k (omega arith)) w f)
      ∙ ap (λ j. take j (after_branch ℚ (λ c. c) cs (s ++ pad))) e
    where
      k : ℕ
      k = length program.locals

      pad : List Fraction
      pad = replicate k ℚ.zero

      same : length (s ++ l) ≡ length (s ++ pad)
      same = length-append s l ∙ ap (λ j. length s + j) (o ∙ sym (length-replicate k ℚ.zero))
          ∙ sym (length-append s pad)

      size : length (s ++ l) ≡ m + k
      size = let a = length-append s l in omega (arith, a, o, is, e)

      by_place : (i : ℕ) → is_among (local_places m k) i ≡ false → (i < m) ⊎ (m + k ≤ i)
          ⊎ ((m ≤ i) × (i < m + k)) → At_both (s ++ l) (s ++ pad) i
      by_place i h (inl a) = front_same s l pad i ℚ.zero (omega (arith, a, is, e))
      by_place i h (inr (inl a)) = get_or_past (s ++ l) i ℚ.zero (omega (arith, a, size))
          ∙ sym (get_or_past (s ++ pad) i ℚ.zero (omega (arith, a, size, same)))
      by_place i h (inr (inr (a, b))) = let y : true ≡ false = sym (among_places m k i a b)
          ∙ h in absurd (cc)

      agree : Agree (s ++ l) (s ++ pad) (local_places m k)
      agree = λ i h. by_place i h (grind arith)

-- ---- without local names
pub no_local_names : {At : Type 0} → (program : Program (Expr At)) (cs : List (Statement (Expr At)))
    (s : List Fraction) → length program.locals ≡ 0 → IsState program s
    → effect program cs s ≡ after_branch ℚ (λ c. c) cs s
no_local_names program cs s none is =
    let same : s ++ replicate (length program.locals) ℚ.zero ≡ s = ap (λ j. s ++ replicate j ℚ.zero)
    none ∙ append-nil s in
    ap (λ t. take (length program.names) (after_branch ℚ (λ c. c) cs t)) same
    ∙ take_all (length program.names) (after_branch ℚ (λ c. c) cs s) (let l =
    length-branch ℚ (λ c. c) cs s in omega (arith, l, is))

pub sets_no_locals : {At : Type 0} → (n m : ℕ) (cs : List (Statement (Expr At)))
    → All (IsStatement n) cs → SetsFirst (local_places m 0) cs
unfolding SetsFirst local_places
sets_no_locals n m [] w = tt
sets_no_locals {At = At} n m (c ∷ cs) w = (
  All-weaker (Uses (λ i. i < n)) (Uses (λ i. is_among [] i ≡ false)) (λ (e : Expr At) u.
      uses_weaker (λ i. i < n) (λ i. is_among [] i ≡ false) (λ i h. refl) e u) c.values
      (All-head (IsStatement n) c cs w).values,
  sets_no_locals n m cs (All-tail (IsStatement n) c cs w),
)
