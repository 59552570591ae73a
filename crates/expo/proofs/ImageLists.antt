-- The images that the code makes, one after another: what is made, with what is still to be made behind it, stays the whole list.
--   multiple_next          a multiple of a u or a v more;  variable_next: a variable more
--   multiples_done, variables_done     nothing is left
--   made                   the list as the code has it; made_like, made_count: it is like the definition's, and has as many
--   like_count, zero_count the lists have an image for each of n, s, u, v and the variables
--   all_made               the list at n + 1, from its parts;  zero_made: the list at zero
--   variable_pushed, one_pushed, multiple_pushed     as the code pushes them
use Rattle.std.proofs.Common.{◌≡◌, ◌≤◌, ℕ, zero, suc, ◌+◌, ◌-◌, ◌*◌, max, pos, List, [], ◌∷◌, ◌++◌, map, length, drop, replicate, Some, refl, sym, ap, ap₂, subst, ◌∙◌, arith, append_assoc, append-nil, drop-drop, length-drop}
use Rattle.std.specs.List.{slice_get}
use Rattle.std.proofs.lemmas.List.{drop-map, length-map, length-append, length-replicate, map-append, replicate_more}
use Rattle.std.proofs.lemmas.Option.{none-some, same_Some}
use Rattle.std.proofs.Math.Seq.{drop-length}
use Rattle.algebra.specs.Each.{Each}
use Rattle.algebra.specs.Ring.{CommRing}
use Rattle.algebra.specs.Fraction.{Fraction, ℚ, fraction_size, whole, inverse}
use Rattle.algebra.proofs.Fractions.{ℚ_ring}
use Rattle.algebra.proofs.RingSolver.{ring_rules, ring}
use Rattle.polynomials.specs.Algebra as Algebra
use Rattle.polynomials.specs.Exponent.{exponents, unit_exponents, lcm}
use Rattle.polynomials.specs.Terms.{Terms, Same, AllSame, constant, variables, times, negate, lists}
use Rattle.polynomials.specs.Weight.{weight, degrees}
use Rattle.polynomials.proofs.Arity.{AllLong, unit_exponents_long, length-units, zeros-plus}
use Rattle.polynomials.proofs.Algebra.{coefficient-cons}
use Rattle.polynomials.proofs.Same.{Same-refl, AllSame-refl}
use Rattle.solvable_maps.specs.Expo.{next_images, zero_images}
use Rattle.solvable_maps.specs.Shifts.{over}
use Rattle.solvable_maps.specs.Iterations.{width}
use Rattle.expo.specs.Images.{IsMultiple, LikeIn, more, multiples}

abbrev R : CommRing Fraction
R = ℚ_ring

-- ---- the variable at a place, and its multiples
drop_at : {X : Type 0} (xs : List X) (i : ℕ) (x : X) → slice_get xs i ≡ Some x
    → drop i xs ≡ x ∷ drop (suc i) xs
drop_at [] i x e = absurd (none-some x e)
drop_at (y ∷ xs) zero x e = ap (λ z. z ∷ xs) (same_Some y x e)
drop_at (y ∷ xs) (suc i) x e = drop_at xs i x e

long_at : (m : ℕ) (us : List (List ℕ)) (i : ℕ) (e : List ℕ) → AllLong m us → slice_get us i ≡ Some e
    → length e ≡ m
unfolding Each
long_at m [] i e l h = grind (arith, h)
long_at m (u ∷ us) zero e l h = ap length (sym (same_Some u e h)) ∙ l.0
long_at m (u ∷ us) (suc i) e l h = long_at m us i e l.1 h

module _ (m : ℕ) where
  abbrev variable : List ℕ → Terms Fraction
  variable e = (e, ℚ.one) ∷ []

  -- the variables from a place on
  from_at : (i : ℕ) (e : List ℕ) → slice_get (unit_exponents m) i ≡ Some e → drop i (variables ℚ m)
      ≡ variable e ∷ drop (suc i) (variables ℚ m)
  unfolding variables
  from_at i e h = drop-map variable i (unit_exponents m)
      ∙ ap (map variable) (drop_at (unit_exponents m) i e h)
      ∙ ap (λ l. variable e ∷ l) (sym (drop-map variable (suc i) (unit_exponents m)))

  times-variable : (c : Fraction) (e : List ℕ) → length e ≡ m → times ℚ (constant m c) (variable e)
      ≡ (e, c) ∷ []
  unfolding constant Algebra.times Algebra.shift
  times-variable c e l = ap₂ (λ (d : List ℕ) (k : Fraction). (d, k) ∷ []) (zeros-plus m e l)
      (R.mul-one c)

  multiple_at : (c : Fraction) (i : ℕ) (p : Terms Fraction) → (h : IsMultiple m c i p)
      → p ≡ times ℚ (constant m c) (variable h.exponents)
  multiple_at c i p h = h.terms
      ∙ sym (times-variable c h.exponents (long_at m (unit_exponents m) i h.exponents
      (unit_exponents_long m) h.unit))

  append_step : (xs : List (Terms Fraction)) (p : Terms Fraction) (l : List (Terms Fraction))
      → (xs ++ p ∷ []) ++ l ≡ xs ++ p ∷ l
  append_step xs p l = append_assoc xs (p ∷ []) l

  -- one of the multiples more
  multiple_next : (from i : ℕ) (c : Fraction) (cs : List Fraction) (xs : List (Terms Fraction))
      (p : Terms Fraction) (all : List (Terms Fraction)) → drop i cs ≡ c ∷ drop (suc i) cs
      → IsMultiple m c (from + i) p
      → xs ++ multiples m (drop i cs) (drop (from + i) (variables ℚ m)) ≡ all
      → (xs ++ p ∷ []) ++ multiples m (drop (suc i) cs) (drop (suc (from + i)) (variables ℚ m))
      ≡ all
  multiple_next from i c cs xs p all d h e =
      append_step xs p _
      ∙ ap (λ q. xs ++ q ∷ multiples m (drop (suc i) cs) (drop (suc (from + i)) (variables ℚ m)))
      (multiple_at c (from + i) p h)
      ∙ sym (ap₂ (λ bs l. xs ++ multiples m bs l) d (from_at (from + i) h.exponents h.unit))
      ∙ e

  pub variable_next : (i : ℕ) (xs : List (Terms Fraction)) (p : Terms Fraction)
      (all : List (Terms Fraction)) → IsMultiple m ℚ.one i p
      → xs ++ drop i (variables ℚ m) ≡ all → (xs ++ p ∷ []) ++ drop (suc i) (variables ℚ m) ≡ all
  variable_next i xs p all h e = append_step xs p _
      ∙ ap (λ q. xs ++ q ∷ drop (suc i) (variables ℚ m)) h.terms
      ∙ sym (ap (λ l. xs ++ l) (from_at i h.exponents h.unit)) ∙ e

-- no multiple stands behind the last, and no variable
pub multiples_done : (m : ℕ) (cs : List Fraction) (vs : List (Terms Fraction)) (i : ℕ)
    (xs all : List (Terms Fraction)) → i ≡ length cs → xs ++ multiples m (drop i cs) vs ≡ all
    → xs ≡ all
multiples_done m cs vs i xs all h e =
    sym (append-nil xs) ∙ ap (λ bs. xs ++ multiples m bs vs) (sym (drop-length cs)
    ∙ ap (λ j. drop j cs) (sym h)) ∙ e

pub variables_done : (m i : ℕ) (xs all : List (Terms Fraction)) → i ≡ m
    → xs ++ drop i (variables ℚ m) ≡ all → xs ≡ all
unfolding variables
variables_done m i xs all h e =
    sym (append-nil xs) ∙ ap (λ l. xs ++ l) (sym (drop-length (variables ℚ m))
    ∙ ap (λ j. drop j (variables ℚ m)) (length-map (unit_exponents m) _ ∙ length-units m
    ∙ sym h)) ∙ e

lcm-none : (d : List ℕ) → lcm d [] ≡ d
unfolding lcm
lcm-none [] = refl
lcm-none (m ∷ d) = refl

lcm_turned : (d e : List ℕ) → lcm d e ≡ lcm e d
unfolding lcm
lcm_turned [] [] = refl
lcm_turned [] (n ∷ e) = refl
lcm_turned (m ∷ d) [] = refl
lcm_turned (m ∷ d) (n ∷ e) = ap₂ ◌∷◌ (let h : max m n ≡ max n m = omega arith in h) (lcm_turned d e)

-- ---- the list at n + 1
module _ (base : List ℕ) (m : ℕ) where
  abbrev w : ℕ
  w = width (length base) m

  abbrev us : ℕ → Fraction
  us b = whole (pos b)

  abbrev vs : ℕ → Fraction
  vs b = inverse (whole (pos b))

  abbrev behind : List (Terms Fraction)
  behind = over (lists ℚ w) base (λ b. constant w (us b)) (over (lists ℚ w) base
      (λ b. constant w (vs b)) (λ l. l)) (drop 2 (variables ℚ w))

  -- the list with n + 1 as the code has it
  pub made : List (Terms Fraction)
  made = more w ∷ ((0 ∷ 1 ∷ replicate (length base + (length base + m)) 0, ℚ.neg ℚ.one) ∷ [])
      ∷ behind

  minus_at : (p : Terms Fraction) → IsMultiple w (ℚ.neg ℚ.one) 1 p
      → p ≡ (0 ∷ 1 ∷ replicate (length base + (length base + m)) 0, ℚ.neg ℚ.one) ∷ []
  unfolding unit_exponents
  minus_at p h = h.terms ∙ ap (λ (e : List ℕ). (e, ℚ.neg ℚ.one) ∷ []) (sym (same_Some _ _ h.unit))

  parts : next_images base m
      ≡ (constant w ℚ.one ++ (1 ∷ replicate (suc (length base + (length base + m))) 0, ℚ.one) ∷ [])
      ∷ ((0 ∷ 1 ∷ replicate (length base + (length base + m)) 0, ℚ.neg ℚ.one) ∷ []) ∷ behind
  unfolding variables unit_exponents Algebra.negate
  parts = refl

  pub made_like : (ps : List (Terms Fraction)) → ps ≡ made → LikeIn (next_images base m) ps
  unfolding AllSame constant weight degrees made
  made_like ps e = subst (λ l. LikeIn (next_images base m) l) (sym e)
      (subst (λ l. LikeIn l made) (sym parts) like)
    where
      like : LikeIn ((constant w ℚ.one ++ (
        1 ∷ replicate (suc (length base + (length base + m))) 0,
        ℚ.one,
      ) ∷ []) ∷ ((0 ∷ 1 ∷ replicate (length base + (length base + m)) 0, ℚ.neg ℚ.one)
          ∷ []) ∷ behind) made
      like = record {
        same = (
          same_swapped (1 ∷ replicate (suc (length base + (length base + m))) 0, ℚ.one)
              (replicate w 0, ℚ.one),
          (Same-refl ℚ _, AllSame-refl ℚ behind),
        );
        weights = refl;
        degrees =
            ap (λ d. d
            ∷ map degrees (((0 ∷ 1 ∷ replicate (length base + (length base + m)) 0, ℚ.neg ℚ.one)
            ∷ []) ∷ behind))
            (lcm_swapped (1 ∷ replicate (suc (length base + (length base + m))) 0) (replicate w 0));
      }
        where
          same_swapped : (t u : List ℕ × Fraction) → Same ℚ (t ∷ u ∷ []) (u ∷ t ∷ [])
          same_swapped t u = record {
            at = λ e. coefficient-cons exponents R t (u ∷ []) e
                ∙ ap (R.add _) (coefficient-cons exponents R u [] e) ∙ swap _ _ _
                ∙ sym (coefficient-cons exponents R u (t ∷ []) e
                ∙ ap (R.add _) (coefficient-cons exponents R t [] e));
          }
            where
              swap : (a b c : Fraction) → R.add a (R.add b c) ≡ R.add b (R.add a c)
              swap a b c = ring R (a ∷ b ∷ c ∷ []) (search ring_rules depth 30) refl

          lcm_swapped : (d e : List ℕ) → lcm d (lcm e []) ≡ lcm e (lcm d [])
          lcm_swapped d e = ap (lcm d) (lcm-none e) ∙ lcm_turned d e ∙ sym (ap (lcm e) (lcm-none d))

  length-over : (bs : List ℕ) (k : ℕ → Fraction) (f : List (Terms Fraction) → List (Terms Fraction))
      → ((l : List (Terms Fraction)) → length (f l) ≡ length l)
      → (l : List (Terms Fraction)) → length (over (lists ℚ w) bs (λ b. constant w (k b)) f l)
      ≡ length l
  length-over [] k f g l = g l
  length-over (b ∷ bs) k f g [] = refl
  length-over (b ∷ bs) k f g (x ∷ l) = ap suc (length-over bs k f g l)

  rest_count : (k : ℕ) → length (drop 2 (variables ℚ (suc (suc k)))) ≡ k
  unfolding variables unit_exponents
  rest_count k = length-map _ _ ∙ length-map _ _ ∙ length-map _ _ ∙ length-units k

  pub made_count : (ps : List (Terms Fraction)) → ps ≡ made → length ps ≡ w
  unfolding made variables unit_exponents
  made_count ps e =
      ap length e
      ∙ ap (λ n. suc (suc n)) (length-over base us (over (lists ℚ w) base (λ b. constant w (vs b))
      (λ l. l)) (length-over base vs (λ l. l) (λ l. refl)) (drop 2 (variables ℚ w))
      ∙ rest_count (length base + (length base + m)))

  pub like_count : (ps : List (Terms Fraction)) → LikeIn (next_images base m) ps → length ps ≡ w
  unfolding made
  like_count ps l =
      sym (length-map ps (weight fraction_size)) ∙ ap length l.weights
      ∙ length-map (next_images base m) (weight fraction_size)
      ∙ ap length parts ∙ made_count made refl

  -- ---- the multiples one after another
  over_is : (bs : List ℕ) (k : ℕ → Fraction) (f : List (Terms Fraction) → List (Terms Fraction))
      (l : List (Terms Fraction)) → length bs ≤ length l
      → over (lists ℚ w) bs (λ b. constant w (k b)) f l ≡ multiples w (map k bs) l
      ++ f (drop (length bs) l)
  over_is [] k f l h = refl
  over_is (b ∷ bs) k f [] h = absurd (omega arith)
  over_is (b ∷ bs) k f (x ∷ l) h = ap (λ q. times ℚ (constant w (k b)) x ∷ q)
      (over_is bs k f l (omega arith))

  behind_is : behind ≡ multiples w (map us base) (drop 2 (variables ℚ w))
      ++ (multiples w (map vs base) (drop (2 + length base) (variables ℚ w))
      ++ drop (2 + 2 * length base) (variables ℚ w))
  behind_is =
      let r = length base in
      let all : List (Terms Fraction) = variables ℚ w in
      let g : List (Terms Fraction) → List (Terms Fraction) = over (lists ℚ w) base
      (λ b. constant w (vs b)) (λ l. l) in
      let long : length (drop 2 all) ≡ r + (r + m) = rest_count (r + (r + m)) in
      let first : drop r (drop 2 all) ≡ drop (2 + r) all = drop-drop r 2 all in
      let second : drop r (drop (2 + r) all) ≡ drop (2 + 2 * r) all = drop-drop r (2 + r) all
      ∙ ap (λ n. drop n all) (let e : 2 + r + r ≡ 2 + 2 * r = omega arith in e) in
      let left : length (drop (2 + r) all) ≡ length (drop 2 all) - r = ap length (sym first)
      ∙ length-drop r (drop 2 all) in
      over_is base us g (drop 2 all) (omega (arith, long))
      ∙ ap (λ l. multiples w (map us base) (drop 2 all) ++ g l) first
      ∙ ap (λ q. multiples w (map us base) (drop 2 all) ++ q)
      (over_is base vs (λ l. l) (drop (2 + r) all) (omega (arith, long, left))
      ∙ ap (λ q. multiples w (map vs base) (drop (2 + r) all) ++ q) second)

  made_of : (l : List (Terms Fraction)) → l ≡ behind
      → more w ∷ ((0 ∷ 1 ∷ replicate (length base + (length base + m)) 0, ℚ.neg ℚ.one) ∷ []) ∷ l
      ≡ made
  unfolding made
  made_of l e =
      ap (λ l. more w ∷ ((0 ∷ 1 ∷ replicate (length base + (length base + m)) 0, ℚ.neg ℚ.one) ∷ [])
      ∷ l) e

  pub all_made : (k u v : ℕ) (xs ys zs ps : List (Terms Fraction)) (p q : Terms Fraction) → k ≡ w
      → u ≡ 2 + length base → v ≡ 2 + 2 * length base
      → xs ≡ p ∷ q ∷ [] → p ≡ more k → IsMultiple k (ℚ.neg ℚ.one) 1 q
      → ys ≡ xs ++ multiples k (map us base) (drop 2 (variables ℚ k))
      → zs ≡ ys ++ multiples k (map vs base) (drop u (variables ℚ k))
      → ps ≡ zs ++ drop v (variables ℚ k) → LikeIn (next_images base m) ps
  all_made k u v xs ys zs ps p q wide up down begun first second h i j =
      let a : List (Terms Fraction) = multiples w (map us base) (drop 2 (variables ℚ w)) in
      let b : List (Terms Fraction) =
      multiples w (map vs base) (drop (2 + length base) (variables ℚ w)) in
      let c : List (Terms Fraction) = drop (2 + 2 * length base) (variables ℚ w) in
      let x_is : xs ≡ more w ∷ ((0 ∷ 1 ∷ replicate (length base + (length base + m)) 0, ℚ.neg ℚ.one)
      ∷ []) ∷ [] = begun ∙ ap₂ (λ x y. x ∷ y ∷ []) (first ∙ ap more wide)
      (minus_at q (subst (λ n. IsMultiple n (ℚ.neg ℚ.one) 1 q) wide second)) in
      let y_is : ys ≡ xs ++ a = h
      ∙ ap (λ n. xs ++ multiples n (map us base) (drop 2 (variables ℚ n))) wide in
      let z_is : zs ≡ ys ++ b = i
      ∙ ap₂ (λ n o. ys ++ multiples n (map vs base) (drop o (variables ℚ n))) wide up in
      let p_is : ps ≡ zs ++ c = j ∙ ap₂ (λ n o. zs ++ drop o (variables ℚ n)) wide down in
      made_like ps
      (p_is ∙ ap (λ l. l ++ c) z_is ∙ ap (λ l. (l ++ b) ++ c) y_is ∙ append_assoc (xs ++ a) b c
      ∙ append_assoc xs a (b ++ c) ∙ ap (λ l. l ++ (a ++ (b ++ c))) x_is
      ∙ made_of (a ++ (b ++ c)) (sym behind_is))

-- ---- the list at zero
pub ones_append : (j k m : ℕ) (l : List (Terms Fraction)) → replicate (j + k) (constant m ℚ.one)
    ++ l ≡ replicate j (constant m ℚ.one) ++ (replicate k (constant m ℚ.one) ++ l)
ones_append zero k m l = ap (λ n. replicate n (constant m ℚ.one) ++ l) (let e : 0 + k ≡ k =
    omega arith in e)
ones_append (suc j) k m l = ap (λ n. replicate n (constant m ℚ.one) ++ l) (let e : suc j + k
    ≡ suc (j + k) = omega arith in e) ∙ ap (λ q. constant m ℚ.one ∷ q) (ones_append j k m l)

pub zero_made : (r m : ℕ) (xs : List (Terms Fraction))
    → xs ≡ [] ∷ replicate (2 * r + 1) (constant m ℚ.one) → xs ++ variables ℚ m ≡ zero_images r m
zero_made r m xs e =
    ap (λ l. l ++ variables ℚ m) e
    ∙ ap (λ n. [] ∷ (replicate n (constant m ℚ.one) ++ variables ℚ m)) (let e : 2 * r + 1
    ≡ suc (r + r) = omega arith in e)
    ∙ ap (λ l. [] ∷ constant m ℚ.one ∷ l) (ones_append r r m (variables ℚ m))

pub zero_count : (r m : ℕ) → length (zero_images r m) ≡ width r m
unfolding variables
zero_count r m =
    ap (λ n. suc (suc n)) (length-append (replicate r (constant m ℚ.one)) _
    ∙ ap₂ ◌+◌ (length-replicate r (constant m ℚ.one))
    (length-append (replicate r (constant m ℚ.one)) _
    ∙ ap₂ ◌+◌ (length-replicate r (constant m ℚ.one)) (length-map (unit_exponents m) _
    ∙ length-units m)))

-- ---- as the code pushes them
module _ {X : Type 0} (f : X → Terms Fraction) (old news : List X) (p : X) (is : news ≡ old ++ p
    ∷ []) where
  each_pushed : map f news ≡ map f old ++ f p ∷ []
  each_pushed = ap (map f) is ∙ map-append f old (p ∷ [])

  pub variable_pushed : (m i j : ℕ) (x : Fraction) (all : List (Terms Fraction)) → j ≡ suc i
      → x ≡ ℚ.one → IsMultiple m x i (f p)
      → map f old ++ drop i (variables ℚ m) ≡ all → map f news ++ drop j (variables ℚ m) ≡ all
  variable_pushed m i j x all e one h k =
      ap₂ (λ l n. l ++ drop n (variables ℚ m)) each_pushed e
      ∙ variable_next m i (map f old) (f p) all (subst (λ c. IsMultiple m c i (f p)) one h) k

  pub one_pushed : (m n k : ℕ) → k ≡ n + 1 → f p ≡ constant m ℚ.one
      → map f old ≡ [] ∷ replicate n (constant m ℚ.one)
      → map f news ≡ [] ∷ replicate k (constant m ℚ.one)
  one_pushed m n k e h i =
      each_pushed ∙ ap₂ (λ l q. l ++ q ∷ []) i h
      ∙ ap (λ l. [] ∷ l) (replicate_more n (constant m ℚ.one)
      ∙ ap (λ j. replicate j (constant m ℚ.one)) (sym e))

  pub multiple_pushed : (m from i j at : ℕ) (x c : Fraction) (cs : List Fraction)
      (all : List (Terms Fraction)) → j ≡ suc i → at ≡ from + i → x ≡ c
      → drop i cs ≡ c ∷ drop (suc i) cs → IsMultiple m x at (f p)
      → map f old ++ multiples m (drop i cs) (drop (from + i) (variables ℚ m)) ≡ all
      → map f news ++ multiples m (drop j cs) (drop (from + j) (variables ℚ m)) ≡ all
  multiple_pushed m from i j at x c cs all next place same d h g =
      let further : from + j ≡ suc (from + i) = omega arith in
      ap₂ (λ l n. l ++ multiples m (drop n cs) (drop (from + j) (variables ℚ m))) each_pushed next
      ∙ ap (λ n. (map f old ++ f p ∷ []) ++ multiples m (drop (suc i) cs) (drop n (variables ℚ m)))
      further
      ∙ multiple_next m from i c cs (map f old) (f p) all d (subst (λ n. IsMultiple m c n (f p))
      place (subst (λ y. IsMultiple m y at (f p)) same h)) g
