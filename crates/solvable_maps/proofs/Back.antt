-- A closed form of a branch from some number of iterations on: what agrees from there on agrees at each n, and at negative numbers the form goes back: it undoes as many iterations, up to what it is at 0.
--   back n xs              the point -n, (-1)^n, 1/b^n, b^n;  next_at_back: one more at -n - 1 is -n
--   next_images, next_values     one iteration more, and its value;  arity_next: the images have an exponent for each variable
--   same_from              polynomials with the same values from some n on have them at each n
--   IsForm since f E       polynomials in n, s, u, v and the variables whose values from `since` on are the iterations
--   next_iteration              an iteration more is an iteration of the state first, at each n
--   at_start               so the form at n is the form at 0, at the state after n iterations
--   goes_on                where it is the state at one number of iterations, it is from there on
--   back_to_start          the form at -n, at the state after n iterations, is the form at 0
use Rattle.std.proofs.Common.{◌≡◌, ℕ, zero, suc, ◌+◌, ◌-◌, ◌<◌, ◌≤◌, List, [], ◌∷◌, ◌++◌, map, length, refl, sym, ap, ap₂, ◌∙◌, arith}
use Rattle.algebra.specs.Arithmetic.{power}
use Rattle.algebra.specs.Each.{Each}
use Rattle.algebra.proofs.Each.{each_weaker, map_same}
use Rattle.exponentials.specs.Base.{Coprime}
use Rattle.algebra.specs.Ring.{CommRing, Field, operations, of_nat}
use Rattle.algebra.proofs.RingLaws as L
use Rattle.algebra.proofs.RingSolver.{ring_rules, ring}
use Rattle.polynomials.specs.Terms.{Terms, constant, variables, value_at, lists, compose}
use Rattle.polynomials.specs.Polynomial.{Arity, AllArity}
use Rattle.polynomials.proofs.Arity.{arity-append, arity-times, arity-negate, arity-constant, arity-variables, arity-compose}
use Rattle.polynomials.proofs.ValueAt.{value_at-compose, value_at-constant, value_at-variables}
use Rattle.exponentials.proofs.Monomial.{power_inverse}
use Rattle.exponentials.proofs.Expo.{IsChar0, positive}
use Rattle.exponentials.proofs.Units.{IsUnit, at}
use Rattle.solvable_maps.specs.Shifts.{later, on_variables}
use Rattle.solvable_maps.specs.Iterations.{width}
use Rattle.solvable_maps.proofs.Values.{values, iterations, iterations-first, iterations-length, value_kept, natural, at-length, same_at_unit_points}
use Rattle.solvable_maps.proofs.Shifts.{later-at, turned-at, map-later, map-turned, all-later, all-turned}

each_same : {X Y : Type 0} (f g : ℕ → X → Y) (xs : List X) → ((n : ℕ) → map (f n) xs ≡ map (g n) xs)
    → Each (λ x. (n : ℕ) → f n x ≡ g n x) xs
unfolding Each
each_same f g [] h = tt
each_same f g (x ∷ xs) h = (
  (λ n. let e : f n x ∷ map (f n) xs ≡ g n x ∷ map (g n) xs = h n in cc),
  each_same f g xs (λ n. let e : f n x ∷ map (f n) xs ≡ g n x ∷ map (g n) xs = h n in cc),
)

module _ {A : Type 0} (F : Field A) (char : IsChar0 F) (bs : List ℕ) (c : Coprime bs) (m : ℕ) where
  abbrev R : CommRing A
  R = F.ring

  abbrev w : ℕ
  w = width (length bs) m

  abbrev u : ℕ → A
  u b = of_nat R b

  abbrev v : ℕ → A
  v b = F.inverse (of_nat R b)

  abbrev point : ℕ → List A → List A
  point n xs = natural F bs n xs

  abbrev vals : List (Terms A) → List A → List A
  vals = values (operations R)

  -- ---- one iteration more, and an iteration before
  abbrev pub next_images : List (Terms A)
  next_images = later (lists (operations R) w) bs (λ b. constant w (u b)) (λ b. constant w (v b))
      (variables (operations R) w)

  abbrev iteration_images : List (Terms A) → List (Terms A)
  iteration_images f = on_variables bs (λ l. map (λ p. compose (operations R) w p l) f)
      (variables (operations R) w)

  pub arity_next : AllArity w next_images
  arity_next = all-later (Arity w) (lists (operations R) w) (arity-constant w R.one)
      (arity-append w) (arity-times w (operations R)) (arity-negate w (operations R)) bs
      (λ b. constant w (u b)) (λ b. constant w (v b)) (λ b. arity-constant w (u b))
      (λ b. arity-constant w (v b)) (variables (operations R) w)
      (arity-variables w (operations R))

  arity_compositions : (f l : List (Terms A)) → AllArity w l
      → AllArity w (map (λ p. compose (operations R) w p l) f)
  unfolding Each
  arity_compositions [] l a = tt
  arity_compositions (p ∷ f) l a = (arity-compose w (operations R) p l a, arity_compositions f l a)

  arity_iteration : (f : List (Terms A)) → AllArity w (iteration_images f)
  arity_iteration f = all-turned (Arity w) bs (λ l. map (λ p. compose (operations R) w p l) f)
      (arity_compositions f) (variables (operations R) w) (arity-variables w (operations R))

  pub next_values : (s : List A) → length s ≡ w → vals next_images s ≡ later (operations R) bs u v s
  next_values s l =
      map-later (lists (operations R) w) (operations R) (λ q. value_at (operations R) q s)
      (value_kept R w s) bs (λ b. constant w (u b)) (λ b. constant w (v b)) u v
      (λ b. value_at-constant R w (u b) s) (λ b. value_at-constant R w (v b) s)
      (variables (operations R) w)
      ∙ ap (later (operations R) bs u v) (value_at-variables R w s l)

  iteration_values : (f : List (Terms A)) (s : List A) → length s ≡ w → vals (iteration_images f) s
      ≡ on_variables bs (vals f) s
  iteration_values f s l =
      map-turned (λ q. value_at (operations R) q s) bs (λ l. map (λ p. compose (operations R) w p l)
      f) (vals f) (through f) (variables (operations R) w)
      ∙ ap (on_variables bs (vals f)) (value_at-variables R w s l)
    where
      through : (f l : List (Terms A)) → vals (map (λ p. compose (operations R) w p l) f) s
          ≡ vals f (vals l s)
      through [] l = refl
      through (p ∷ f) l = ap₂ ◌∷◌ (value_at-compose R w p l s) (through f l)

  -- the point of n + 1
  pub natural_next : (n : ℕ) (s : List A) → later (operations R) bs u v (point n s) ≡ point (suc n)
      s
  unfolding power
  natural_next n s =
      later-at (operations R) bs u v s (of_nat R n) (power (operations R) (R.neg R.one) n)
      (λ b. power (operations R) (u b) n) (λ b. power (operations R) (v b) n)
      ∙ ap (λ e. at bs s (of_nat R (suc n)) e (λ b. power (operations R) (u b) (suc n))
      (λ b. power (operations R) (v b) (suc n)))
      (minus (power (operations R) (R.neg R.one) n))
    where
      minus : (x : A) → R.neg x ≡ R.mul (R.neg R.one) x
      minus x = ring R (x ∷ []) (search ring_rules depth 40) refl

  natural-length : (n : ℕ) (s : List A) → length s ≡ m → length (point n s) ≡ w
  natural-length n s l = at-length F bs m s (of_nat R n) (power (operations R) (R.neg R.one) n)
      (λ b. power (operations R) (u b) n) (λ b. power (operations R) (v b) n) l

  pub next-is : (p : Terms A) (n : ℕ) (s : List A) → length s ≡ m
      → value_at (operations R) (compose (operations R) w p next_images) (point n s)
      ≡ value_at (operations R) p (point (suc n) s)
  next-is p n s l = value_at-compose R w p next_images (point n s)
      ∙ ap (value_at (operations R) p) (next_values (point n s) (natural-length n s l)
      ∙ natural_next n s)

  abbrev next : Terms A → Terms A
  next p = compose (operations R) w p next_images

  arity-next : (p : Terms A) → Arity w (next p)
  arity-next p = arity-compose w (operations R) p next_images arity_next

  -- ---- the point of -n
  abbrev pub back : ℕ → List A → List A
  back n xs = at bs xs (R.neg (of_nat R n)) (power (operations R) (R.neg R.one) n)
      (λ b. power (operations R) (v b) n) (λ b. power (operations R) (u b) n)

  inverse_of : (b : ℕ) → 0 < b → R.mul (v b) (u b) ≡ R.one
  inverse_of b h = R.mul_comm (v b) (u b) ∙ F.mul-inverse (u b) (positive F char b h)

  each_base : (P : ℕ → Type 0) → ((b : ℕ) → 0 < b → P b) → (cs : List ℕ) → Coprime cs → Each P cs
  unfolding Each
  each_base P h [] d = tt
  each_base P h (b ∷ cs) d = (h b (let big : 1 < b = d.0 in omega arith), each_base P h cs d.2)

  back_unit : (n : ℕ) (s : List A) → IsUnit R bs s (power (operations R) (R.neg R.one) n)
      (λ b. power (operations R) (v b) n) (λ b. power (operations R) (u b) n)
  back_unit n s = record {
    square = power_inverse R (R.neg R.one) (R.neg R.one) n (L.minus_squared R);
    inverse = each_base (λ b. R.mul (power (operations R) (v b) n) (power (operations R) (u b) n)
        ≡ R.one) (λ b h. power_inverse R (v b) (u b) n (inverse_of b h)) bs c;
  }

  same_list : (f g : ℕ → A) (cs : List ℕ) (l : List A) → Each (λ b. f b ≡ g b) cs
      → map f cs ++ l ≡ map g cs ++ l
  unfolding Each
  same_list f g [] l h = refl
  same_list f g (b ∷ cs) l h = ap₂ ◌∷◌ h.0 (same_list f g cs l h.1)

  same_at : (s : List A) (a a' e e' : A) (f f' g g' : ℕ → A) → a ≡ a' → e ≡ e'
      → Each (λ b. f b ≡ f' b) bs → Each (λ b. g b ≡ g' b) bs
      → at bs s a e f g ≡ at bs s a' e' f' g'
  same_at s a a' e e' f f' g g' p q r t = ap₂ (λ x y. x ∷ y ∷ (map f bs ++ (map g bs ++ s))) p q
      ∙ ap (λ z. a' ∷ e' ∷ z) (ap (λ z. map f bs ++ z) (same_list g g' bs s t)
      ∙ same_list f f' bs (map g' bs ++ s) r)

  undo : (x y z : A) → R.mul x y ≡ R.one → R.mul x (R.mul y z) ≡ z
  undo x y z h = sym (R.mul_assoc x y z) ∙ ap (λ k. R.mul k z) h ∙ L.one-mul R z

  back_next : (n : ℕ) (s : List A) → at bs s (R.add R.one (R.neg (of_nat R (suc n))))
      (R.neg (power (operations R) (R.neg R.one) (suc n)))
      (λ b. R.mul (u b) (power (operations R) (v b) (suc n)))
      (λ b. R.mul (v b) (power (operations R) (u b) (suc n))) ≡ back n s
  unfolding power
  back_next n s =
      same_at s _ _ _ _ _ _ _ _ (less (of_nat R n)) (twice (power (operations R) (R.neg R.one) n))
      (each_base (λ b. R.mul (u b) (power (operations R) (v b) (suc n)) ≡ power (operations R) (v b)
      n) (λ b h. undo (u b) (v b) (power (operations R) (v b) n) (R.mul_comm (u b) (v b)
      ∙ inverse_of b h)) bs c)
      (each_base (λ b. R.mul (v b) (power (operations R) (u b) (suc n)) ≡ power (operations R) (u b)
      n) (λ b h. undo (v b) (u b) (power (operations R) (u b) n) (inverse_of b h)) bs c)
    where
      less : (x : A) → R.add R.one (R.neg (R.add R.one x)) ≡ R.neg x
      less x = ring R (x ∷ []) (search ring_rules depth 40) refl

      twice : (x : A) → R.neg (R.mul (R.neg R.one) x) ≡ x
      twice x = ring R (x ∷ []) (search ring_rules depth 40) refl

  back-length : (n : ℕ) (s : List A) → length s ≡ m → length (back n s) ≡ w
  back-length n s l = at-length F bs m s (R.neg (of_nat R n)) (power (operations R) (R.neg R.one) n)
      (λ b. power (operations R) (v b) n) (λ b. power (operations R) (u b) n) l

  pub zero_back : (s : List A) → back 0 s ≡ natural F bs 0 s
  unfolding power
  zero_back s = ap (λ a. at bs s a R.one (λ b. R.one) (λ b. R.one)) (L.neg-zero R)

  -- one more at -n - 1 is -n
  pub next_at_back : (p : Terms A) (n : ℕ) (s : List A) → length s ≡ m
      → value_at (operations F.ring) (compose (operations F.ring) (width (length bs) m) p
      (next_images)) (back (suc n) s) ≡ value_at (operations F.ring) p (back n s)
  next_at_back p n s l =
      value_at-compose R w p (next_images) (back (suc n) s)
      ∙ ap (value_at (operations R) p)
      (next_values (back (suc n) s) (back-length (suc n) s l)
      ∙ later-at (operations R) bs u v s (R.neg (of_nat R (suc n)))
      (power (operations R) (R.neg R.one) (suc n)) (λ b. power (operations R) (v b) (suc n))
      (λ b. power (operations R) (u b) (suc n))
      ∙ back_next n s)

  -- ---- what agrees from some n on
  one_less : (p q : Terms A) (s : List A) → length s ≡ m
      → ((n : ℕ) → value_at (operations R) (next p) (point n s) ≡ value_at (operations R) (next q)
      (point n s))
      → (n : ℕ) → value_at (operations R) p (point n s) ≡ value_at (operations R) q (point n s)
  one_less p q s l h zero =
      ap (value_at (operations R) p) (sym (zero_back s)) ∙ sym (next_at_back p 0 s l)
      ∙ same_at_unit_points F bs char c m (next p) (next q) (arity-next p) (arity-next q) s h
      (R.neg (of_nat R 1)) (power (operations R) (R.neg R.one) 1)
      (λ b. power (operations R) (v b) 1) (λ b. power (operations R) (u b) 1) (back_unit 1 s)
      ∙ next_at_back q 0 s l ∙ ap (value_at (operations R) q) (zero_back s)
  one_less p q s l h (suc n) = sym (next-is p n s l) ∙ h n ∙ next-is q n s l

  pub same_from : (d : ℕ) (p q : Terms A) (s : List A) → length s ≡ m
      → ((n : ℕ) → value_at (operations R) p (point (d + n) s) ≡ value_at (operations R) q
      (point (d + n) s))
      → (n : ℕ) → value_at (operations R) p (point n s) ≡ value_at (operations R) q (point n s)
  same_from zero p q s l h n =
      let e : 0 + n ≡ n = omega arith in
      ap (λ i. value_at (operations R) p (point i s)) (sym e) ∙ h n
      ∙ ap (λ i. value_at (operations R) q (point i s)) e
  same_from (suc d) p q s l h n = one_less p q s l
      (same_from d (next p) (next q) s l
      (λ k.
      let e : suc (d + k) ≡ suc d + k = omega arith in
      next-is p (d + k) s l ∙ ap (λ i. value_at (operations R) p (point i s)) e ∙ h k
      ∙ ap (λ i. value_at (operations R) q (point i s)) (sym e)
      ∙ sym (next-is q (d + k) s l))) n

  -- ---- forms from some n on
  pub record IsForm (since : ℕ) (f E : List (Terms A)) : Type 0 where
    pub is : (n : ℕ) (s : List A) → length s ≡ m → since ≤ n
        → vals E (point n s) ≡ iterations (operations R) f n s

  -- x with an iteration of its variables first
  abbrev iteration_of : List (Terms A) → Terms A → Terms A
  iteration_of f x = compose (operations R) w x (iteration_images f)

  iteration-is : (f : List (Terms A)) (x : Terms A) (n : ℕ) (s : List A) → length s ≡ m
      → value_at (operations R) (iteration_of f x) (point n s) ≡ value_at (operations R) x
      (point n (vals f s))
  iteration-is f x n s k =
      value_at-compose R w x (iteration_images f) (point n s)
      ∙ ap (value_at (operations R) x) (iteration_values f (point n s) (natural-length n s k)
      ∙ turned-at bs (vals f) s (of_nat R n) (power (operations R) (R.neg R.one) n)
      (λ b. power (operations R) (u b) n) (λ b. power (operations R) (v b) n))

  module _ (since : ℕ) (f E : List (Terms A)) (lf : length f ≡ m) (closed : IsForm since f E) where
    from_since : (n : ℕ) (s : List A) → length s ≡ m → vals E (point (suc (since + n)) s)
        ≡ vals E (point (since + n) (vals f s))
    from_since n s k =
        closed.is (suc (since + n)) s k (omega arith)
        ∙ iterations-first (operations R) f (since + n) s
        ∙ sym (closed.is (since + n) (vals f s) (iterations-length (operations R) f m lf 1 s k)
        (omega arith))

    -- for each polynomial of the form, at each n
    each_next : (s : List A) → length s ≡ m
        → Each (λ x. (n : ℕ) → value_at (operations R) (next x) (point n s)
        ≡ value_at (operations R) (iteration_of f x) (point n s)) E
    each_next s k = each_weaker _ _
        (λ x h. same_from since (next x) (iteration_of f x) s k (λ n. next-is x (since + n) s k
        ∙ h n
        ∙ sym (iteration-is f x (since + n) s k))) E
        (each_same (λ n x. value_at (operations R) x (point (suc (since + n)) s)) (λ n x.
        value_at (operations R) x (point (since + n) (vals f s))) E (λ n. from_since n s k))

    pub next_iteration : (n : ℕ) (s : List A) → length s ≡ m → vals E (point (suc n) s)
        ≡ vals E (point n (vals f s))
    next_iteration n s k = map_same _ _ E (each_weaker _ _ (λ x h. sym (next-is x n s k) ∙ h n
        ∙ iteration-is f x n s k) E (each_next s k))

    pub at_start : (n : ℕ) (s : List A) → length s ≡ m
        → vals E (point n s) ≡ vals E (point 0 (iterations (operations R) f n s))
    at_start zero s k = refl
    at_start (suc n) s k = next_iteration n s k
        ∙ at_start n (vals f s) (iterations-length (operations R) f m lf 1 s k)
        ∙ ap (λ x. vals E (point 0 x)) (sym (iterations-first (operations R) f n s))

    goes_more : (d : ℕ) → ((s : List A) → length s ≡ m
        → vals E (point d s) ≡ iterations (operations R) f
        d s) → (n : ℕ) (s : List A) → length s ≡ m → vals E (point (d + n) s)
        ≡ iterations (operations R) f (d + n) s
    goes_more d h zero s k = let e : d + 0 ≡ d = omega arith in ap (λ i. vals E (point i s)) e
        ∙ h s k ∙ ap (λ i. iterations (operations R) f i s) (sym e)
    goes_more d h (suc n) s k =
        let e : d + suc n ≡ suc (d + n) = omega arith in
        ap (λ i. vals E (point i s)) e ∙ next_iteration (d + n) s k
        ∙ goes_more d h n (vals f s) (iterations-length (operations R) f m lf 1 s k)
        ∙ sym (iterations-first (operations R) f (d + n) s)
        ∙ ap (λ i. iterations (operations R) f i s) (sym e)

    pub goes_on : (d : ℕ) → ((s : List A) → length s ≡ m
        → vals E (point d s) ≡ iterations (operations R)
        f d s) → IsForm d f E
    goes_on d h = record {
      is = λ n s k l.
          let e : d + (n - d) ≡ n = omega (arith, l) in
          ap (λ i. vals E (point i s)) (sym e) ∙ goes_more d h (n - d) s k
          ∙ ap (λ i. iterations (operations R) f i s) e;
    }

    -- ---- back
    iteration_anywhere : (s : List A) → length s ≡ m → (a e : A) (p q : ℕ → A) → IsUnit R bs s e p q
        → vals E (at bs s (R.add R.one a) (R.neg e) (λ b. R.mul (u b) (p b))
        (λ b. R.mul (v b) (q b))) ≡ vals E (at bs (vals f s) a e p q)
    iteration_anywhere s k a e p q unit =
        map_same _ _ E (each_weaker _ _ (λ x h. one x h) E (each_next s k))
      where
        one : (x : Terms A) → ((n : ℕ) → value_at (operations R) (next x) (point n s)
            ≡ value_at (operations R) (iteration_of f x) (point n s))
            → value_at (operations R) x (at bs s (R.add R.one a) (R.neg e) (λ b. R.mul (u b) (p b))
            (λ b. R.mul (v b) (q b))) ≡ value_at (operations R) x (at bs (vals f s) a e p q)
        one x h =
            ap (value_at (operations R) x)
            (sym (next_values (at bs s a e p q) (at-length F bs m s a e p q k)
            ∙ later-at (operations R) bs u v s a e p q))
            ∙ sym (value_at-compose R w x (next_images) (at bs s a e p q))
            ∙ same_at_unit_points F bs char c m (next x) (iteration_of f x) (arity-next x)
            (arity-compose w (operations R) x (iteration_images f) (arity_iteration f)) s h a e p q
            unit
            ∙ value_at-compose R w x (iteration_images f) (at bs s a e p q)
            ∙ ap (value_at (operations R) x) (iteration_values f (at bs s a e p q)
            (at-length F bs m s a e p q k) ∙ turned-at bs (vals f) s a e p q)

    back_step : (n : ℕ) (s : List A) → length s ≡ m
        → vals E (back n s) ≡ vals E (back (suc n) (vals f s))
    back_step n s k =
        ap (vals E) (sym (back_next n s))
        ∙ iteration_anywhere s k (R.neg (of_nat R (suc n))) (power (operations R) (R.neg R.one)
        (suc n))
        (λ b. power (operations R) (v b) (suc n)) (λ b. power (operations R) (u b) (suc n))
        (back_unit (suc n) s)

    pub back_to_start : (n : ℕ) (s : List A) → length s ≡ m
        → vals E (back n (iterations (operations R) f n s)) ≡ vals E (point 0 s)
    back_to_start zero s k = ap (vals E) (zero_back s)
    back_to_start (suc n) s k =
        sym (back_step n (iterations (operations R) f n s) (iterations-length (operations R) f m lf
        n s k))
        ∙ back_to_start n s k
