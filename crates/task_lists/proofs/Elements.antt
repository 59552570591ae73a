-- The polynomials of the lists that stages begin with, place by place.
--   relation_later     those of the relations;  relations_count: how many these are
--   orbit_count, meet_count            how many there are
--   positive                           a place that isn't the first
--   seen_at                            an image, at its place
--   at_front, at_back                  those of two lists, one behind the other
use Rattle.std.proofs.Common.{◌≡◌, ◌⊎◌, inl, inr, ℕ, zero, suc, ◌+◌, ◌-◌, ◌<◌, ◌≤◌, List, [], ◌∷◌, ◌++◌, map, length, get_or, refl, sym, ap, ap₂, ◌∙◌, arith}
use Rattle.std.proofs.lemmas.List.{get_or-map, length-map, get_or_append_left, get_or-append_right, get_or_push, length-append}
use Rattle.algebra.specs.Fraction.{Fraction, rationals}
use Rattle.polynomials.specs.Terms.{Terms}
use Rattle.machines.specs.Collect.{collect}
use Rattle.rounds.specs.Form.{front, orbit_order, orbit_relations, relation, relations_to, relations}
use Rattle.task_lists.specs.Blocks.{relation_of}

module _ (r w : ℕ) where
  relations_length : (n : ℕ) → length (relations_to r w n) ≡ n
  unfolding relations_to
  relations_length zero = refl
  relations_length (suc n) =
      let l = relations_length n in
      let m = length-append (relations_to r w n)
      (relation w (suc (suc n)) (suc (suc (r + n))) ∷ []) in omega (arith, l, m)

  relation_place : (n j : ℕ) → j < n
      → get_or (relations_to r w n) j [] ≡ relation w (suc (suc j)) (suc (suc (r + j)))
  unfolding relations_to
  relation_place zero j l = absurd (omega (arith, l))
  relation_place (suc n) j l = go (cases j n l) (relation_place n j)
    where
      cases : (x y : ℕ) → x < suc y → (x < y) ⊎ (y ≡ x)
      cases x y = grind arith

      go : (j < n) ⊎ (n ≡ j) → (j < n → get_or (relations_to r w n) j []
          ≡ relation w (suc (suc j)) (suc (suc (r + j)))) → get_or (relations_to r w n
          ++ relation w (suc (suc n)) (suc (suc (r + n))) ∷ []) j []
          ≡ relation w (suc (suc j)) (suc (suc (r + j)))
      go (inl k) before = get_or_append_left (relations_to r w n) _ [] j
          (let e = relations_length n in omega (arith, k, e)) ∙ before k
      go (inr e) before = get_or_push (relations_to r w n) _ [] j (relations_length n ∙ e)
          ∙ ap (λ k. relation w (suc (suc k)) (suc (suc (r + k)))) e

pub relation_later : (r m place : ℕ) → 1 ≤ place → place ≤ r
    → relation_of r m (1 + place) (1 + place + r)
    ≡ collect rationals (orbit_order r) (get_or (relations r m) place [])
relation_later r m zero l k = absurd (omega (arith, l))
relation_later r m (suc j) l k =
    let e : 1 + suc j ≡ suc (suc j) = omega arith in
    let f : 1 + suc j + r ≡ suc (suc (r + j)) = omega arith in
    ap₂ (relation_of r m) e f
    ∙ ap (collect rationals (orbit_order r))
    (sym (relation_place r (front r + m) r j (omega (arith, k))))

pub relations_count : (r m : ℕ) → length (relations r m) ≡ suc r
relations_count r m = ap suc (relations_length r (front r + m) r)

pub orbit_count : (f : Terms Fraction → Terms Fraction) (xs : List (Terms Fraction)) (r m : ℕ)
    → length (map f xs ++ orbit_relations r m) ≡ length xs + suc r
orbit_count f xs r m =
    let all = length-append (map f xs) (orbit_relations r m) in
    let first = length-map xs f in
    let back = length-map (relations r m) (collect rationals (orbit_order r)) in
    let n = relations_count r m in
    omega (arith, all, first, back, n)

pub meet_count : (f g : Terms Fraction → Terms Fraction) (xs ys : List (Terms Fraction))
    → length (map f xs ++ map g ys) ≡ length xs + length ys
meet_count f g xs ys =
    let all = length-append (map f xs) (map g ys) in
    let left = length-map xs f in
    let right = length-map ys g in
    omega (arith, all, left, right)

pub positive : (n : ℕ) → (n ≡ 0 → ⊥) → 1 ≤ n
positive zero h = absurd (h refl)
positive (suc n) h = omega arith

-- at the front and behind, of two lists one behind the other
pub seen_at : {X Y : Type 0} (f : X → List Y) (xs : List X) (i : ℕ) {x : X} → i < length xs
    → x ≡ get_or xs i x → f x ≡ get_or (map f xs) i []
seen_at f xs i {x = x} l is = ap f is ∙ sym (get_or-map f xs i x [] l)

module _ (f : Terms Fraction → Terms Fraction) (xs ys : List (Terms Fraction)) where
  pub at_front : (i : ℕ) {x : Terms Fraction} → i < length xs → x ≡ get_or xs i []
      → f x ≡ get_or (map f xs ++ ys) i []
  at_front i l is = ap f is ∙ sym (get_or-map f xs i [] [] l)
      ∙ sym (get_or_append_left (map f xs) ys [] i (let n = length-map xs f in omega (arith, l, n)))

  pub at_back : (i : ℕ) {n : ℕ} → n ≡ length xs → n ≤ i
      → get_or ys (i - n) [] ≡ get_or (map f xs ++ ys) i []
  at_back i {n = n} e l = sym (get_or-append_right (map f xs) ys n i [] (length-map xs f ∙ sym e) l)
