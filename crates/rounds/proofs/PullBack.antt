-- A form over any coprime base, whose values are those after n iterations, pulls back an orbit: the law of one round.
--   form_of_closed        the values of the form after n iterations
--   closed_form_pulls_back   p padded is in the ideal of the orbit's starting list exactly where p with the form for its variables is in the ideal padded, with the relations
--   starting_polynomials  the elements of the starting list are polynomials
use Rattle.std.proofs.Common.{◌≡◌, ℕ, suc, ◌+◌, ◌<◌, pos, List, [], ◌∷◌, ◌++◌, map, get_or, take, drop, length, arith, refl, sym, ap, ap₂, subst, ◌∙◌, All, length-take, append_assoc}
use Rattle.std.proofs.lemmas.List.{get_or-map, length-map, length-append, map-append, take_at, drop_at}
use Rattle.std.proofs.lemmas.List.Elements.{All-head, All-tail}
use Rattle.algebra.specs.Arithmetic.{power}
use Rattle.algebra.specs.Each.{Each}
use Rattle.algebra.specs.Sum.{sum_over}
use Rattle.algebra.proofs.Each.{each-append, each-map, each_of, each_weaker}
use Rattle.algebra.proofs.RingLaws.{eq_of_sub}
use Rattle.algebra.proofs.RingSolver.{ring, ring_rules}
use Rattle.algebra.proofs.Basics.{same_head, same_tail}
use Rattle.algebra.specs.Fraction.{Fraction, ℚ, whole, inverse, rationals}
use Rattle.algebra.proofs.Fractions.{ℚ_ring, ℚ_field}
use Rattle.polynomials.specs.Order.{Rank, IsMonomialOrder, grevlex, blocks}
use Rattle.polynomials.specs.Terms.{Terms, Same, variables, negate, combination, compose, evaluate}
use Rattle.polynomials.specs.Polynomial.{Arity, AllArity, IsPolynomial}
use Rattle.polynomials.proofs.Arity.{arity-append, arity-negate, arity-variables, arity-compose}
use Rattle.polynomials.proofs.Orders.{grevlex_order, blocks_order}
use Rattle.polynomials.proofs.Same.{Same-sym}
use Rattle.polynomials.proofs.ValueAt.{value_at_same, value_at-append, value_at-negate, value_at-compose, value_at-variables, combination_zero}
use Rattle.exponentials.specs.Base.{Coprime}
use Rattle.solvable_maps.specs.Iterations as iterations
use Rattle.solvable_maps.specs.Iterations.{point, back_point, width}
use Rattle.solvable_maps.specs.Expo.{with_normal_keys, inverse_form_terms}
use Rattle.solvable_maps.proofs.OneForm.{back_is_inverse}
use Rattle.solvable_maps.proofs.Operations.{point-append, back-value, normal-value, turned_value}
use Rattle.solvable_maps.proofs.Lengths.{arity-normalized, arity-turned_back}
use Rattle.ideals.specs.Members.{IsMember}
use Rattle.machines.specs.Collect.{collect}
use Rattle.machines.specs.Elimination.{in_front}
use Rattle.loops.specs.Program.{Expr, Program}
use Rattle.loops.specs.Map.{branch_map}
use Rattle.loops.proofs.Maps.{length-branch_map}
use Rattle.polynomials.proofs.Arity.{arity_at}
use Rattle.rounds.specs.Word.{branch_of}
use Rattle.rounds.specs.Orbit.{state_after, IsForm, at_point, PullsBack}
use Rattle.rounds.specs.Form.{Form, front, point_of, relations}
use Rattle.machines.proofs.Collecting.{collect-polynomial, collect-same}
use Rattle.ideals.proofs.FractionMembers.{member_same, member_nil, member_at, member_members, member_append, member_left, member_right, member_turned}
use Rattle.polynomials.proofs.ByValues.{same_by_values}
use Rattle.machines.proofs.Padding.{at, arity-pad, arity-padded, inner, inner_arity, inner_at, in_front_at}
use Rattle.rounds.proofs.Orbit.{value_at_point, arity-at_point, nothing_at_point}
use Rattle.rounds.proofs.Independent.{points_of_base, points_are_independent, arity_relations}
use Rattle.rounds.proofs.Relations.{zero_at_points, zero_at_back_points}
use Rattle.rounds.proofs.BranchIterations.{bm, turned_keeps, iterations-are}
use Rattle.rounds.proofs.Graph.{each_place, place_each, each-take, map-take, difference_zero, split_same}

pub width-is : (r m : ℕ) → width r m ≡ front r + m
width-is r m = omega arith

all_each : (Q : Terms Fraction → Type 0) (xs : List (Terms Fraction)) → All Q xs → Each Q xs
unfolding Each
all_each Q [] h = tt
all_each Q (x ∷ xs) h = (All-head Q x xs h, all_each Q xs (All-tail Q x xs h))

module _ {At : Type 0} (program : Program (Expr At)) (b : ℕ) (f : Form) (coprime : Coprime f.base)
    (closed : iterations.IsClosedForm f.base (branch_map program (branch_of program b))
    f.polys) where
  abbrev m : ℕ
  m = length program.names

  abbrev r : ℕ
  r = length f.base

  abbrev k : ℕ
  k = front r

  abbrev w : ℕ
  w = k + m

  size : length (bm program b) ≡ m
  size = length-branch_map program (branch_of program b)

  -- ---- the form
  fs_arity : AllArity (width r m) f.polys
  fs_arity = subst (λ n. AllArity (width r n) f.polys) size closed.arity

  to_w : (p : Terms Fraction) → Arity (width r m) p → Arity w p
  to_w p a = subst (λ n. Arity n p) (width-is r m) a

  from_w : (p : Terms Fraction) → Arity w p → Arity (width r m) p
  from_w p a = subst (λ n. Arity n p) (sym (width-is r m)) a

  fs_arity_w : AllArity w f.polys
  fs_arity_w = subst (λ n. AllArity n f.polys) (width-is r m) fs_arity

  forward : (n : ℕ) (s : List Fraction) → length s ≡ m → map (λ p. at p (point f.base n s)) f.polys
      ≡ state_after program b n s
  forward n s l = closed.values n s (l ∙ sym size) (omega arith) ∙ iterations-are program b n s l

  pub form_of_closed : IsForm program b (front (length f.base)) (point_of f.base) f.polys
  form_of_closed = record {
    arities = fs_arity_w;
    iterations = λ n s is. ap (λ x. map (λ p. at p x) f.polys) (point-append f.base n s)
        ∙ forward n s is;
  }

  -- the state after n iterations, back
  inverse_form_iterations : (n : ℕ) (s : List Fraction) → length s ≡ m
      → map (λ p. at p (back_point f.base n (state_after program b n s))) f.polys ≡ s
  inverse_form_iterations n s l = ap (λ x. map (λ p. at p (back_point f.base n x)) f.polys)
      (sym (iterations-are program b n s l)) ∙ back_is_inverse f.base coprime (bm program b) f.polys
      closed n s (l ∙ sym size)

  count : length f.polys ≡ m
  count =
      let s : List Fraction = map (λ x. ℚ.zero) program.names in
      let l : length s ≡ m = length-map program.names _ in
      sym (length-map f.polys (λ p. at p (back_point f.base 0 (state_after program b 0 s))))
      ∙ ap length (inverse_form_iterations 0 s l) ∙ l

  -- ---- the inverse form
  backs : List (Terms Fraction)
  backs = map (λ p. collect rationals grevlex (inverse_form_terms r p)) f.polys

  backs_each : (us : List (Terms Fraction)) → AllArity (width r m) us
      → AllArity w (map (λ p. collect rationals grevlex (inverse_form_terms r p)) us)
  unfolding Each
  backs_each [] a = tt
  backs_each (p ∷ us) a = (
    to_w _ ((collect-polynomial ℚ_field grevlex grevlex_order (width r m) (inverse_form_terms r p)
        (arity-turned_back r m p a.0)).arity),
    backs_each us a.1,
  )

  backs_arity : AllArity w backs
  unfolding backs
  backs_arity = backs_each f.polys fs_arity

  back_values : (us : List (Terms Fraction)) → AllArity (width r m) us → (n : ℕ) (s : List Fraction)
      → map (λ p. at p (point f.base n s))
      (map (λ p. collect rationals grevlex (inverse_form_terms r p))
      us) ≡ map (λ p. at p (back_point f.base n s)) us
  unfolding Each
  back_values [] a n s = refl
  back_values (p ∷ us) a n s =
      ap₂ ◌∷◌ (value_at_same ℚ_ring _ _ (point f.base n s) (collect-same ℚ_field grevlex
      grevlex_order (inverse_form_terms r p)) ∙ back-value f.base coprime m p a.0 n s)
      (back_values us a.1 n s)

  backs_at : (n : ℕ) (s : List Fraction) → map (λ p. at p (point f.base n s)) backs
      ≡ map (λ p. at p (back_point f.base n s)) f.polys
  unfolding backs
  backs_at n s = back_values f.polys fs_arity n s

  -- ---- with images for the variables
  fronts : List (Terms Fraction)
  fronts = take k (variables ℚ w)

  images_arity : (us : List (Terms Fraction)) → AllArity w us → AllArity w (fronts ++ us)
  unfolding fronts
  images_arity us a = each-append (Arity w) (take k (variables ℚ w)) us
      (each-take (Arity w) k (variables ℚ w) (arity-variables w ℚ)) a

  images_at : (us : List (Terms Fraction)) (s : List Fraction) → length s ≡ w
      → map (λ q. at q s) (fronts ++ us) ≡ take k s ++ map (λ q. at q s) us
  unfolding fronts
  images_at us s l = map-append (λ q. at q s) (take k (variables ℚ w)) us
      ∙ ap (λ z. z ++ map (λ q. at q s) us) (map-take k (variables ℚ w) s
      ∙ ap (take k) (value_at-variables ℚ_ring w s l))

  length-point : (n : ℕ) (s : List Fraction) → length s ≡ m → length (point f.base n s) ≡ w
  length-point n s l = ap length (sym (point-append f.base n s))
      ∙ length-append (point_of f.base n) s ∙ ap₂ ◌+◌ ((points_of_base f.base).size n) l

  -- at a natural point: the images' values behind the front
  images_at_point : (us : List (Terms Fraction)) (n : ℕ) (s : List Fraction) → length s ≡ m
      → map (λ q. at q (point f.base n s)) (fronts ++ us) ≡ point f.base n
      (map (λ q. at q (point f.base n s)) us)
  images_at_point us n s l =
      images_at us (point f.base n s) (length-point n s l)
      ∙ ap (λ x. x ++ map (λ q. at q (point f.base n s)) us)
      (ap (take k) (sym (point-append f.base n s))
      ∙ take_at (point_of f.base n) s k ((points_of_base f.base).size n))
      ∙ point-append f.base n (map (λ q. at q (point f.base n s)) us)

  in_front_point : (p : Terms Fraction) (n : ℕ) (s : List Fraction) → length s ≡ m
      → at (in_front k p) (point f.base n s) ≡ at p s
  in_front_point p n s l = in_front_at k m p (point f.base n s) (length-point n s l)
      ∙ ap (at p) (ap (drop k) (sym (point-append f.base n s))
      ∙ drop_at (point_of f.base n) s k ((points_of_base f.base).size n))

  -- ---- what is the same at all natural points
  rs : List (Terms Fraction)
  rs = relations r m

  zero_member : (e : Terms Fraction) → Arity w e → ((n : ℕ) (s : List Fraction) → length s ≡ m
      → at e (point f.base n s) ≡ ℚ.zero) → IsMember ℚ w rs e
  unfolding rs Each
  zero_member e a h = (points_are_independent f.base coprime m).member [] tt e a
      (λ n. member_same m [] [] _ (nothing_at_point k m (point_of f.base) (points_of_base f.base) n
      e (λ s l. ap (at e) (point-append f.base n s) ∙ h n s l)) (member_nil m []))

  near_member : (hs : List (Terms Fraction)) → AllArity w hs
      → ((j : ℕ) → j < length rs → IsMember ℚ w hs (get_or rs j [])) → (x y : Terms Fraction)
      → Arity w x → Arity w y
      → ((n : ℕ) (s : List Fraction) → length s ≡ m → at x (point f.base n s)
      ≡ at y (point f.base n s)) → IsMember ℚ w hs y → IsMember ℚ w hs x
  near_member hs ha rels x y a c h i =
      let d : Terms Fraction = x ++ negate ℚ y in
      let da : Arity w d = arity-append w x _ a (arity-negate w ℚ y c) in
      member_same w hs _ x (split_same w x y a c) (member_append w hs ha d y da c
      (member_members w rs hs d ha da rels
      (zero_member d da (λ n s l. difference_zero x y (point f.base n s) (h n s l)))) i)

  -- ---- the other direction: n iterations forward of n iterations back
  length-powers : (g : ℕ → Fraction) → length (map g f.base) ≡ r
  length-powers g = length-map f.base g

  behind : (us vs s : List Fraction) → length us ≡ r → length vs ≡ r
      → drop (r + r) (us ++ (vs ++ s)) ≡ s
  behind us vs s l h = ap (drop (r + r)) (sym (append_assoc us vs s))
      ∙ drop_at (us ++ vs) s (r + r) (length-append us vs ∙ ap₂ ◌+◌ l h)

  before : (us vs s y : List Fraction) → length us ≡ r → length vs ≡ r
      → take (r + r) (us ++ (vs ++ s)) ++ y ≡ us ++ (vs ++ y)
  before us vs s y l h = ap (λ z. z ++ y) (ap (take (r + r)) (sym (append_assoc us vs s))
      ∙ take_at (us ++ vs) s (r + r) (length-append us vs ∙ ap₂ ◌+◌ l h)) ∙ append_assoc us vs y

  back-drop : (n : ℕ) (s : List Fraction) → drop k (back_point f.base n s) ≡ s
  back-drop n s = behind (iterations.inverses f.base n) (iterations.powers f.base n) s
      (length-powers _)
      (length-powers _)

  back-take : (n : ℕ) (s y : List Fraction) → take k (back_point f.base n s) ++ y
      ≡ back_point f.base n y
  back-take n s y = ap (λ z. ℚ.neg (whole (pos n)) ∷ iterations.sign n ∷ z)
      (before (iterations.inverses f.base n) (iterations.powers f.base n) s y (length-powers _)
      (length-powers _))

  length-back_point : (n : ℕ) (s : List Fraction) → length s ≡ m → length (back_point f.base n s)
      ≡ w
  length-back_point n s l = ap (λ x. suc (suc x)) (length-append (iterations.inverses f.base n)
      (iterations.powers f.base n ++ s)
      ∙ ap₂ ◌+◌ (length-powers _) (length-append (iterations.powers f.base n) s
      ∙ ap₂ ◌+◌ (length-powers _) l)) ∙ omega arith

  twice_back : (p : Terms Fraction) → Arity (width r m) p → (n : ℕ) (s : List Fraction)
      → at (inverse_form_terms r p) (back_point f.base n s) ≡ at p (point f.base n s)
  twice_back p a n s =
      turned_value f.base coprime m s (ℚ.neg (whole (pos n))) (iterations.sign n)
      (λ b. power ℚ (inverse (whole (pos b))) n) (λ b. power ℚ (whole (pos b)) n) p a
      ∙ ap (λ z.
      at p (z ∷ iterations.sign n ∷ (iterations.powers f.base n ++ (iterations.inverses f.base n
      ++ s))))
      (neg_neg (whole (pos n)))
    where
      neg_neg : (a : Fraction) → ℚ.neg (ℚ.neg a) ≡ a
      neg_neg a = ring ℚ_ring (a ∷ []) (search ring_rules depth 40) refl

  abbrev gone_back : ℕ → List Fraction → List Fraction
  gone_back n s = map (λ p. at p (back_point f.base n s)) f.polys

  one_back : (p v : Terms Fraction) → Arity (width r m) p → Arity w v → ((n : ℕ) (s : List Fraction)
      → length s ≡ m → at p (back_point f.base n (state_after program b n s))
      ≡ at v (point f.base n s))
      → (n : ℕ) (s : List Fraction) → length s ≡ m → at p (point f.base n (gone_back n s))
      ≡ at v (back_point f.base n s)
  unfolding rs
  one_back p v a c h n s l =
      let q : List Fraction = back_point f.base n s in
      let e : Terms Fraction = compose ℚ w (inverse_form_terms r p) (fronts ++ f.polys) in
      let ea : Arity w e = arity-compose w ℚ (inverse_form_terms r p) (fronts ++ f.polys)
      (images_arity f.polys fs_arity_w) in
      let d : Terms Fraction = e ++ negate ℚ v in
      let i : IsMember ℚ w rs d = zero_member d (arity-append w e _ ea (arity-negate w ℚ v c))
      (λ n s l. difference_zero e v (point f.base n s)
      (value_at-compose ℚ_ring w (inverse_form_terms r p) (fronts ++ f.polys) (point f.base n s)
      ∙ ap (at (inverse_form_terms r p)) (images_at_point f.polys n s l
      ∙ ap (point f.base n) (forward n s l))
      ∙ back-value f.base coprime m p a n (state_after program b n s) ∙ h n s l)) in
      let zero : at d q ≡ ℚ.zero = value_at_same ℚ_ring d (combination ℚ i.cofactors rs) q i.is
      ∙ combination_zero ℚ_ring i.cofactors rs q (zero_at_back_points f.base coprime m n s l) in
      let is : at e q ≡ at p (point f.base n (gone_back n s)) =
      value_at-compose ℚ_ring w (inverse_form_terms r p) (fronts ++ f.polys) q
      ∙ ap (at (inverse_form_terms r p)) (images_at f.polys q (length-back_point n s l)
      ∙ back-take n s (gone_back n s)) ∙ twice_back p a n (gone_back n s) in
      sym is ∙ eq_of_sub ℚ_ring (at e q) (at v q)
      (ap (ℚ.add (at e q)) (sym (value_at-negate ℚ_ring v q))
      ∙ sym (value_at-append ℚ_ring e (negate ℚ v) q) ∙ zero)

  all_back : (us vs : List (Terms Fraction)) → AllArity (width r m) us → AllArity w vs
      → ((n : ℕ) (s : List Fraction) → length s ≡ m
      → map (λ p. at p (back_point f.base n (state_after program b n s))) us
      ≡ map (λ p. at p (point f.base n s)) vs)
      → (n : ℕ) (s : List Fraction) → length s ≡ m
      → map (λ p. at p (point f.base n (gone_back n s))) us
      ≡ map (λ p. at p (back_point f.base n s)) vs
  unfolding Each
  all_back [] [] a c h n s l = refl
  all_back [] (v ∷ vs) a c h n s l = absurd (let e = ap length (h n s l) in omega (arith, e))
  all_back (p ∷ us) [] a c h n s l = absurd (let e = ap length (h n s l) in omega (arith, e))
  all_back (p ∷ us) (v ∷ vs) a c h n s l =
      ap₂ ◌∷◌ (one_back p v a.0 c.0 (λ n s l. same_head (h n s l)) n s l) (all_back us vs a.1 c.1
      (λ n s l. same_tail (h n s l)) n s l)

  back_then_forward : (n : ℕ) (s : List Fraction) → length s ≡ m
      → map (λ p. at p (point f.base n (gone_back n s))) f.polys ≡ s
  back_then_forward n s l =
      all_back f.polys (inner k m) fs_arity (inner_arity k m)
      (λ n s l. inverse_form_iterations n s l
      ∙ sym (inner_at k m (point f.base n s) (length-point n s l)
      ∙ ap (drop k) (sym (point-append f.base n s))
      ∙ drop_at (point_of f.base n) s k ((points_of_base f.base).size n)))
      n s l
      ∙ inner_at k m (back_point f.base n s) (length-back_point n s l) ∙ back-drop n s

  -- ---- the starting list
  abbrev O : Rank
  O = blocks k grevlex grevlex

  O_order : IsMonomialOrder O
  O_order = blocks_order k grevlex grevlex grevlex_order grevlex_order

  abbrev pulled_back : Terms Fraction → Terms Fraction
  pulled_back g = collect rationals O (with_normal_keys r (compose ℚ w g backs))

  pulled_back_arity : (g : Terms Fraction) → Arity w (pulled_back g)
  pulled_back_arity g =
      to_w _ ((collect-polynomial ℚ_field O O_order (width r m)
      (with_normal_keys r (compose ℚ w g backs))
      (arity-normalized r m _ (from_w _ (arity-compose w ℚ g backs backs_arity)))).arity)

  pulled_back_at : (g : Terms Fraction) (n : ℕ) (s : List Fraction)
      → at (pulled_back g) (point f.base n s)
      ≡ at g (gone_back n s)
  pulled_back_at g n s =
      value_at_same ℚ_ring _ _ (point f.base n s) (collect-same ℚ_field O O_order
      (with_normal_keys r (compose ℚ w g backs)))
      ∙ normal-value f.base coprime m (compose ℚ w g backs)
      (from_w _ (arity-compose w ℚ g backs backs_arity)) n s
      ∙ value_at-compose ℚ_ring w g backs (point f.base n s) ∙ ap (at g) (backs_at n s)

  module _ (gs : List (Terms Fraction)) (ga : AllArity m gs) where
    abbrev left_list : List (Terms Fraction)
    left_list = map pulled_back gs

    abbrev right_list : List (Terms Fraction)
    right_list = map (collect rationals O) rs

    rs_arity : AllArity w rs
    unfolding rs
    rs_arity = arity_relations r m

    left_arity : AllArity w left_list
    left_arity = each-map (Arity w) pulled_back gs (each_of (λ g. Arity w (pulled_back g))
        pulled_back_arity gs)

    right_arity : AllArity w right_list
    right_arity = each-map (Arity w) (collect rationals O) rs (each_weaker (Arity w)
        (λ q. Arity w (collect rationals O q)) (λ q a.
        (collect-polynomial ℚ_field O O_order w q a).arity) rs rs_arity)

    hs_arity : AllArity w (left_list ++ right_list)
    hs_arity = each-append (Arity w) left_list right_list left_arity right_arity

    padded_arity : AllArity w (map (in_front k) gs ++ rs)
    padded_arity = each-append (Arity w) (map (in_front k) gs) rs (arity-padded k m gs ga) rs_arity

    -- the relations are members of both lists
    relations_in : (j : ℕ) → j < length rs → IsMember ℚ w (left_list ++ right_list) (get_or rs j [])
    relations_in j l = member_right w left_list right_list (get_or rs j []) left_arity right_arity
        (arity_at w rs rs_arity j)
        (member_same w right_list _ _ (Same-sym ℚ (collect-same ℚ_field O O_order (get_or rs j [])))
        (subst (IsMember ℚ w right_list) (get_or-map (collect rationals O) rs j [] [] l)
        (member_at w right_list right_arity j
        (subst (λ n. j < n) (sym (length-map rs (collect rationals O))) l))))

    zeros_each : (n : ℕ) (s : List Fraction) → length s ≡ m
        → Each (λ q. at q (point f.base n s) ≡ ℚ.zero) rs
    unfolding rs
    zeros_each n s l = all_each (λ q. at q (point f.base n s) ≡ ℚ.zero) (relations r m)
        (zero_at_points f.base coprime m n s l)

    -- ---- from the starting list
    turned_length : (n : ℕ) (s : List Fraction) → length s ≡ m → length (state_after program b n s)
        ≡ m
    turned_length n s l = turned_keeps program b n s l

    forward_images : (h : Terms Fraction) (n : ℕ) (s : List Fraction) → length s ≡ m
        → at (compose ℚ w h (fronts ++ f.polys)) (point f.base n s)
        ≡ at h (point f.base n (state_after program b n s))
    forward_images h n s l = value_at-compose ℚ_ring w h (fronts ++ f.polys) (point f.base n s)
        ∙ ap (at h) (images_at_point f.polys n s l ∙ ap (point f.base n) (forward n s l))

    inverse_form_images : (h : Terms Fraction) (n : ℕ) (s : List Fraction) → length s ≡ m
        → at (compose ℚ w h (fronts ++ backs)) (point f.base n s)
        ≡ at h (point f.base n (gone_back n s))
    inverse_form_images h n s l = value_at-compose ℚ_ring w h (fronts ++ backs) (point f.base n s)
        ∙ ap (at h) (images_at_point backs n s l ∙ ap (point f.base n) (backs_at n s))

    gone_back_length : (n : ℕ) (s : List Fraction) → length (gone_back n s) ≡ m
    gone_back_length n s = length-map f.polys _ ∙ count

    padded_member : (e : Terms Fraction) → Arity w e
        → ((n : ℕ) → IsMember ℚ m gs (at_point k m (point_of f.base) n e))
        → IsMember ℚ w (map (in_front k) gs ++ rs) e
    unfolding rs
    padded_member e a h = (points_are_independent f.base coprime m).member gs ga e a h

    at_point_same : (n : ℕ) (e g : Terms Fraction) → Arity m g → ((s : List Fraction) → length s ≡ m
        → at e (point f.base n s) ≡ at g s) → Same ℚ (at_point k m (point_of f.base) n e) g
    at_point_same n e g a h =
        same_by_values m _ g (arity-at_point k m (point_of f.base) (points_of_base f.base) n e) a
        (λ s l. value_at_point k m (point_of f.base) (points_of_base f.base) n e s l
        ∙ ap (at e) (point-append f.base n s) ∙ h s l)

    forward_member : (h g : Terms Fraction) → Arity w h → Arity m g → IsMember ℚ m gs g
        → ((n : ℕ) (s : List Fraction) → length s ≡ m
        → at h (point f.base n (state_after program b n s))
        ≡ at g s)
        → IsMember ℚ w (map (in_front k) gs ++ rs) (compose ℚ w h (fronts ++ f.polys))
    forward_member h g a c i at_h = padded_member (compose ℚ w h (fronts ++ f.polys))
        (arity-compose w ℚ h (fronts ++ f.polys) (images_arity f.polys fs_arity_w))
        (λ n. member_same m gs g _ (at_point_same n (compose ℚ w h (fronts ++ f.polys)) g c (λ s l.
        forward_images h n s l ∙ at_h n s l)) i)

    lefts : (us : List (Terms Fraction)) → AllArity m us → Each (IsMember ℚ m gs) us
        → Each (λ h. IsMember ℚ w (map (in_front k) gs ++ rs) (compose ℚ w h (fronts ++ f.polys)))
        (map pulled_back us)
    unfolding Each
    lefts [] a i = tt
    lefts (u ∷ us) a i = (
      forward_member (pulled_back u) u (pulled_back_arity u) a.0 i.0 (λ n s l.
          pulled_back_at u n (state_after program b n s)
          ∙ ap (at u) (inverse_form_iterations n s l)),
      lefts us a.1 i.1,
    )

    rights : (us : List (Terms Fraction)) → AllArity w us → ((n : ℕ) (s : List Fraction)
        → length s ≡ m → Each (λ q. at q (point f.base n s) ≡ ℚ.zero) us)
        → Each (λ h. IsMember ℚ w (map (in_front k) gs ++ rs) (compose ℚ w h (fronts ++ f.polys)))
        (map (collect rationals O) us)
    unfolding Each evaluate sum_over
    rights [] a z = tt
    rights (u ∷ us) a z = (
      forward_member (collect rationals O u) []
          ((collect-polynomial ℚ_field O O_order w u a.0).arity) tt (member_nil m gs)
          (λ n s l. value_at_same ℚ_ring _ _ (point f.base n (state_after program b n s))
          (collect-same ℚ_field O O_order u)
          ∙ (z n (state_after program b n s) (turned_length n s l)).0),
      rights us a.1 (λ n s l. (z n s l).1),
    )

    from_start : (p : Terms Fraction) → Arity m p → IsMember ℚ w (left_list ++ right_list)
        (in_front k p) → IsMember ℚ w (map (in_front k) gs ++ rs) (compose ℚ w p f.polys)
    from_start p a i = member_same w _ (compose ℚ w (in_front k p) (fronts ++ f.polys)) _
        (same_by_values w _ _ (arity-compose w ℚ p f.polys fs_arity_w)
        (arity-compose w ℚ (in_front k p) (fronts ++ f.polys)
        (images_arity f.polys fs_arity_w))
        (λ s l.
        value_at-compose ℚ_ring w p f.polys s
        ∙ sym (value_at-compose ℚ_ring w (in_front k p) (fronts ++ f.polys) s
        ∙ ap (at (in_front k p)) (images_at f.polys s l) ∙ in_front_images p s l)))
        (member_turned w w (left_list ++ right_list) (map (in_front k) gs ++ rs) (fronts ++ f.polys)
        (in_front k p) hs_arity padded_arity (images_arity f.polys fs_arity_w)
        (arity-pad k m p a)
        (each_place (λ h. IsMember ℚ w (map (in_front k) gs ++ rs)
        (compose ℚ w h (fronts ++ f.polys))) (left_list ++ right_list)
        (each-append _ left_list right_list
        (lefts gs ga (place_each (IsMember ℚ m gs) gs (member_at m gs ga)))
        (rights rs rs_arity zeros_each))) i)
      where
        in_front_images : (p : Terms Fraction) (s : List Fraction) → length s ≡ w
            → at (in_front k p) (take k s ++ map (λ q. at q s) f.polys)
            ≡ at p (map (λ q. at q s) f.polys)
        in_front_images p s l =
            let lt : length (take k s) ≡ k = length-take k s ∙ grind (arith, l) in
            in_front_at k m p (take k s ++ map (λ q. at q s) f.polys) (length-append (take k s) _
            ∙ ap₂ ◌+◌ lt (length-map f.polys _ ∙ count))
            ∙ ap (at p) (drop_at (take k s) (map (λ q. at q s) f.polys) k lt)

    -- ---- to the starting list
    back_lefts : (us : List (Terms Fraction))
        → Each (λ g. IsMember ℚ w (left_list ++ right_list) (pulled_back g)) us
        → Each (λ h. IsMember ℚ w (left_list ++ right_list) (compose ℚ w h (fronts ++ backs)))
        (map (in_front k) us)
    unfolding Each
    back_lefts [] i = tt
    back_lefts (u ∷ us) i = (
      near_member (left_list ++ right_list) hs_arity relations_in
          (compose ℚ w (in_front k u) (fronts ++ backs)) (pulled_back u)
          (arity-compose w ℚ (in_front k u) (fronts ++ backs) (images_arity backs backs_arity))
          (pulled_back_arity u)
          (λ n s l. inverse_form_images (in_front k u) n s l
          ∙ in_front_point u n (gone_back n s) (gone_back_length n s)
          ∙ sym (pulled_back_at u n s)) i.0,
      back_lefts us i.1,
    )

    back_rights : (us : List (Terms Fraction)) → ((n : ℕ) (s : List Fraction) → length s ≡ m
        → Each (λ q. at q (point f.base n s) ≡ ℚ.zero) us)
        → Each (λ h. IsMember ℚ w (left_list ++ right_list) (compose ℚ w h (fronts ++ backs))) us
    unfolding Each evaluate sum_over
    back_rights [] z = tt
    back_rights (u ∷ us) z = (
      near_member (left_list ++ right_list) hs_arity relations_in (compose ℚ w u (fronts ++ backs))
          [] (arity-compose w ℚ u (fronts ++ backs) (images_arity backs backs_arity)) tt
          (λ n s l. inverse_form_images u n s l ∙ (z n (gone_back n s) (gone_back_length n s)).0)
          (member_nil w (left_list ++ right_list)),
      back_rights us (λ n s l. (z n s l).1),
    )

    pulled_back_in : (j : ℕ) → j < length gs → IsMember ℚ w (left_list ++ right_list)
        (pulled_back (get_or gs j []))
    pulled_back_in j l = member_left w left_list right_list (pulled_back (get_or gs j []))
        left_arity
        right_arity (pulled_back_arity (get_or gs j []))
        (subst (IsMember ℚ w left_list) (get_or-map pulled_back gs j [] [] l)
        (member_at w left_list left_arity j (subst (λ n. j < n) (sym (length-map gs pulled_back))
        l)))

    to_start : (p : Terms Fraction) → Arity m p → IsMember ℚ w (map (in_front k) gs ++ rs)
        (compose ℚ w p f.polys) → IsMember ℚ w (left_list ++ right_list) (in_front k p)
    to_start p a i =
        near_member (left_list ++ right_list) hs_arity relations_in (in_front k p)
        (compose ℚ w (compose ℚ w p f.polys) (fronts ++ backs)) (arity-pad k m p a)
        (arity-compose w ℚ _ (fronts ++ backs) (images_arity backs backs_arity))
        (λ n s l. in_front_point p n s l ∙ sym (inverse_form_images (compose ℚ w p f.polys) n s l
        ∙ value_at-compose ℚ_ring w p f.polys (point f.base n (gone_back n s))
        ∙ ap (at p) (back_then_forward n s l)))
        (member_turned w w (map (in_front k) gs ++ rs) (left_list ++ right_list) (fronts ++ backs)
        (compose ℚ w p f.polys) padded_arity hs_arity (images_arity backs backs_arity)
        (arity-compose w ℚ p f.polys fs_arity_w)
        (each_place (λ h. IsMember ℚ w (left_list ++ right_list) (compose ℚ w h (fronts ++ backs)))
        (map (in_front k) gs ++ rs)
        (each-append _ (map (in_front k) gs) rs
        (back_lefts gs (place_each (λ g. IsMember ℚ w (left_list ++ right_list) (pulled_back g))
        gs pulled_back_in)) (back_rights rs zeros_each))) i)

    starting_each : Each (IsPolynomial ℚ O w) (left_list ++ right_list)
    starting_each = each-append (IsPolynomial ℚ O w) left_list right_list
        (each-map (IsPolynomial ℚ O w) pulled_back gs
        (each_of (λ g. IsPolynomial ℚ O w (pulled_back g))
        (λ g. collect-polynomial ℚ_field O O_order w _
        (to_w _ (arity-normalized r m _
        (from_w _ (arity-compose w ℚ g backs backs_arity))))) gs))
        (each-map (IsPolynomial ℚ O w) (collect rationals O) rs (each_weaker (Arity w)
        (λ q. IsPolynomial ℚ O w (collect rationals O q)) (λ q a.
        collect-polynomial ℚ_field O O_order w q a) rs rs_arity))

    pub starting_polynomials : Each (IsPolynomial ℚ (blocks (front (length f.base)) grevlex grevlex)
        (front (length f.base) + length program.names))
        (map (λ g. collect rationals (blocks (front (length f.base)) grevlex grevlex)
        (with_normal_keys (length f.base)
        (compose ℚ (front (length f.base) + length program.names) g
        (map (λ p. collect rationals grevlex (inverse_form_terms (length f.base) p))
        f.polys)))) gs
        ++ map (collect rationals (blocks (front (length f.base)) grevlex grevlex))
        (relations (length f.base) (length program.names)))
    unfolding rs backs
    starting_polynomials = starting_each

    pub closed_form_pulls_back : PullsBack (front (length f.base)) (length program.names) f.polys
        (relations (length f.base) (length program.names)) gs
        (map (λ g. collect rationals (blocks (front (length f.base)) grevlex grevlex)
        (with_normal_keys (length f.base)
        (compose ℚ (front (length f.base) + length program.names) g
        (map (λ p. collect rationals grevlex (inverse_form_terms (length f.base) p))
        f.polys)))) gs
        ++ map (collect rationals (blocks (front (length f.base)) grevlex grevlex))
        (relations (length f.base) (length program.names)))
    unfolding rs backs
    closed_form_pulls_back = record { exactly = λ p a. (from_start p a, to_start p a) }
