-- A closed form from some number of iterations on tells what the variables were: those that are themselves at n = 0 by the inverse form, the others by their copies.
--   before_values        what was, from values place by place;  before_arity: as polynomials in the variables of the form and the copies
--   form_before_is       with the inverse form, from `since` iterations on
--   relations_are_wide   the relations, with the copies behind them
--   late_orbit       so its graph gives the orbit from there on
--   widened_arity, widened_value      a polynomial with room for the copies, and its values
use Rattle.std.proofs.Common.{◌≡◌, ℕ, zero, suc, ◌+◌, ◌<◌, ◌≤◌, Bool, true, false, cond, List, [], ◌∷◌, ◌++◌, map, get_or, take, drop, length, arith, refl, sym, ap, ap₂, subst, ◌∙◌, All, drop-cons, append_assoc}
use Rattle.std.proofs.lemmas.List.{length-map, length-append, get_or-map, get_or_append_left, get_or-append-add, get_or-take, drop_at}
use Rattle.algebra.specs.Each.{Each}
use Rattle.algebra.proofs.Lists.{length-front}
use Rattle.algebra.proofs.Basics.{same_head, same_tail}
use Rattle.exponentials.specs.Base.{Coprime}
use Rattle.algebra.specs.Fraction.{Fraction, ℚ}
use Rattle.algebra.proofs.Fractions.{ℚ_ring}
use Rattle.polynomials.specs.Terms.{Terms, Same, AllSame, constant, variables, times, negate}
use Rattle.polynomials.specs.Polynomial.{Arity, AllArity}
use Rattle.polynomials.proofs.Arity.{arity-append, arity-times, arity-negate, arity-constant, arity-compose, arity-variables, arity_at}
use Rattle.polynomials.proofs.ByValues.{same_by_values}
use Rattle.polynomials.proofs.ValueAt.{value_at-append, value_at-times, value_at-negate, value_at-constant, value_at-compose, value_at-variables}
use Rattle.solvable_maps.specs.Iterations as iterations
use Rattle.solvable_maps.specs.Iterations.{point, values_at, IsItself}
use Rattle.solvable_maps.specs.Expo.{inverse_form_terms}
use Rattle.solvable_maps.proofs.Operations.{point-append}
use Rattle.solvable_maps.proofs.OneForm.{inverse_form_to_zero}
use Rattle.machines.proofs.Padding.{at, inner-is, inner_arity, inner_at}
use Rattle.loops.specs.Program.{Expr, Program}
use Rattle.loops.specs.Map.{branch_map}
use Rattle.loops.specs.Run.{IsState}
use Rattle.loops.proofs.Maps.{length-branch_map, length-variables}
use Rattle.rounds.specs.Word.{branch_of}
use Rattle.rounds.specs.Form.{Form, front, point_of, variable_at, relation, relations_to, relations, copies, passing, with_room_for, before_by, form_before}
use Rattle.rounds.specs.Orbit.{state_after, IsFormAt, IsEliminated}
use Rattle.rounds.proofs.Independent.{points_of_base, arity_relations}
use Rattle.rounds.proofs.Relations.{zero_at_points}
use Rattle.rounds.specs.Graph.{IsBefore, images_behind, at_before, graph_list, AreWide}
use Rattle.rounds.specs.Round.{IsOrbitAt}
use Rattle.rounds.proofs.BranchIterations.{bm, turned_keeps, iterations-are, form_count}
use Rattle.rounds.proofs.Graph.{put_arity, put_at, graph_arity, graph_gives_orbit}
use Rattle.rounds.proofs.Later.{points_from, points_from_are_independent}

-- ---- values place by place
pub variable_value : (w : ℕ) (p : List Fraction) → length p ≡ w → (i : ℕ) → i < w
    → at (variable_at w i) p ≡ get_or p i ℚ.zero
variable_value w p l i h = sym (get_or-map (λ q. at q p) (variables ℚ w) i [] ℚ.zero (let e =
    length-variables w in omega (arith, e, h)))
    ∙ ap (λ z. get_or z i ℚ.zero) (value_at-variables ℚ_ring w p l)

module _ (k t m : ℕ) where
  abbrev w : ℕ
  w = k + t + m

  last : List (Terms Fraction)
  last = drop (k + t) (variables ℚ (k + t + m))

  last_arity : AllArity w last
  unfolding last
  last_arity = subst (AllArity w) (inner-is (k + t) m) (inner_arity (k + t) m)

  pub widened_arity : (p : Terms Fraction) → Arity (k + t + m) (with_room_for k t m p)
  unfolding last
  widened_arity p = arity-compose w ℚ p (images_behind k w last) (put_arity k w last last_arity)

  take_first : (x y : List Fraction) → length x ≡ k → take k (x ++ y) ≡ x
  take_first x y l = ap (λ n. take n (x ++ y)) (sym l) ∙ exact x y
    where
      exact : (x y : List Fraction) → take (length x) (x ++ y) ≡ x
      exact [] y = refl
      exact (a ∷ x) y = ap (λ z. a ∷ z) (exact x y)

  pub widened_value : (p : Terms Fraction) (x c y : List Fraction) → length x ≡ k → length c ≡ t
      → length y ≡ m → at (with_room_for k t m p) (x ++ (c ++ y)) ≡ at p (x ++ y)
  unfolding last
  widened_value p x c y lx lc ly =
      let s : List Fraction = x ++ (c ++ y) in
      let ls : length s ≡ w = length-append x (c ++ y) ∙ ap₂ ◌+◌ lx (length-append c y
      ∙ ap₂ ◌+◌ lc ly) ∙ omega arith in
      value_at-compose ℚ_ring w p (images_behind k w last) s
      ∙ ap (at p) (put_at k w last s ls
      ∙ ap₂ ◌++◌ (take_first x (c ++ y) lx) (ap (map (λ q. at q s)) (sym (inner-is (k + t) m))
      ∙ inner_at (k + t) m s ls ∙ ap (drop (k + t)) (sym (append_assoc x c y))
      ∙ drop_at (x ++ c) y (k + t) (length-append x c ∙ ap₂ ◌+◌ lx lc)))

-- ---- what was
drop_is : (cs : List Fraction) (j : ℕ) (a : Fraction) (l : List Fraction) → drop j cs ≡ a ∷ l
    → (j < length cs) × (get_or cs j ℚ.zero ≡ a) × (drop (suc j) cs ≡ l)
drop_is [] zero a l e = absurd (let q = ap length e in omega (arith, q))
drop_is [] (suc j) a l e = absurd (let q = ap length e in omega (arith, q))
drop_is (x ∷ cs) zero a l e = (omega arith, same_head e, same_tail e)
drop_is (x ∷ cs) (suc j) a l e = let r = drop_is cs j a l e in (
  let low : j < length cs = r.0 in
      omega (arith, low),
  r.1,
  r.2,
)

copies_arity : (m : ℕ) (passes : ℕ → Bool) (n i : ℕ) → AllArity m (copies m passes i n)
unfolding Each
copies_arity m passes zero i = tt
copies_arity m passes (suc n) i = go (passes i) (copies_arity m passes n (suc i))
  where
    go : (b : Bool) → AllArity m (copies m passes (suc i) n)
        → AllArity m (cond b (variable_at m i ∷ copies m passes (suc i) n)
        (copies m passes (suc i) n))
    go true h = (arity_at m (variables ℚ m) (arity-variables m ℚ) i, h)
    go false h = h

pub all_copies_arity : (m : ℕ) (passes : ℕ → Bool) → AllArity m (copies m passes 0 m)
all_copies_arity m passes = copies_arity m passes m 0

module _ (k t m : ℕ) (passes : ℕ → Bool) (x cs s y : List Fraction) (lx : length x ≡ k)
    (lc : length cs ≡ t) (ls : length s ≡ m) (ly : length y ≡ m) where
  abbrev place : List Fraction
  place = x ++ (cs ++ y)

  place-length : length place ≡ k + t + m
  place-length = length-append x (cs ++ y) ∙ ap₂ ◌+◌ lx (length-append cs y ∙ ap₂ ◌+◌ lc ly)
      ∙ omega arith

  copy_value : (j : ℕ) → j < t → at (variable_at (k + t + m) (k + j)) place ≡ get_or cs j ℚ.zero
  copy_value j h =
      variable_value (k + t + m) place place-length (k + j) (omega (arith, h))
      ∙ ap (λ n. get_or place (n + j) ℚ.zero) (sym lx) ∙ get_or-append-add x (cs ++ y) j ℚ.zero
      ∙ get_or_append_left cs y ℚ.zero j (omega (arith, lc, h))

  pub before_values : (ps : List (Terms Fraction)) (i j : ℕ) → length ps + i ≡ m
      → map (λ c. at c s) (copies m passes i (length ps)) ≡ drop j cs
      → ((a : ℕ) → a < length ps → passes (i + a) ≡ false → at (get_or ps a []) (x ++ y)
      ≡ get_or s (i + a) ℚ.zero)
      → map (λ b. at b (x ++ (cs ++ y))) (before_by (k + t + m) k passes i j
      (map (with_room_for k t m) ps)) ≡ drop i s
  before_values [] i j e agree h = sym (nothing_left s i (omega (arith, e, ls)))
    where
      nothing_left : (s : List Fraction) (i : ℕ) → length s ≡ i → drop i s ≡ []
      nothing_left [] zero l = refl
      nothing_left [] (suc i) l = refl
      nothing_left (a ∷ s) zero l = absurd (omega arith)
      nothing_left (a ∷ s) (suc i) l = nothing_left s i (omega (arith, l))
  before_values (p ∷ ps) i j e agree h = go (passes i) refl agree
      (λ j' q. before_values ps (suc i) j' (omega (arith, e)) q (λ a l f. let q : i + suc a ≡ suc i
      + a = omega arith in h (suc a) (omega arith) (ap passes q ∙ f)
      ∙ ap (λ n. get_or s n ℚ.zero) q))
    where
      low : i < m
      low = omega (arith, e)

      zero_more : i + 0 ≡ i
      zero_more = omega arith

      whole : get_or s i ℚ.zero ∷ drop (suc i) s ≡ drop i s
      whole = sym (drop-cons s i ℚ.zero (omega (arith, e, ls)))

      go : (b : Bool) → passes i ≡ b
          → map (λ c. at c s) (cond b (variable_at m i ∷ copies m passes (suc i) (length ps))
          (copies m passes (suc i) (length ps))) ≡ drop j cs
          → ((j' : ℕ) → map (λ c. at c s) (copies m passes (suc i) (length ps)) ≡ drop j' cs
          → map (λ b. at b place) (before_by (k + t + m) k passes (suc i) j'
          (map (with_room_for k t m) ps)) ≡ drop (suc i) s)
          → map (λ b. at b place) (cond b (variable_at (k + t + m) (k + j) ∷ before_by (k + t + m) k
          passes (suc i) (suc j) (map (with_room_for k t m) ps)) (with_room_for k t m p
          ∷ before_by (k + t + m) k passes (suc i) j (map (with_room_for k t m) ps))) ≡ drop i s
      go true f q later =
          let r = drop_is cs j (at (variable_at m i) s)
          (map (λ c. at c s) (copies m passes (suc i) (length ps))) (sym q) in
          let below : j < length cs = r.0 in
          ap₂ ◌∷◌ (copy_value j (omega (arith, below, lc)) ∙ r.1 ∙ variable_value m s ls i low)
          (later (suc j) (sym r.2)) ∙ whole
      go false f q later =
          ap₂ ◌∷◌ (widened_value k t m p x cs y lx lc ly ∙ h 0 (omega arith) (ap passes zero_more
          ∙ f) ∙ ap (λ n. get_or s n ℚ.zero) zero_more) (later j q) ∙ whole

pub before_arity : (k t m : ℕ) (passes : ℕ → Bool) (ps : List (Terms Fraction)) (i j : ℕ)
    → AllArity (k + t + m) (before_by (k + t + m) k passes i j (map (with_room_for k t m) ps))
unfolding Each
before_arity k t m passes [] i j = tt
before_arity k t m passes (p ∷ ps) i j = go (passes i) (before_arity k t m passes ps (suc i))
  where
    go : (b : Bool)
        → ((j : ℕ)
        → AllArity (k + t + m) (before_by (k + t + m) k passes (suc i) j
        (map (with_room_for k t m) ps)))
        → AllArity (k + t + m) (cond b (variable_at (k + t + m) (k + j) ∷ before_by (k + t + m) k
        passes (suc i) (suc j) (map (with_room_for k t m) ps)) (with_room_for k t m p
        ∷ before_by (k + t + m) k passes (suc i) j (map (with_room_for k t m) ps)))
    go true h = (
      arity_at (k + t + m) (variables ℚ (k + t + m)) (arity-variables (k + t + m) ℚ)
          (k + j),
      h (suc j),
    )
    go false h = (widened_arity k t m p, h j)

pub before_length : (k t m : ℕ) (passes : ℕ → Bool) (ps : List (Terms Fraction)) (i j : ℕ)
    → length (before_by (k + t + m) k passes i j (map (with_room_for k t m) ps)) ≡ length ps
before_length k t m passes [] i j = refl
before_length k t m passes (p ∷ ps) i j = go (passes i) (before_length k t m passes ps (suc i))
  where
    go : (b : Bool)
        → ((j : ℕ)
        → length (before_by (k + t + m) k passes (suc i) j (map (with_room_for k t m) ps))
        ≡ length ps)
        → length (cond b (variable_at (k + t + m) (k + j) ∷ before_by (k + t + m) k passes (suc i)
        (suc j) (map (with_room_for k t m) ps)) (with_room_for k t m p ∷ before_by (k + t + m) k
        passes
        (suc i) j (map (with_room_for k t m) ps))) ≡ suc (length ps)
    go true h = ap suc (h (suc j))
    go false h = ap suc (h j)

-- ---- the relations with the copies
relation_value : (w i j : ℕ) (p : List Fraction) → length p ≡ w → i < w → j < w
    → at (relation w i j) p ≡ ℚ.add (ℚ.mul (get_or p i ℚ.zero) (get_or p j ℚ.zero)) (ℚ.neg ℚ.one)
unfolding relation
relation_value w i j p l hi hj =
    value_at-append ℚ_ring (times ℚ (variable_at w i) (variable_at w j))
    (negate ℚ (constant w ℚ.one)) p
    ∙ ap₂ ℚ.add (value_at-times ℚ_ring (variable_at w i) (variable_at w j) p
    ∙ ap₂ ℚ.mul (variable_value w p l i hi) (variable_value w p l j hj))
    (value_at-negate ℚ_ring (constant w ℚ.one) p
    ∙ ap ℚ.neg (value_at-constant ℚ_ring w ℚ.one p))

relation_arity : (w i j : ℕ) → Arity w (relation w i j)
unfolding relation
relation_arity w i j = arity-append w _ _ (arity-times w ℚ (variable_at w i) (variable_at w j)
    (arity_at w (variables ℚ w) (arity-variables w ℚ) i)
    (arity_at w (variables ℚ w) (arity-variables w ℚ) j)) (arity-negate w ℚ (constant w ℚ.one)
    (arity-constant w ℚ.one))

module _ (r t m : ℕ) (before : List (Terms Fraction)) (ba : AllArity (front r + t + m) before)
    (lb : length before ≡ m) where
  abbrev k : ℕ
  k = front r

  wide-is : front r + (t + m) ≡ front r + t + m
  wide-is = omega arith

  relation_same : (i j : ℕ) → i < front r → j < front r
      → Same ℚ (at_before (front r) t m before (relation (front r + m) i j))
      (relation (front r + (t + m)) i j)
  relation_same i j hi hj = subst (λ n. Same ℚ (at_before k t m before (relation (k + m) i j))
      (relation n i j)) (sym wide-is)
      (same_by_values (k + t + m) _ _ (arity-compose (k + t + m) ℚ (relation (k + m) i j)
      (images_behind k (k + t + m) before) (put_arity k (k + t + m) before ba))
      (relation_arity (k + t + m) i j)
      (λ s l.
      value_at-compose ℚ_ring (k + t + m) (relation (k + m) i j)
      (images_behind k (k + t + m) before) s
      ∙ ap (at (relation (k + m) i j)) (put_at k (k + t + m) before s l)
      ∙ relation_value (k + m) i j (take k s ++ map (λ q. at q s) before) (long s l) (omega arith)
      (omega arith)
      ∙ ap₂ (λ a b. ℚ.add (ℚ.mul a b) (ℚ.neg ℚ.one)) (front_at s l i hi) (front_at s l j hj)
      ∙ sym (relation_value (k + t + m) i j s l (omega arith) (omega arith))))
    where
      front-length : (s : List Fraction) → length s ≡ k + t + m → length (take k s) ≡ k
      front-length s l = length-front k (t + m) s (l ∙ omega arith)

      long : (s : List Fraction) → length s ≡ k + t + m
          → length (take k s ++ map (λ q. at q s) before) ≡ k + m
      long s l = length-append (take k s) _ ∙ ap₂ ◌+◌ (front-length s l) (length-map before _ ∙ lb)

      front_at : (s : List Fraction) → length s ≡ k + t + m → (i : ℕ) → i < k
          → get_or (take k s ++ map (λ q. at q s) before) i ℚ.zero ≡ get_or s i ℚ.zero
      front_at s l i h = get_or_append_left (take k s) _ ℚ.zero i (let e = front-length s l in
          omega (arith, e, h)) ∙ get_or-take k s i ℚ.zero h

  pairs_same : (n : ℕ) → n ≤ r
      → AllSame ℚ (map (at_before (front r) t m before) (relations_to r (front r + m) n))
      (relations_to r (front r + (t + m)) n)
  unfolding relations_to AllSame
  pairs_same zero h = tt
  pairs_same (suc n) h = same_append (relations_to r (front r + m) n)
      (relations_to r (front r + (t + m)) n) _ _ (pairs_same n (omega arith))
      (relation_same (suc (suc n)) (suc (suc (r + n))) (omega arith) (omega arith))
    where
      same_append : (us vs : List (Terms Fraction)) (x y : Terms Fraction)
          → AllSame ℚ (map (at_before k t m before) us) vs → Same ℚ (at_before k t m before x) y
          → AllSame ℚ (map (at_before k t m before) (us ++ x ∷ [])) (vs ++ y ∷ [])
      same_append [] [] x y a s = (s, tt)
      same_append [] (v ∷ vs) x y a s = absurd a
      same_append (u ∷ us) [] x y a s = absurd a
      same_append (u ∷ us) (v ∷ vs) x y a s = (a.0, same_append us vs x y a.1 s)

  relations_same : AllSame ℚ (map (at_before (front r) t m before) (relations r m))
      (relations r (t + m))
  unfolding AllSame
  relations_same = (relation_same 1 1 (omega arith) (omega arith), pairs_same r (omega arith))

pub relations_are_wide : (bs : List ℕ) → Coprime bs → (t m d : ℕ) (before : List (Terms Fraction))
    → AllArity (front (length bs) + t + m) before → length before ≡ m
    → AreWide (front (length bs)) t m (λ n. point_of bs (d + n)) before (relations (length bs) m)
    (relations (length bs) (t + m))
relations_are_wide bs c t m d before ba lb = record {
  arities = arity_relations (length bs) m;
  wide_arities = subst (λ n. AllArity n (relations (length bs) (t + m))) (omega arith)
      (arity_relations (length bs) (t + m));
  same = relations_same (length bs) t m before ba lb;
  zero = λ n x l. subst (λ z. All (λ q. at q z ≡ ℚ.zero) (relations (length bs) (t + m)))
      (sym (point-append bs (d + n) x)) (zero_at_points bs c (t + m) (d + n) x l);
}

-- ---- a branch
-- the graph of a form, before it is made normal
abbrev pub orbit_graph : Form → ℕ → (ℕ → Bool) → List (Terms Fraction) → List (Terms Fraction)
orbit_graph f m passes gs =
    let t = passing m passes in
    graph_list (front (length f.base)) t m (form_before f m passes) f.polys
    (relations (length f.base) (t + m)) gs

module _ {At : Type 0} (program : Program (Expr At)) (b since : ℕ) (f : Form)
    (coprime : Coprime f.base)
    (is : iterations.IsClosedFormFrom f.base (branch_map program (branch_of program b)) since
    f.polys)
    (passes : ℕ → Bool)
    (stays : (i : ℕ) → i < length program.names → passes i ≡ false
    → IsItself f.base (length program.names) f.polys i) where
  abbrev m : ℕ
  m = length program.names

  size : length (bm program b) ≡ m
  size = length-branch_map program (branch_of program b)

  form_at : (n : ℕ) (s : List Fraction) → IsState program s
      → values_at f.polys (point f.base (since + n) s) ≡ state_after program b (since + n) s
  form_at n s st = is.values (since + n) s (st ∙ sym size) (omega arith)
      ∙ iterations-are program b (since + n) s st

  polys-length : length f.polys ≡ m
  polys-length = form_count program b f.base since f.polys is

  front-length : (n : ℕ) → length (point_of f.base n) ≡ front (length f.base)
  front-length n = (points_of_base f.base).size n

  polys_arity : AllArity (front (length f.base) + m) f.polys
  polys_arity = subst (λ n. AllArity n f.polys) (let e = size in omega (arith, e)) is.arity

  pub late_form_at : IsFormAt program b (front (length f.base)) (λ n. point_of f.base (since + n))
      (λ n. since + n) f.polys
  late_form_at = record {
    arities = polys_arity;
    iterations = λ n s st. ap (λ z. map (λ p. at p z) f.polys) (point-append f.base (since + n) s)
        ∙ form_at n s st;
  }

  -- how many variables pass
  abbrev t : ℕ
  t = passing (length program.names) passes

  abbrev told : List (Terms Fraction)
  told = copies (length program.names) passes 0 (length program.names)

  abbrev backs : List (Terms Fraction)
  backs = map (inverse_form_terms (length f.base)) f.polys

  -- a variable that stays, by the inverse form
  stays_back : (n : ℕ) (s : List Fraction) → IsState program s → (j : ℕ) → j < length backs
      → passes (0 + j) ≡ false
      → at (get_or backs j []) (point_of f.base n ++ state_after program b n s) ≡ get_or s (0 + j)
      ℚ.zero
  stays_back n s st j l kept =
      sym (get_or-map (λ q. at q (point_of f.base n ++ state_after program b n s)) backs j [] ℚ.zero
      l)
      ∙ ap (λ z. get_or z j ℚ.zero)
      (ap (λ z. map (λ q. at q z) backs) (point-append f.base n (state_after program b n s)
      ∙ ap (point f.base n) (sym (iterations-are program b n s st)))
      ∙ inverse_form_to_zero f.base coprime (bm program b) since f.polys is n s (st ∙ sym size))
      ∙ (stays j (let e = length-map f.polys (inverse_form_terms (length f.base)) in let q =
      polys-length in omega (arith, e, q, l)) (ap passes plus ∙ kept)).is s st
      ∙ ap (λ n. get_or s n ℚ.zero) plus
    where
      plus : j ≡ 0 + j
      plus = omega arith

  backs-length : length backs ≡ m
  backs-length = length-map f.polys (inverse_form_terms (length f.base)) ∙ polys-length

  pub form_before_is : IsBefore program b (front (length f.base)) (passing (length program.names)
      passes) (λ n. point_of f.base (since + n)) (λ n. since + n) (copies (length program.names)
      passes 0 (length program.names)) (form_before f (length program.names) passes)
  form_before_is = record {
    count = refl;
    copies = all_copies_arity m passes;
    arities = before_arity (front (length f.base)) t m passes backs 0 0;
    was = λ n s st.
        before_values (front (length f.base)) t m passes (point_of f.base (since + n))
        (map (λ c. at c s) told) s (state_after program b (since + n) s) (front-length (since + n))
        (length-map told _) st (turned_keeps program b (since + n) s st) backs 0 0
        (let q = backs-length in omega (arith, q))
        (ap (λ n. map (λ c. at c s) (copies m passes 0 n)) backs-length)
        (stays_back (since + n) s st);
  }

  before-length : length (form_before f (length program.names) passes) ≡ length program.names
  before-length = before_length (front (length f.base)) t m passes backs 0 0 ∙ backs-length

  -- the orbit from `since` iterations on
  pub late_orbit : (gs ks : List (Terms Fraction)) → AllArity (length program.names) gs
      → IsEliminated (front (length f.base) + passing (length program.names) passes)
      (length program.names) (orbit_graph f (length program.names) passes gs) ks
      → IsOrbitAt program gs b (λ n. since + n) ks
  late_orbit gs ks ga eliminated =
      graph_gives_orbit program b (front (length f.base)) t (λ n. point_of f.base (since + n))
      (points_from f.base since) (λ n. since + n) told (form_before f m passes) f.polys
      (relations (length f.base) m) (relations (length f.base) (t + m))
      late_form_at form_before_is (relations_are_wide f.base coprime t m since
      (form_before f m passes) form_before_is.arities before-length) gs ga
      (points_from_are_independent f.base coprime m since) ks eliminated

  pub late_graph_arity : (gs : List (Terms Fraction)) → AllArity (length program.names) gs
      → AllArity (front (length f.base) + passing (length program.names) passes
      + length program.names) (orbit_graph f (length program.names) passes gs)
  late_graph_arity gs ga =
      graph_arity program b (front (length f.base)) t (λ n. point_of f.base (since + n))
      (points_from f.base since) (λ n. since + n) told (form_before f m passes) f.polys
      (relations (length f.base) m) (relations (length f.base) (t + m))
      late_form_at form_before_is (relations_are_wide f.base coprime t m since
      (form_before f m passes) form_before_is.arities before-length) gs ga
