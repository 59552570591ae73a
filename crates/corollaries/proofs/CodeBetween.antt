-- Code between two loops: what its graph says of what it leads to.
--   assigned_next, listed_next      one place more
--   copy_is, copy_within     the copy of a variable is its place among those that are assigned;  assigned_within: these are variables
--   was_arity            what the variables were are polynomials in the variables and copies
--   code_leads_on        what is left of its list, where the copies are eliminated, generates the polynomials that, composed with the code, are members
use Rattle.std.proofs.Common.{◌≡◌, ℕ, zero, suc, ◌+◌, ◌-◌, ◌<◌, ◌≤◌, Bool, true, false, cond, ◌==◌, List, [], ◌∷◌, ◌++◌, map, get_or, set, replicate, length, refl, arith, sym, ap, ap₂, subst, ◌∙◌}
use Rattle.std.specs.List.{list_any}
use Rattle.std.proofs.lemmas.Bool.{or_parts, eqb-false}
use Rattle.std.proofs.lemmas.List.{length-map, length-append, get_or-map, get_or-drop, get_or-set_other, get_or-take, get_or-append-add, get_or_append_left}
use Rattle.algebra.specs.Each.{Each}
use Rattle.algebra.proofs.Each.{each-append}
use Rattle.algebra.specs.Ring.{CommRing}
use Rattle.algebra.proofs.RingSolver.{ring, ring_rules}
use Rattle.algebra.specs.Fraction.{Fraction, ℚ}
use Rattle.algebra.proofs.Fractions.{ℚ_ring}
use Rattle.polynomials.specs.Terms.{Terms, variables, negate, compose}
use Rattle.polynomials.specs.Polynomial.{Arity, AllArity}
use Rattle.polynomials.proofs.Arity.{arity_at, arity-compose, arity-append, arity-negate, arity-variables}
use Rattle.polynomials.proofs.ByValues.{zero_by_values}
use Rattle.polynomials.proofs.ValueAt.{value_at-append, value_at-negate, value_at-compose, value_at-variables}
use Rattle.ideals.specs.Members.{IsMember}
use Rattle.ideals.proofs.FractionMembers.{member_same, member_nil, member_at, member_right}
use Rattle.loops.specs.Effect.{store, after_statement, after_branch}
use Rattle.loops.specs.Map.{branch_map}
use Rattle.loops.specs.Program.{Expr, Program, Statement}
use Rattle.loops.specs.Run.{IsState, effect}
use Rattle.loops.proofs.Maps.{length-variables, arity-branch_map, length-branch_map, branch_map_values}
use Rattle.machines.proofs.Padding.{at}
use Rattle.rounds.specs.Generate.{Generates}
use Rattle.rounds.specs.Orbit.{IsEliminated}
use Rattle.corollaries.specs.CodeBetween.{variable_of, list_from, is_assigned, assigned_from, assigned_variables, copy_of, copies, was_at, was, code_list, LeadsOn}
use Rattle.corollaries.proofs.Graph.{IsGraph, graph_gives}

-- ---- what code doesn't assign stays
store_other : {A : Type 0} (is : List ℕ) (xs s : List A) (i : ℕ) (d : A) → list_any (λ j. j == i) is
    ≡ false → get_or (store is xs s) i d ≡ get_or s i d
unfolding store
store_other [] xs s i d h = refl
store_other (j ∷ is) [] s i d h = refl
store_other (j ∷ is) (x ∷ xs) s i d h =
    let both = or_parts (j == i) (list_any (λ j. j == i) is) h in
    store_other is xs (set s j x) i d both.1
    ∙ get_or-set_other s j i x d (λ e. eqb-false j i both.0 (sym e))

branch_other : {At : Type 0} (code : List (Statement (Expr At))) (s : List Fraction) (i : ℕ)
    (d : Fraction) → is_assigned code i ≡ false → get_or (after_branch ℚ (λ c. c) code s) i d
    ≡ get_or s i d
unfolding after_branch after_statement
branch_other [] s i d h = refl
branch_other (c ∷ cs) s i d h =
    let both = or_parts (list_any (λ j. j == i) c.targets) (is_assigned cs i) h in
    branch_other cs (after_statement ℚ (λ c. c) c s) i d both.1
    ∙ store_other c.targets _ s i d both.0

effect_other : {At : Type 0} (program : Program (Expr At)) (code : List (Statement (Expr At)))
    (s : List Fraction) (i : ℕ) (d : Fraction) → i < length program.names → IsState program s
    → is_assigned code i ≡ false → get_or (effect program code s) i d ≡ get_or s i d
effect_other program code s i d l st h =
    let zeros = replicate (length program.locals) ℚ.zero in
    get_or-take (length program.names) (after_branch ℚ (λ c. c) code (s ++ zeros)) i d l
    ∙ branch_other code (s ++ zeros) i d h
    ∙ get_or_append_left s zeros d i (omega (arith, l, st))

-- ---- the variables that are assigned
module _ {E : Type 0} (code : List (Statement E)) where
  assigned-split : (i a b n : ℕ) → n ≡ a + b → assigned_from code i n ≡ assigned_from code i a
      ++ assigned_from code (i + a) b
  assigned-split i zero b n e = ap₂ (assigned_from code) (let q : i ≡ i + 0 = omega arith in q)
      (let q : n ≡ b = omega (arith, e) in q)
  assigned-split i (suc a) b zero e = absurd (omega (arith, e))
  assigned-split i (suc a) b (suc n) e =
      go (is_assigned code i) (assigned-split (suc i) a b n (omega (arith, e))
      ∙ ap (λ j. assigned_from code (suc i) a ++ assigned_from code j b) (let q : suc i + a
      ≡ i + suc a = omega arith in q))
    where
      go : (c : Bool) → assigned_from code (suc i) n ≡ assigned_from code (suc i) a ++ assigned_from
          code (i + suc a) b
          → cond c (i ∷ assigned_from code (suc i) n) (assigned_from code (suc i) n)
          ≡ cond c (i ∷ assigned_from code (suc i) a) (assigned_from code (suc i) a)
          ++ assigned_from code (i + suc a) b
      go true h = ap (λ l. i ∷ l) h
      go false h = h

  module _ (m i : ℕ) (l : i < m) (is : is_assigned code i ≡ true) where
    assigned_at : (r : ℕ) → m ≡ i + suc r → assigned_variables m code ≡ assigned_variables i code
        ++ i ∷ assigned_from
        code (suc i) r
    assigned_at r e =
        assigned-split 0 i (suc r) m e
        ∙ ap (λ j. assigned_variables i code ++ assigned_from code j (suc r)) (let q : 0 + i ≡ i =
        omega arith in q)
        ∙ ap (λ (b : Bool). assigned_variables i code ++ cond b (i ∷ assigned_from code (suc i) r)
        (assigned_from code (suc i) r)) is

    rest : ℕ
    rest = m - suc i

    split : m ≡ i + suc rest
    unfolding rest
    split = omega (arith, l)

    -- its copy is its place among them
    pub copy_is : (d : ℕ) → get_or (assigned_variables m code) (copy_of code i) d ≡ i
    copy_is d =
        ap (λ l. get_or l (copy_of code i) d) (assigned_at rest split)
        ∙ ap (λ k. get_or (assigned_variables i code ++ i ∷ assigned_from code (suc i) rest) k d)
        (let e : length (assigned_variables i code) ≡ length (assigned_variables i code) + 0 =
        omega arith in e)
        ∙ get_or-append-add (assigned_variables i code) (i ∷ assigned_from code (suc i) rest) 0 d

    pub copy_within : copy_of code i < copies m code
    copy_within =
        let e = ap length (assigned_at rest split)
        ∙ length-append (assigned_variables i code) (i ∷ assigned_from code (suc i) rest) in
        omega (arith, e)

  -- each of them is a variable that is assigned
  pub assigned_within : (i n j d : ℕ) → j < length (assigned_from code i n)
      → (i ≤ get_or (assigned_from code i n) j d) × (get_or (assigned_from code i n) j d < i + n)
  assigned_within i zero j d l = absurd (omega (arith, l))
  assigned_within i (suc n) j d l = go (is_assigned code i) j l (λ j l.
      assigned_within (suc i) n j d l)
    where
      go : (c : Bool) (j : ℕ)
          → j < length (cond c (i ∷ assigned_from code (suc i) n) (assigned_from code (suc i) n))
          → ((j : ℕ) → j < length (assigned_from code (suc i) n)
          → (suc i ≤ get_or (assigned_from code (suc i) n) j d)
          × (get_or (assigned_from code (suc i) n) j d < suc i + n))
          → (i ≤ get_or (cond c (i ∷ assigned_from code (suc i) n) (assigned_from code (suc i) n)) j
          d) × (get_or (cond c (i ∷ assigned_from code (suc i) n)
          (assigned_from code (suc i) n)) j d < i + suc n)
      go true zero l h = (omega arith, omega arith)
      go true (suc j) l h = let q = h j (omega (arith, l)) in let a = q.0 in let b = q.1 in
          (omega (arith, a), omega (arith, b))
      go false j l h = let q = h j l in let a = q.0 in let b = q.1 in
          (omega (arith, a), omega (arith, b))

-- one variable more
pub assigned_next : {E : Type 0} (code : List (Statement E)) (i : ℕ)
    → assigned_variables (suc i) code ≡ assigned_variables i code ++ cond (is_assigned code i)
    (i ∷ []) []
assigned_next code i =
    assigned-split code 0 i 1 (suc i) (omega arith)
    ∙ ap (λ j. assigned_variables i code ++ assigned_from code j 1)
    (let q : 0 + i ≡ i = omega arith in q)

-- ---- lists by their places
listed_same : {A B : Type 0} (h : A → B) (f : ℕ → A) (g : ℕ → B) (i n : ℕ)
    → ((k : ℕ) → i ≤ k → k < i + n → h (f k) ≡ g k) → map h (list_from i n f) ≡ list_from i n g
listed_same h f g i zero e = refl
listed_same h f g i (suc n) e = ap₂ ◌∷◌ (e i (omega arith) (omega arith))
    (listed_same h f g (suc i) n (λ k a b. e k (omega (arith, a)) (omega (arith, b))))

pub listed_next : {A : Type 0} (f : ℕ → A) (i n : ℕ)
    → list_from i (suc n) f ≡ list_from i n f ++ f (i + n) ∷ []
listed_next f i zero = ap (λ k. f k ∷ []) (let q : i ≡ i + 0 = omega arith in q)
listed_next f i (suc n) =
    ap (λ l. f i ∷ l) (listed_next f (suc i) n)
    ∙ ap (λ k. f i ∷ list_from (suc i) n f ++ f k ∷ [])
    (let q : suc i + n ≡ i + suc n = omega arith in q)

listed_of : {A : Type 0} (d : A) (s : List A) (i : ℕ)
    → list_from i (length s) (λ k. get_or s (k - i) d) ≡ s
listed_of d [] i = refl
listed_of d (x ∷ s) i =
    ap₂ ◌∷◌ (ap (λ k. get_or (x ∷ s) k d) (let e : i - i ≡ 0 = omega arith in e))
    (sym (map_id _) ∙ listed_same (λ y. y) (λ k. get_or (x ∷ s) (k - i) d)
    (λ k. get_or s (k - suc i) d) (suc i) (length s) (λ k a b.
    ap (λ j. get_or (x ∷ s) j d) (let e : k - i ≡ suc (k - suc i) = omega (arith, a) in e))
    ∙ listed_of d s (suc i))
  where
    map_id : {A : Type 0} (l : List A) → map (λ y. y) l ≡ l
    map_id [] = refl
    map_id (y ∷ l) = ap (λ m. y ∷ m) (map_id l)

-- ---- variables
module _ (w : ℕ) (x : List Fraction) (long : length x ≡ w) where
  variable_value : (i : ℕ) → i < w → at (variable_of w i) x ≡ get_or x i ℚ.zero
  variable_value i l =
      sym (get_or-map (λ q. at q x) (variables ℚ w) i [] ℚ.zero (let e = length-variables w in
      omega (arith, e, l)))
      ∙ ap (λ (z : List Fraction). get_or z i ℚ.zero) (value_at-variables ℚ_ring w x long)

variable_arity : (w i : ℕ) → Arity w (variable_of w i)
variable_arity w i = arity_at w (variables ℚ w) (arity-variables w ℚ) i

minus_itself : {A : Type 0} (R : CommRing A) (u : A) → R.add u (R.neg u) ≡ R.zero
minus_itself R u = ring R (u ∷ []) (search ring_rules depth 40) refl

listed_at : {A : Type 0} (i n k : ℕ) (f : ℕ → A) (d : A) → k < n → get_or (list_from i n f) k d
    ≡ f (i + k)
listed_at i zero k f d l = absurd (omega (arith, l))
listed_at i (suc n) zero f d l = ap f (let e : i ≡ i + 0 = omega arith in e)
listed_at i (suc n) (suc k) f d l = listed_at (suc i) n k f d (omega (arith, l))
    ∙ ap f (let e : suc i + k ≡ i + suc k = omega arith in e)

length-listed : {A : Type 0} (i n : ℕ) (f : ℕ → A) → length (list_from i n f) ≡ n
length-listed i zero f = refl
length-listed i (suc n) f = ap suc (length-listed (suc i) n f)

listed_arity : (w i n : ℕ) (f : ℕ → Terms Fraction) → ((k : ℕ) → Arity w (f k))
    → AllArity w (list_from i n f)
unfolding Each
listed_arity w i zero f h = tt
listed_arity w i (suc n) f h = (h i, listed_arity w (suc i) n f h)

mapped_arity : (w : ℕ) (f : ℕ → Terms Fraction) (ys : List ℕ) → ((k : ℕ) → Arity w (f k))
    → AllArity w (map f ys)
unfolding Each
mapped_arity w f [] h = tt
mapped_arity w f (y ∷ ys) h = (h y, mapped_arity w f ys h)

either_arity : (w : ℕ) (b : Bool) (p q : Terms Fraction) → Arity w p → Arity w q
    → Arity w (cond b p q)
either_arity w true p q a c = a
either_arity w false p q a c = c

-- ---- the graph of code
module _ {At : Type 0} (program : Program (Expr At)) (code : List (Statement (Expr At))) where
  abbrev m : ℕ
  m = length program.names

  abbrev t : ℕ
  t = copies m code

  abbrev n : ℕ
  n = t + m

  abbrev fs : List (Terms Fraction)
  fs = branch_map program code

  abbrev ys : List ℕ
  ys = assigned_variables m code

  abbrev z : Fraction
  z = ℚ.zero

  abbrev copied : List (Terms Fraction)
  copied = map (variable_of m) ys

  abbrev put : Terms Fraction → Terms Fraction
  put p = compose ℚ (t + m) p (was m code)

  abbrev less : ℕ → Terms Fraction
  less y = variable_of (t + m) (t + y) ++ negate ℚ (put (get_or fs y []))

  abbrev ds : List (Terms Fraction)
  ds = map less ys

  size : length fs ≡ m
  size = length-branch_map program code

  pub was_arity : AllArity n (was m code)
  was_arity = listed_arity n 0 m (was_at m code) (λ k. either_arity n (is_assigned code k) _ _
      (variable_arity n (copy_of code k)) (variable_arity n (t + k)))

  less_arity : (y : ℕ) → Arity n (less y)
  less_arity y = arity-append n _ _ (variable_arity n (t + y))
      (arity-negate n ℚ _ (arity-compose n ℚ (get_or fs y []) (was m code) was_arity))

  -- ---- at a state and what is behind it
  module _ (s : List Fraction) (st : length s ≡ m) where
    abbrev cs : List Fraction
    cs = map (λ c. at c s) copied

    abbrev xs : List Fraction
    xs = map (λ f. at f s) fs

    cs_count : length cs ≡ t
    cs_count = length-map copied (λ c. at c s) ∙ length-map ys (variable_of m)

    xs_count : length xs ≡ m
    xs_count = length-map fs (λ f. at f s) ∙ size

    long : length (cs ++ xs) ≡ n
    long = length-append cs xs ∙ ap₂ ◌+◌ cs_count xs_count

    is_now : (i : ℕ) → get_or (cs ++ xs) (t + i) z ≡ get_or xs i z
    is_now i = ap (λ k. get_or (cs ++ xs) (k + i) z) (sym cs_count) ∙ get_or-append-add cs xs i z

    copy_value : (i : ℕ) → i < m → is_assigned code i ≡ true → get_or cs (copy_of code i) z
        ≡ get_or s i z
    copy_value i l is =
        let k = copy_of code i in
        let inside : k < length ys = copy_within code m i l is in
        let count = length-map ys (variable_of m) in
        get_or-map (λ c. at c s) copied k [] z (omega (arith, inside, count))
        ∙ ap (λ c. at c s) (get_or-map (variable_of m) ys k 0 [] inside
        ∙ ap (variable_of m) (copy_is code m i l is 0))
        ∙ variable_value m s st i l

    was_value : (i : ℕ) → i < m → at (was_at m code i) (cs ++ xs) ≡ get_or s i z
    was_value i l = go (is_assigned code i) refl
      where
        go : (b : Bool) → is_assigned code i ≡ b
            → at (cond b (variable_of n (copy_of code i)) (variable_of n (t + i))) (cs ++ xs)
            ≡ get_or s i z
        go true e =
            let inside : copy_of code i < t = copy_within code m i l e in
            let count = cs_count in
            variable_value n (cs ++ xs) long (copy_of code i) (omega (arith, inside))
            ∙ get_or_append_left cs xs z (copy_of code i) (omega (arith, inside, count))
            ∙ copy_value i l e
        go false e =
            variable_value n (cs ++ xs) long (t + i) (omega (arith, l)) ∙ is_now i
            ∙ ap (λ (x : List Fraction). get_or x i z) (branch_map_values program code s st)
            ∙ effect_other program code s i z l st e

    was_is : map (λ b. at b (cs ++ xs)) (was m code) ≡ s
    was_is =
        listed_same (λ b. at b (cs ++ xs)) (was_at m code) (λ k. get_or s (k - 0) z) 0 m (λ k a l.
        was_value k (omega (arith, l)) ∙ ap (λ j. get_or s j z) (let e : k ≡ k - 0 =
        omega arith in e))
        ∙ ap (λ k. list_from 0 k (λ k. get_or s (k - 0) z)) (sym st) ∙ listed_of z s 0

    less_gone : (y : ℕ) → y < m → at (less y) (cs ++ xs) ≡ z
    less_gone y l =
        let v = at (get_or fs y []) s in
        let first : at (variable_of n (t + y)) (cs ++ xs) ≡ v = variable_value n (cs ++ xs) long
        (t + y) (omega (arith, l)) ∙ is_now y ∙ get_or-map (λ f. at f s) fs y [] z (let e =
        size in omega (arith, e, l)) in
        let second : at (put (get_or fs y [])) (cs ++ xs) ≡ v =
        value_at-compose ℚ_ring n (get_or fs y []) (was m code) (cs ++ xs)
        ∙ ap (at (get_or fs y [])) was_is in
        value_at-append ℚ_ring (variable_of n (t + y)) (negate ℚ (put (get_or fs y []))) (cs ++ xs)
        ∙ ap₂ ℚ.add first (value_at-negate ℚ_ring (put (get_or fs y [])) (cs ++ xs)
        ∙ ap ℚ.neg second) ∙ minus_itself ℚ_ring v

    all_gone : (j : ℕ) → j < length ds → at (get_or ds j []) (cs ++ xs) ≡ z
    all_gone j l =
        let count = length-map ys less in
        let inside : j < length ys = omega (arith, count, l) in
        ap (λ d. at d (cs ++ xs)) (get_or-map less ys j 0 [] inside)
        ∙ less_gone (get_or ys j 0) (let w = assigned_within code 0 m j 0 inside in let b =
        w.1 in omega (arith, b))

  -- ---- what isn't assigned is what it was, whatever stands for the copies
  module _ (i : ℕ) (l : i < m) (other : is_assigned code i ≡ false) (x : List Fraction)
      (long : length x ≡ n) where
    abbrev bx : List Fraction
    bx = map (λ b. at b x) (was m code)

    bx_state : length bx ≡ m
    bx_state = length-map (was m code) (λ b. at b x) ∙ length-listed 0 m (was_at m code)

    bx_value : get_or bx i z ≡ get_or x (t + i) z
    bx_value =
        get_or-map (λ b. at b x) (was m code) i [] z (let e = length-listed 0 m (was_at m code) in
        omega (arith, e, l))
        ∙ ap (λ b. at b x) (listed_at 0 m i (was_at m code) [] l
        ∙ ap (was_at m code) (let q : 0 + i ≡ i = omega arith in q)
        ∙ ap (λ (b : Bool). cond b (variable_of n (copy_of code i)) (variable_of n (t + i)))
        other)
        ∙ variable_value n x long (t + i) (omega (arith, l))

    less_zero : at (less i) x ≡ z
    less_zero =
        let u = get_or x (t + i) z in
        let second : at (put (get_or fs i [])) x ≡ u =
        value_at-compose ℚ_ring n (get_or fs i []) (was m code) x
        ∙ sym (get_or-map (λ f. at f bx) fs i [] z (let e = size in omega (arith, e, l)))
        ∙ ap (λ (y : List Fraction). get_or y i z) (branch_map_values program code bx bx_state)
        ∙ effect_other program code bx i z l bx_state other ∙ bx_value in
        value_at-append ℚ_ring (variable_of n (t + i)) (negate ℚ (put (get_or fs i []))) x
        ∙ ap₂ ℚ.add (variable_value n x long (t + i) (omega (arith, l)))
        (value_at-negate ℚ_ring (put (get_or fs i [])) x ∙ ap ℚ.neg second)
        ∙ minus_itself ℚ_ring u

  module _ (gs : List (Terms Fraction)) (ga : AllArity m gs) where
    put_arity : (us : List (Terms Fraction)) → AllArity n (map put us)
    unfolding Each
    put_arity [] = tt
    put_arity (u ∷ us) = (arity-compose n ℚ u (was m code) was_arity, put_arity us)

    ds_arity : AllArity n ds
    ds_arity = mapped_arity n less ys less_arity

    pub hs_arity : AllArity n (map put gs ++ ds)
    hs_arity = each-append (Arity n) (map put gs) ds (put_arity gs) ds_arity

    less_member : (i : ℕ) → i < m → IsMember ℚ n (map put gs ++ ds) (less i)
    less_member i l = go (is_assigned code i) refl
      where
        go : (b : Bool) → is_assigned code i ≡ b → IsMember ℚ n (map put gs ++ ds) (less i)
        go true e =
            let k = copy_of code i in
            let inside : k < length ys = copy_within code m i l e in
            let count = length-map ys less in
            let same : get_or ds k [] ≡ less i = get_or-map less ys k 0 [] inside
            ∙ ap less (copy_is code m i l e 0) in
            member_right n (map put gs) ds (less i) (put_arity gs) ds_arity (less_arity i)
            (subst (IsMember ℚ n ds) same
            (member_at n ds ds_arity k (omega (arith, count, inside))))
        go false e = member_same n (map put gs ++ ds) [] (less i)
            (zero_by_values n (less i) (less_arity i) (λ x lx. less_zero i l e x lx))
            (member_nil n (map put gs ++ ds))

    is_graph : IsGraph t m copied (was m code) fs gs ds
    is_graph = record {
      count = length-map ys (variable_of m);
      copied_arity = mapped_arity m (variable_of m) ys (variable_arity m);
      before_arity = was_arity;
      forms_arity = arity-branch_map program code;
      as_many = size;
      list_arity = ga;
      differences_arity = ds_arity;
      tells = was_is;
      gone = all_gone;
      differ = λ i l. subst (IsMember ℚ n (map put gs ++ ds))
          (sym (ap₂ (λ a b. a ++ negate ℚ b) (get_or-drop t (variables ℚ n) i [])
          (get_or-map put fs i [] [] (let e = size in omega (arith, e, l)))))
          (less_member i l);
    }

    pub code_leads_on : (ks : List (Terms Fraction))
        → IsEliminated (copies (length program.names) code) (length program.names)
        (code_list program code gs) ks
        → Generates (length program.names) ks (LeadsOn program code gs)
    code_leads_on ks e = graph_gives t m copied (was m code) fs gs ds is_graph ks e
