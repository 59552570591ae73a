-- Classes by a table of what reaches what.
use Rattle.std.proofs.Common.{append-nil, ◌≡◌, ◌⊎◌, inl, inr, ◌<◌, ◌≤◌, ℕ, ◌+◌, Bool, true, false, List, [], ◌∷◌, ◌++◌, ◌&&◌, map, length, T, not, eqb, eqb→eq, All, IsTrue, refl, sym, ap, subst, ◌∙◌, arith, append_assoc, Vec, Global}
use lib.Dec.{eqb_refl}
use Rattle.std.specs.List.{list_any}
use Rattle.std.proofs.lemmas.Bool.{cases_lt}
use Rattle.algebra.specs.In.{In}
use Rattle.solvable_maps.specs.Dependency.{Reaches}
use Rattle.solvable_maps.specs.Class.{Above, Ascends, InClass, Ready, IsClassOf, IsNext, AreClasses}
use Rattle.algebra.proofs.Basics.{both_in, both_out, not_out}
use Rattle.algebra.proofs.In.{in_left, in_right, in_push}
use Rattle.solvable_maps.proofs.Reach.{reach_walk, reach_all, or_out, or_left, or_right}
use Rattle.solvable_maps.proofs.Ranks.{count, count_less}
use Rattle.solvable_maps.proofs.Classes.{some_ready, member_dec, reached_within}
use Rattle.solvable.specs.Tables.{at, IsSquare}
use Rattle.solvable.specs.Ready.{Mutual, IsReady, IsFirstReady, IsGroup, AreReached}
use Rattle.solvable.proofs.Rows.{Rows, at_inside}

-- ---- reaching through one variable more

-- ---- one number more in an ascending list
pub record Collected (P : ℕ → Type 0) (k : ℕ) (g : List ℕ) : Type 0 where
  pub ascends : Ascends g
  pub inside : (j : ℕ) → In j g → (j < k) × P j
  pub whole : (j : ℕ) → j < k → P j → In j g

above-push : (i : ℕ) (g : List ℕ) (x : ℕ) → Above i g → i < x → Above i (g ++ x ∷ [])
above-push i [] x a h = (h, tt)
above-push i (y ∷ g) x a h = (a.0, above-push i g x a.1 h)

ascends-push : (g : List ℕ) (x : ℕ) → Ascends g → ((j : ℕ) → In j g → j < x) → Ascends (g ++ x ∷ [])
ascends-push [] x a h = (tt, tt)
ascends-push (y ∷ g) x a h = (
  above-push y g x a.0 (h y (inl refl)),
  ascends-push g x a.1 (λ j i. h j (inr i)),
)

pub collected_first : (P : ℕ → Type 0) (g : List ℕ) → g ≡ [] → Collected P 0 g
collected_first P g e = subst (Collected P 0) (sym e) (record {
  ascends = tt;
  inside = λ j h. absurd h;
  whole = λ j l. absurd (omega arith);
})

pub collected_more : (P : ℕ → Type 0) (k : ℕ) (g more : List ℕ) → more ≡ g ++ k ∷ [] → P k
    → Collected P k g → Collected P (k + 1) more
collected_more P k g more e p c =
    subst (Collected P (k + 1)) (sym e)
    (record {
      ascends = ascends-push g k c.ascends (λ j i. (c.inside j i).0);
      inside = λ j i. elim (in_push g k j i) [
        | inl h ↦ (let a = c.inside j h in (let l : j < k = a.0 in omega (arith, l), a.1))
        | inr s ↦ (omega arith, subst P (sym s) p)
      ];
      whole = λ j l q. elim (cases_lt j k) [
        | inl h ↦ in_left j g (k ∷ []) (c.whole j h q)
        | inr h ↦ (let s : k ≡ j = omega arith in subst (λ x. In x (g ++ k ∷ [])) s
            (in_right k g (k ∷ []) (inl refl)))
      ];
    })

pub collected_same : (P : ℕ → Type 0) (k : ℕ) (g : List ℕ) → (P k → ⊥) → Collected P k g
    → Collected P (k + 1) g
collected_same P k g n c = record {
  ascends = c.ascends;
  inside = λ j i. (let a = c.inside j i in (let l : j < k = a.0 in omega (arith, l), a.1));
  whole = λ j l q. elim (cases_lt j k) [
    | inl h ↦ c.whole j h q
    | inr h
        ↦ absurd (n (subst P (let s : j ≡ k = omega arith in s) q))
  ];
}

pub collected_group : (r : ℕ → ℕ → Bool) (m n i : ℕ) (g : List ℕ) → m ≤ n → n ≤ m
    → Collected (Mutual r i) n g → IsGroup r m i g
collected_group r m n i g a b c = record {
  ascends = c.ascends;
  inside = λ j h. (let p = c.inside j h in (let l : j < n = p.0 in omega (arith, l), p.1));
  whole = λ j l p. c.whole j (omega arith) p;
}

-- ---- ready

module _ (used reach_t : Rows) (m : ℕ) (s : IsSquare m used) (a : AreReached (at used) m m
    reach_t) where
  abbrev uses : ℕ → ℕ → Bool
  uses = at used

  bounded : (i j : ℕ) → T (uses i j) → (i < m) × (j < m)
  bounded i j t = at_inside m used s i j t

  there : (i j : ℕ) → T (at reach_t i j) → Reaches uses i j
  there i j t =
      let b = at_inside m reach_t a.square i j t in
      reach_walk uses m i j (subst T (a.each i j b.0 b.1) t)

  back : (i j : ℕ) → i < m → j < m → Reaches uses i j → T (at reach_t i j)
  back i j h k r = subst T (sym (a.each i j h k)) (reach_all uses m (λ x y t. (bounded x y t).1) i j
      r)

  abbrev r : ℕ → ℕ → Bool
  r = at reach_t

  mutual_class : (i j : ℕ) → Mutual r i j → InClass uses i j
  mutual_class i j (inl e) = inl e
  mutual_class i j (inr t) = inr (there i j t.0, there j i t.1)

  class_mutual : (i j : ℕ) → InClass uses i j → Mutual r i j
  class_mutual i j (inl e) = inl e
  class_mutual i j (inr p) =
      let b = reached_within uses m bounded i j p.0 in
      inr (back i j b.0 b.1 p.0, back j i b.1 b.0 p.1)

  ready_out : (earlier : List ℕ) (i : ℕ) → IsReady r m earlier i → Ready uses earlier i
  ready_out earlier i h = record {
    new = h.new;
    inside = λ j p. inside j p (reached_within uses m bounded i j p);
  }
    where
      inside : (j : ℕ) → Reaches uses i j → (i < m) × (j < m) → InClass uses i j ⊎ In j earlier
      inside j p b = elim (h.inside j b.1 (back i j b.0 b.1 p)) [
        | inl t ↦ inl (inr (p, there j i t))
        | inr e ↦ inr e
      ]

  ready_of : (earlier : List ℕ) (i : ℕ) → Ready uses earlier i → IsReady r m earlier i
  ready_of earlier i h = record {
    new = h.new;
    inside = λ j l t.
        inside j t (h.inside j (there i j t));
  }
    where
      inside : (j : ℕ) → T (r i j) → InClass uses i j ⊎ In j earlier → T (r j i) ⊎ In j earlier
      inside j t (inr e) = inr e
      inside j t (inl c) = elim (class_mutual i j c) [
        | inl e
            ↦ inl (subst (λ x. T (r x i)) e (subst (λ x. T (r i x)) (sym e) t))
        | inr p ↦ inl p.1
      ]

  next_is : (earlier : List ℕ) (i : ℕ) → IsFirstReady r m earlier i → IsNext uses m earlier i
  next_is earlier i f = record {
    within = f.within;
    ready = ready_out earlier i f.ready;
    least = λ j l h. f.least j l (ready_of earlier j h);
  }

  class_is : (i : ℕ) (g : List ℕ) → IsGroup r m i g → IsClassOf uses m i g
  class_is i g c = record {
    ascends = c.ascends;
    inside = λ j h. (let p = c.inside j h in (p.0, mutual_class i j p.1));
    whole = λ j l h. c.whole j l (class_mutual i j h);
  }

  all_in : (earlier : List ℕ) → ((i : ℕ) → i < m → IsReady r m earlier i → ⊥) → (i : ℕ) → i < m
      → In i earlier
  all_in earlier none i l = elim (member_dec i earlier) [
    | yes h ↦ h
    | no n ↦ (let k = some_ready uses m bounded earlier i l n in
        absurd (none k.0 k.1 (ready_of earlier k.0 k.2)))
  ]

-- ---- the loop over the classes
pub record Grouping (used reach_t : Rows) (m : ℕ) (earlier : List ℕ) (groups : List (List ℕ)) : Type
    0 where
  pub square : IsSquare m used
  pub reached : AreReached (at used) m m reach_t
  pub whole : (gs : List (List ℕ)) → AreClasses (at used) m earlier gs
      → AreClasses (at used) m [] (groups ++ gs)

abbrev pub lists : List (Vec ℕ Global) → List (List ℕ)
lists gs = map (λ g. g.items) gs

lists-append : (gs hs : List (Vec ℕ Global)) → lists (gs ++ hs) ≡ lists gs ++ lists hs
lists-append [] hs = refl
lists-append (g ∷ gs) hs = ap (λ l. g.items ∷ l) (lists-append gs hs)

pub grouping_first : (used reach_t : Rows) (m : ℕ) (earlier : List ℕ) (groups : List (Vec ℕ Global))
    → IsSquare m used → AreReached (at used) m m reach_t → earlier ≡ [] → groups ≡ []
    → Grouping used reach_t m earlier (lists groups)
grouping_first used reach_t m earlier groups s a e f =
    subst (λ gs. Grouping used reach_t m earlier (lists gs)) (sym f)
    (subst (λ l. Grouping used reach_t m l []) (sym e) (record {
      square = s;
      reached = a;
      whole = λ gs c. c;
    }))

pub grouping_more : (used reach_t : Rows) (m i : ℕ) (earlier more : List ℕ)
    (groups next : List (Vec ℕ Global)) (g : Vec ℕ Global) → IsFirstReady (at reach_t) m earlier i
    → IsGroup (at reach_t) m i g.items
    → more ≡ earlier ++ g.items → next ≡ groups ++ g ∷ []
    → Grouping used reach_t m earlier (lists groups) → Grouping used reach_t m more (lists next)
grouping_more used reach_t m i earlier more groups next g f c e h s = record {
  square = s.square;
  reached = s.reached;
  whole = λ gs k.
      subst (λ l. AreClasses (at used) m [] l) (sym (append_assoc (lists groups) (g.items ∷ []) gs)
      ∙ ap (λ l. l ++ gs) (sym (ap lists h ∙ lists-append groups (g ∷ []))))
      (s.whole (g.items ∷ gs) (
        i,
        next_is used reach_t m s.square s.reached earlier i f,
        class_is used reach_t m s.square s.reached i g.items c,
        subst (λ l. AreClasses (at used) m l gs) e k,
      ));
}

pub grouping_done : (used reach_t : Rows) (m : ℕ) (earlier : List ℕ) (groups : List (List ℕ))
    → ((i : ℕ) → i < m → IsReady (at reach_t) m earlier i → ⊥)
    → Grouping used reach_t m earlier groups → AreClasses (at used) m [] groups
grouping_done used reach_t m earlier groups none s =
    subst (AreClasses (at used) m []) (append-nil groups)
    (s.whole [] (all_in used reach_t m s.square s.reached earlier none))

-- ---- fewer and fewer are left
abbrev pub fresh : List ℕ → ℕ → Bool
fresh [] i = true
fresh (x ∷ xs) i = not (eqb x i) && fresh xs i

abbrev pub left_of : ℕ → List ℕ → ℕ
left_of m earlier = count m (fresh earlier)

fresh-in : (xs : List ℕ) (i : ℕ) → T (fresh xs i) → In i xs → ⊥
fresh-in [] i t h = h
fresh-in (x ∷ xs) i t (inl e) = not_out (eqb x i) (both_out (not (eqb x i)) (fresh xs i) t).0
    (subst (λ y. T (eqb x y)) (sym e) (eqb_refl x))
fresh-in (x ∷ xs) i t (inr h) = fresh-in xs i (both_out (not (eqb x i)) (fresh xs i) t).1 h

in-fresh : (xs : List ℕ) (i : ℕ) → (In i xs → ⊥) → T (fresh xs i)
in-fresh [] i n = tt
in-fresh (x ∷ xs) i n = both_in (not (eqb x i)) (fresh xs i)
    (apart (eqb x i) (λ t. n (inl (sym (eqb→eq x i t))))) (in-fresh xs i (λ h. n (inr h)))
  where
    apart : (b : Bool) → (T b → ⊥) → T (not b)
    apart true f = f tt
    apart false f = tt

in-left : (xs ys : List ℕ) (i : ℕ) → In i xs → In i (xs ++ ys)
in-left [] ys i h = absurd h
in-left (x ∷ xs) ys i (inl e) = inl e
in-left (x ∷ xs) ys i (inr h) = inr (in-left xs ys i h)

in-right : (xs ys : List ℕ) (i : ℕ) → In i ys → In i (xs ++ ys)
in-right [] ys i h = h
in-right (x ∷ xs) ys i h = inr (in-right xs ys i h)

pub fewer_left : (r : ℕ → ℕ → Bool) (m i : ℕ) (earlier more g : List ℕ) → IsFirstReady r m earlier i
    → IsGroup r m i g → more ≡ earlier ++ g → left_of m more < left_of m earlier
fewer_left r m i earlier more g f c e =
    subst (λ l. left_of m l < left_of m earlier) (sym e)
    (count_less m (fresh (earlier ++ g)) (fresh earlier) (λ k l t.
    in-fresh earlier k (λ h. fresh-in (earlier ++ g) k t (in-left earlier g k h))) i
    f.within
    (λ t. fresh-in (earlier ++ g) i t (in-right earlier g i (c.whole i f.within (inl refl))))
    (in-fresh earlier i f.ready.new))

pub square_own : (m : ℕ) (t : Rows) → IsSquare m t → IsSquare (length t) t
square_own m t s = record {
  size = refl;
  widths =
      subst (λ n. All (λ (row : Vec Bool Global). length row.items ≡ n) t) (sym s.size) s.widths;
}

-- ---- being in a list, as a test
pub any_in : (xs : List ℕ) (v : ℕ) → T (list_any (λ y. eqb y v) xs) → In v xs
any_in [] v t = t
any_in (x ∷ xs) v t = elim (or_out (eqb x v) (list_any (λ y. eqb y v) xs) t) [
  | inl a
      ↦ inl (sym (eqb→eq x v a))
  | inr b ↦ inr (any_in xs v b)
]

pub in_any : (xs : List ℕ) (v : ℕ) → In v xs → T (list_any (λ y. eqb y v) xs)
in_any [] v h = h
in_any (x ∷ xs) v (inl e) = or_left (eqb x v) (list_any (λ y. eqb y v) xs)
    (subst (λ z. T (eqb z v)) e (eqb_refl v))
in_any (x ∷ xs) v (inr h) = or_right (eqb x v) (list_any (λ y. eqb y v) xs) (in_any xs v h)

to_test : (b : Bool) → IsTrue b → T b
to_test b e = subst T (sym e) tt

of_test : (b : Bool) → T b → IsTrue b
of_test true t = refl
of_test false t = absurd t

pub test_in : (b : Bool) (xs : List ℕ) (v : ℕ) → b ≡ list_any (λ y. eqb y v) xs
    → (IsTrue b → In v xs) × (In v xs → IsTrue b)
test_in b xs v e = (
  (λ t. any_in xs v (subst T e (to_test b t))),
  (λ h. of_test b (subst T (sym e) (in_any xs v h))),
)

-- ---- one iteration of the loop, over what its calls return
module _ (used reach_t : Rows) (m : ℕ) (i : ℕ) (earlier slice more piece : List ℕ)
    (groups next : List (Vec ℕ Global)) (g : Vec ℕ Global) (e : slice ≡ earlier)
    (p : piece ≡ g.items) (h : more ≡ earlier ++ piece)
    (s : Grouping used reach_t m earlier (lists groups)) (f : IsFirstReady (at reach_t)
    (length reach_t) slice i) (c : IsGroup (at reach_t) (length reach_t) i g.items) where
  first_is : IsFirstReady (at reach_t) m earlier i
  first_is = subst (λ n. IsFirstReady (at reach_t) n earlier i) s.reached.square.size
      (subst (λ l. IsFirstReady (at reach_t) (length reach_t) l i) e f)

  group_is : IsGroup (at reach_t) m i g.items
  group_is = subst (λ n. IsGroup (at reach_t) n i g.items) s.reached.square.size c

  more_is : more ≡ earlier ++ g.items
  more_is = h ∙ ap (λ l. earlier ++ l) p

  pub iteration_smaller : left_of m more < left_of m earlier
  iteration_smaller = fewer_left (at reach_t) m i earlier more g.items first_is group_is more_is

  pub iteration_more : next ≡ groups ++ g ∷ [] → Grouping used reach_t m more (lists next)
  iteration_more q = grouping_more used reach_t m i earlier more groups next g first_is group_is
      more_is
      q s

pub iteration_done : (used reach_t : Rows) (m : ℕ) (earlier slice : List ℕ) (groups : List (List ℕ))
    → slice ≡ earlier → ((i : ℕ) → i < length reach_t → IsReady (at reach_t) (length reach_t) slice
    i → ⊥) → Grouping used reach_t m earlier groups → AreClasses (at used) m [] groups
iteration_done used reach_t m earlier slice groups e none s =
    grouping_done used reach_t m earlier groups
    (subst (λ l. (i : ℕ) → i < m → IsReady (at reach_t) m l i → ⊥) e (subst (λ n. (i : ℕ) → i < n
    → IsReady (at reach_t) n slice i → ⊥) s.reached.square.size none)) s
