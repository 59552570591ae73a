-- Walks, one step more, and the least one.
use Rattle.std.proofs.Common.{◌≡◌, inl, inr, ◌<◌, ◌≤◌, ◌↔◌, ℕ, zero, suc, ◌+◌, Bool, List, [], ◌∷◌, ◌++◌, ◌&&◌, length, get_or, T, refl, sym, ap, subst, ◌∙◌, arith, append_assoc, length-append, ◌-◌, eqb, eqb→eq}
use lib.Dec.{eqb_refl}
use Rattle.std.proofs.lemmas.Bool.{cases_lt}
use Rattle.std.proofs.lemmas.List.{append-nil, get_or_append_left, get_or_push}
use Rattle.solvable_maps.specs.Dependency.{Least, IsNonlinearCycle, IsLeastCycle}
use Rattle.algebra.proofs.Basics.{both_in, both_out}
use Rattle.solvable_maps.proofs.Cycles as C
use Rattle.solvable.specs.Tables.{at, IsSquare, First, Found}
use Rattle.solvable.specs.Walking.{Table, IsWalk, IsLeastWalk, IsWalks, AreWalks, IsStart, IsClosedWalk}
use Rattle.solvable.proofs.Rows.{Rows, at_inside}

module _ (uses : ℕ → ℕ → Bool) where
  pub walk_none : (i j : ℕ) → i ≡ j → IsWalk uses 0 i j []
  walk_none i j e = record { size = refl; walks = tt; ends = e }

  pub none_walk : (i j : ℕ) (vs : List ℕ) → IsWalk uses 0 i j vs → i ≡ j
  none_walk i j [] w = w.ends
  none_walk i j (v ∷ vs) w = absurd (let e : suc (length vs) ≡ 0 = w.size in omega (arith, e))

  pub walk_more : (k i c j : ℕ) (vs : List ℕ) → T (uses i c) → IsWalk uses k c j vs
      → IsWalk uses (k + 1) i j (c ∷ vs)
  walk_more k i c j vs t w = record {
    size = (let e : length vs ≡ k = w.size in omega (arith, e));
    walks = (t, w.walks);
    ends = w.ends;
  }

  pub more_walk : (k i j : ℕ) (vs : List ℕ) → IsWalk uses (k + 1) i j vs → (c : ℕ) × (ws : List ℕ)
      × (vs ≡ c ∷ ws) × T (uses i c) × IsWalk uses k c j ws
  more_walk k i j [] w = absurd (let e : 0 ≡ k + 1 = w.size in omega (arith, e))
  more_walk k i j (c ∷ vs) w = (
    c,
    vs,
    refl,
    w.walks.0,
    record {
      size = (let e : suc (length vs) ≡ k + 1 = w.size in
          omega (arith, e));
      walks = w.walks.1;
      ends = w.ends;
    },
  )

  pub least_none : (i j : ℕ) → i ≡ j → IsLeastWalk uses 0 i j []
  least_none i j e = record { is = walk_none i j e; least = λ ws w. tt }

  pub least_more : (k i j c : ℕ) (vs : List ℕ) → T (uses i c)
      → ((d : ℕ) (ws : List ℕ) → T (uses i d) → IsWalk uses k d j ws → c ≤ d)
      → IsLeastWalk uses k c j vs → IsLeastWalk uses (k + 1) i j (c ∷ vs)
  least_more k i j c vs t first l = record {
    is = walk_more k i c j vs t l.is;
    least = λ ws w.
        other ws (more_walk k i j ws w);
  }
    where
      other : (ws : List ℕ) → (d : ℕ) × (us : List ℕ) × (ws ≡ d ∷ us) × T (uses i d)
          × IsWalk uses k d j us → Least (c ∷ vs) ws
      other ws (d, us, e, s, w) =
          let at_most = first d us s w in
          subst (Least (c ∷ vs)) (sym e)
          (elim (cases_lt c d) [
            | inl less ↦ inl less
            | inr more ↦ (let o : c ≡ d = omega (arith, at_most, more) in
                inr (o, l.least us (subst (λ x. IsWalk uses k x j us) (sym o) w)))
          ])

-- ---- tables
pub standing_is : (uses : ℕ → ℕ → Bool) (i j : ℕ) (b : Bool) → b ≡ eqb i j → T b
    ↔ ((vs : List ℕ) × IsWalk uses 0 i j vs)
standing_is uses i j b e = (
  (λ t. ([], walk_none uses i j (eqb→eq i j (subst T e t)))),
  (λ w. subst T (sym e) (subst (λ x. T (eqb i x)) (none_walk uses i j w.0 w.1) (eqb_refl i))),
)

pub longer_is : (m k : ℕ) (used walks : Rows) → IsSquare m used → IsWalks (at used) m k walks
    → (i j : ℕ) (b : Bool) → i < m → j < m
    → Found (λ c. at used i c && at walks c j) b → T b
    ↔ ((vs : List ℕ) × IsWalk (at used) (k + 1) i j vs)
longer_is m k used walks s w i j b h l f = (there, back)
  where
    there : T b → (vs : List ℕ) × IsWalk (at used) (k + 1) i j vs
    there t =
        let r = f.there t in
        let p = both_out (at used i r.0) (at walks r.0 j) r.1 in
        let v = (w.each r.0 j (at_inside m used s i r.0 p.0).1 l).0 p.1 in
        (r.0 ∷ v.0, walk_more (at used) k i r.0 j v.0 p.0 v.1)

    back : ((vs : List ℕ) × IsWalk (at used) (k + 1) i j vs) → T b
    back v =
        let r = more_walk (at used) k i j v.0 v.1 in
        f.back r.0 (both_in (at used i r.0) (at walks r.0 j) r.3
        ((w.each r.0 j (at_inside m used s i r.0 r.3).1 l).1 (r.1, r.4)))

-- ---- the cycle that goes on
pub record Going (uses : ℕ → ℕ → Bool) (k first second left from : ℕ) (cycle : List ℕ) : Type
    0 where
  pub walk : (vs : List ℕ) × IsWalk uses left from first vs
  pub whole : (ws : List ℕ) → IsLeastWalk uses left from first ws
      → IsClosedWalk uses k first second (cycle ++ ws)

pub going_first : (uses : ℕ → ℕ → Bool) (k first second : ℕ) (cycle : List ℕ)
    → cycle ≡ first ∷ second ∷ [] → ((vs : List ℕ) × IsWalk uses k second first vs)
    → Going uses k first second k second cycle
going_first uses k first second cycle e w = record {
  walk = w;
  whole = λ ws l.
      record { others = ws; is = ap (λ l. l ++ ws) e; least = l };
}

pub going_more : (m k first second left from next : ℕ) (used walks : Rows) (cycle more : List ℕ)
    → IsSquare m used → first < m → IsWalks (at used) m left walks
    → First m (λ c. at used from c && at walks c first) next → more ≡ cycle ++ next ∷ []
    → Going (at used) k first second (left + 1) from cycle
    → Going (at used) k first second left next more
going_more m k first second left from next used walks cycle more s h w f e g =
    let p = both_out (at used from next) (at walks next first) f.passes in
    record {
      walk = (w.each next first f.within h).0 p.1;
      whole = λ ws l.
          subst (IsClosedWalk (at used) k first second) (sym (append_assoc cycle (next ∷ []) ws)
          ∙ ap (λ c. c ++ ws) (sym e))
          (g.whole (next ∷ ws) (least_more (at used) left from first next ws p.0
          (λ d us t v.
          f.first d (both_in (at used from d) (at walks d first) t
          ((w.each d first (at_inside m used s from d t).1 h).1 (us, v)))) l));
    }

-- a next one is there
pub going_on : (m k first second left from : ℕ) (used walks : Rows) (cycle : List ℕ)
    → IsSquare m used → first < m → IsWalks (at used) m left walks
    → Going (at used) k first second (left + 1) from cycle
    → ((c : ℕ) → T (at used from c && at walks c first) → ⊥) → ⊥
going_on m k first second left from used walks cycle s h w g none =
    let r = more_walk (at used) left from first g.walk.0 g.walk.1 in
    none r.0 (both_in (at used from r.0) (at walks r.0 first) r.3
    ((w.each r.0 first (at_inside m used s from r.0 r.3).1 h).1 (r.1, r.4)))

pub going_done : (uses : ℕ → ℕ → Bool) (k first second left from : ℕ) (cycle : List ℕ) → left ≡ 0
    → Going uses k first second left from cycle → IsClosedWalk uses k first second cycle
going_done uses k first second left from cycle e g =
    let w = subst (λ n. (vs : List ℕ) × IsWalk uses n from first vs) e g.walk in
    subst (IsClosedWalk uses k first second) (append-nil cycle)
    (g.whole [] (subst (λ n. IsLeastWalk uses n from first []) (sym e)
    (least_none uses from first (none_walk uses from first w.0 w.1))))

-- ---- the first place of a strong use that a walk leads back from

pub no_start : (m : ℕ) (strong walks : Rows) → IsSquare m strong
    → ((x y : ℕ) → x < m → T (at strong x y && at walks y x) → ⊥) → (x y : ℕ)
    → T (at strong x y && at walks y x) → ⊥
no_start m strong walks s none x y t =
    none x y (at_inside m strong s x y (both_out (at strong x y) (at walks y x) t).0).0 t

-- ---- one iteration of the loop that goes on with the cycle
module _ (m first second : ℕ) (used : Rows) (walks : List Table) (s : IsSquare m used)
    (h : first < m) (are : AreWalks (at used) m walks) (left from : ℕ) (l : left < length walks)
    (some : 0 < left) (table : Table) (is : table ≡ get_or walks (left - 1) table) where
  back : left ≡ left - 1 + 1
  back = omega arith

  table_is : IsWalks (at used) m (left - 1) table.items
  table_is = subst (λ (t : Table). IsWalks (at used) m (left - 1) t.items) (sym is)
      (are (left - 1) table (omega arith))

  pub iteration : (k next : ℕ) (cycle more : List ℕ)
      → First (length table.items) (λ c. at used from c && at table.items c first) next
      → more ≡ cycle ++ next ∷ [] → Going (at used) k first second left from cycle
      → Going (at used) k first second (left - 1) next more
  iteration k next cycle more f e g = going_more m k first second (left - 1) from next used
      table.items
      cycle more s h table_is (subst (λ n. First n (λ c. at used from c && at table.items c first)
      next) table_is.square.size f) e (subst (λ n. Going (at used) k first second n from cycle)
      back g)

  pub no_iteration : (k : ℕ) (cycle : List ℕ)
      → ((c : ℕ) → T (at used from c && at table.items c first)
      → ⊥) → Going (at used) k first second left from cycle → ⊥
  no_iteration k cycle none g = going_on m k first second (left - 1) from used table.items cycle s h
      table_is (subst (λ n. Going (at used) k first second n from cycle) back g) none

-- ---- the search for more and more steps
pub record Searching (used strong : Rows) (m steps : ℕ) (walks : List Table) : Type 0 where
  pub count : length walks ≡ steps + 1
  pub are : AreWalks (at used) m walks
  pub none : (k x y : ℕ) → k < steps → T (at strong x y) → (vs : List ℕ) → IsWalk (at used) k y x vs
      → ⊥

one_walks : (uses : ℕ → ℕ → Bool) (m : ℕ) (t : Table) → IsWalks uses m 0 t.items
    → AreWalks uses m (t ∷ [])
one_walks uses m t w zero d l = w
one_walks uses m t w (suc k) d l = absurd (omega arith)

more_walks : (uses : ℕ → ℕ → Bool) (m : ℕ) (ts : List Table) (t : Table) → AreWalks uses m ts
    → IsWalks uses m (length ts) t.items → AreWalks uses m (ts ++ t ∷ [])
more_walks uses m ts t a w k d l = elim (cases_lt k (length ts)) [
  | inl h ↦ subst (λ (x : Table). IsWalks uses m k x.items)
      (sym (get_or_append_left ts (t ∷ []) d k h)) (a k d h)
  | inr g ↦
      let n : k ≡ length ts = (let e : length (ts ++ t ∷ []) ≡ length ts + 1 =
      length-append ts (t ∷ []) in omega arith) in
      subst (λ (x : Table). IsWalks uses m k x.items) (sym (get_or_push ts t d k (sym n)))
      (subst (λ i. IsWalks uses m i t.items) (sym n) w)
]

pub searching_first : (used strong : Rows) (m : ℕ) (walks start : List Table) (t : Table)
    → start ≡ [] → walks ≡ start ++ t ∷ [] → ((uses : ℕ → ℕ → Bool) → IsWalks uses m 0 t.items)
    → Searching used strong m 0 walks
searching_first used strong m walks start t b e w =
    let is : walks ≡ t ∷ [] = e ∙ ap (λ l. l ++ t ∷ []) b in
    subst (Searching used strong m 0) (sym is)
    (record {
      count = refl;
      are = one_walks (at used) m t (w (at used));
      none = λ k x y l.
          absurd (omega arith);
    })

module _ (used strong : Rows) (m : ℕ) (s : IsSquare m used) (q : IsSquare m strong)
    (linear : (i j : ℕ) → T (at strong i j) → T (at used i j)) where
  bounded : (i j : ℕ) → T (at used i j) → (i < m) × (j < m)
  bounded i j t = at_inside m used s i j t

  -- the table of as many steps as the search has come to
  pub table_at : (steps : ℕ) (walks : List Table) (t : Table) → Searching used strong m steps walks
      → t ≡ get_or walks steps t → IsWalks (at used) m steps t.items
  table_at steps walks t r e = subst (λ (x : Table). IsWalks (at used) m steps x.items) (sym e)
      (r.are steps t (let c = r.count in omega arith))

  -- a walk that closes a cycle is told by the table
  told : (k : ℕ) (t : Rows) → IsWalks (at used) m k t → (x y : ℕ) → T (at strong x y)
      → (vs : List ℕ) → IsWalk (at used) k y x vs → T (at strong x y && at t y x)
  told k t w x y h vs v =
      let b = at_inside m strong q x y h in
      both_in (at strong x y) (at t y x) h ((w.each y x b.1 b.0).1 (vs, v))

  pub searching_more : (steps : ℕ) (walks more : List Table) (t next : Table)
      → more ≡ walks ++ next ∷ [] → IsWalks (at used) m steps t.items
      → ((x y : ℕ) → T (at strong x y && at t.items y x) → ⊥)
      → ((k : ℕ) → IsWalks (at used) (length t.items) k t.items
      → IsWalks (at used) (length t.items) (k + 1) next.items)
      → Searching used strong m steps walks → Searching used strong m (steps + 1) more
  searching_more steps walks more t next e w none longer r = record {
    count = ap length e ∙ length-append walks (next ∷ []) ∙ ap (λ n. n + 1) r.count;
    are = subst (AreWalks (at used) m) (sym e) (more_walks (at used) m walks next r.are
        (subst (λ k. IsWalks (at used) m k next.items) (sym r.count)
        (subst (λ n. IsWalks (at used) n (steps + 1) next.items) w.square.size
        (longer steps (subst (λ n. IsWalks (at used) n steps t.items) (sym w.square.size)
        w)))));
    none = λ k x y l h vs v. elim (cases_lt k steps) [
      | inl less ↦ r.none k x y less h vs v
      | inr more ↦ (let same : k ≡ steps = omega arith in
          none x y (told steps t.items w x y h vs (subst (λ n. IsWalk (at used) n y x vs) same
          v)))
    ];
  }

  steps_of : (k i j : ℕ) (vs : List ℕ) → IsWalk (at used) k i j vs
      → C.Steps (at used) (at strong) m bounded linear k i j vs
  steps_of k i j vs w = record { size = w.size; walks = w.walks; ends = w.ends }

  walk_of : (k i j : ℕ) (vs : List ℕ) → C.Steps (at used) (at strong) m bounded linear k i j vs
      → IsWalk (at used) k i j vs
  walk_of k i j vs w = record { size = w.size; walks = w.walks; ends = w.ends }

  started : (k x y : ℕ) → T (C.starts (at used) (at strong) m bounded linear k x y)
      → T (at strong x y) × ((vs : List ℕ) × IsWalk (at used) k y x vs)
  started k x y t =
      let b = both_out (at strong x y) (C.walk (at used) (at strong) m bounded linear k y x) t in
      let w = C.walk_out (at used) (at strong) m bounded linear k y x b.1 in
      (b.0, (w.0, walk_of k y x w.0 w.1))

  pub cycle_least : (steps v w : ℕ) (walks : List Table) (t : Rows) (cycle : List ℕ)
      → Searching used strong m steps walks → IsWalks (at used) m steps t
      → IsStart (at strong) (at t) (length t) v w → IsClosedWalk (at used) steps v w cycle
      → IsLeastCycle (at used) (at strong) cycle
  cycle_least steps v w walks t cycle r is s c =
      subst (IsLeastCycle (at used) (at strong)) (sym c.is)
      (C.least_cycle (at used) (at strong) m bounded linear steps v w c.others
      (both_out (at strong v w) (at t w v) s.passes).0
      (record {
        is = steps_of steps w v c.others c.least.is;
        least = λ ws z.
            c.least.least ws (walk_of steps w v ws z);
      })
      (λ x y h. (let b = started steps x y h in s.first x y (told steps t is x y b.0 b.1.0 b.1.1)))
      (λ y h. (let b = started steps v y h in s.second y (told steps t is v y b.0 b.1.0 b.1.1)))
      (λ k x y l h. (let b = started k x y h in r.none k x y l b.0 b.1.0 b.1.1)))

  pub none_at_all : (steps : ℕ) (walks : List Table) → m ≤ steps
      → Searching used strong m steps walks → (vs : List ℕ) → IsNonlinearCycle (at used) (at strong)
      vs → ⊥
  none_at_all steps walks l r = C.no_short_none (at used) (at strong) m bounded linear (λ k x y h t.
      (let b = started k x y t in r.none k x y (omega arith) b.0 b.1.0 b.1.1))
