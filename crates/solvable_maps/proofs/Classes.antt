-- The order of the classes: while some variable is left, one is ready, and there is exactly one list.
--   reaches_dec, member_dec     reaching is decided, and so is membership in a list;  reached_within: what reaches and what is reached are below m
--   some_ready           while a variable below m is not among the earlier ones, some variable is ready
--   next_one             the first that is ready is one
--   class_one            a class is one ascending list;  same_ascending: ascending lists with the same members are one
--   classes_one          the list of classes is one
use Rattle.std.proofs.Common.{◌≡◌, ◌⊎◌, inl, inr, ℕ, zero, suc, ◌<◌, ◌≤◌, List, [], ◌∷◌, ◌++◌, Bool, true, false, T, eqb, eqb→eq, refl, sym, ap, ap₂, subst, arith}
use lib.Dec.{eqb_refl}
use Rattle.std.proofs.lemmas.Bool.{cases_lt}
use Rattle.solvable_maps.specs.Dependency.{Reaches, Walks, last_of, reach}
use Rattle.solvable_maps.specs.Class.{Above, Ascends, InClass, Ready, IsClassOf, IsNext, AreClasses}
use Rattle.solvable_maps.proofs.Reach.{reach_walk, reach_all}
use Rattle.solvable_maps.proofs.Ranks.{size, size_less}
use Rattle.algebra.specs.In.{In}

bool_dec : (b : Bool) → Dec (T b)
bool_dec true = yes tt
bool_dec false = no (λ t. t)

pub member_dec : (i : ℕ) (js : List ℕ) → Dec (In i js)
member_dec i [] = no (λ h. h)
member_dec i (j ∷ js) =
    elim (bool_dec (eqb j i)) [
      | yes e ↦ yes (inl (sym (eqb→eq j i e)))
      | no ne ↦ elim (member_dec i js) [
        | yes h ↦ yes (inr h)
        | no nh ↦ no (λ k. elim k [
          | inl e ↦ ne (subst (λ x. T (eqb j x)) (sym e) (eqb_refl j))
          | inr h ↦ nh h
        ])
      ]
    ]

-- of the numbers below m in P the one with the least f
pub record Minimal (m : ℕ) (P : ℕ → Type 0) (f : ℕ → ℕ) : Type 0 where
  pub at : ℕ
  pub within : at < m
  pub is : P at
  pub least : (j : ℕ) → j < m → P j → f at ≤ f j

pub minimal : (m : ℕ) (P : ℕ → Type 0) (f : ℕ → ℕ) → ((i : ℕ) → Dec (P i)) → Minimal m P f
    ⊎ ((i : ℕ) → i < m → P i → ⊥)
minimal zero P f d = inr (λ i l. absurd (omega arith))
minimal (suc m) P f d =
    elim (minimal m P f d) [
      | inr none ↦ elim (d m) [
        | yes p ↦ inl (record {
          at = m;
          within = omega arith;
          is = p;
          least = λ j l q. elim (cases_lt j m) [
            | inl s ↦ absurd (none j s q)
            | inr g ↦ (let e : j ≡ m = omega arith in let z : f m ≡ f j = ap f (sym e) in
                omega (arith, z))
          ];
        })
        | no np ↦ inr (λ i l q. elim (cases_lt i m) [
          | inl s ↦ none i s q
          | inr g
              ↦ np (subst P (let e : i ≡ m = omega arith in e) q)
        ])
      ]
      | inl k ↦ elim (d m) [
        | no np ↦ inl (record {
          at = k.at;
          within = (let w : k.at < m = k.within in omega arith);
          is = k.is;
          least = λ j l q. elim (cases_lt j m) [
            | inl s ↦ k.least j s q
            | inr g ↦ absurd (np (subst P (let e : j ≡ m = omega arith in e) q))
          ];
        })
        | yes p ↦ elim (cases_lt (f m) (f k.at)) [
          | inl less ↦ inl (record {
            at = m;
            within = omega arith;
            is = p;
            least = λ j l q. elim (cases_lt j m) [
              | inl s ↦ (let z : f k.at ≤ f j = k.least j s q in omega (arith, z, less))
              | inr g ↦ (let e : j ≡ m = omega arith in let z : f m ≡ f j = ap f (sym e) in
                  omega (arith, z))
            ];
          })
          | inr more ↦ inl (record {
            at = k.at;
            within = (let w : k.at < m = k.within in omega arith);
            is = k.is;
            least = λ j l q. elim (cases_lt j m) [
              | inl s ↦ k.least j s q
              | inr g ↦ (let e : j ≡ m = omega arith in let z : f m ≡ f j = ap f (sym e) in
                  omega (arith, z, more))
            ];
          })
        ]
      ]
    ]

module _ (uses : ℕ → ℕ → Bool) (m : ℕ) (bounded : (i j : ℕ) → T (uses i j) → (i < m)
    × (j < m)) where
  pub reaches_dec : (i j : ℕ) → Dec (Reaches uses i j)
  reaches_dec i j = elim (bool_dec (reach uses m i j)) [
    | yes t ↦ yes (reach_walk uses m i j t)
    | no n ↦ no (λ r. n (reach_all uses m (λ i j t. (bounded i j t).1) i j r))
  ]

  -- what is reached is below m
  pub reached_within : (i j : ℕ) → Reaches uses i j → (i < m) × (j < m)
  reached_within i j r = (
    (bounded i r.first r.walks.0).0,
    subst (λ x. x < m) r.ends (go r.first r.others (bounded i r.first r.walks.0).1 r.walks.1),
  )
    where
      go : (v : ℕ) (vs : List ℕ) → v < m → Walks uses v vs → last_of v vs < m
      go v [] l w = l
      go v (x ∷ vs) l w = go x vs (bounded v x w.0).1 w.1

  -- of two variables, one reached from the other, with no lesser size: they are in one class
  same_size : (i j : ℕ) → Reaches uses i j → size uses uses m bounded (λ a b t. t) i
      ≤ size uses uses m bounded (λ a b t. t) j → InClass uses i j
  same_size i j r h =
      elim (bool_dec (eqb i j)) [
        | yes e ↦ inl (eqb→eq i j e)
        | no ne ↦ elim (reaches_dec j i) [
          | yes s ↦ inr (r, s)
          | no ns ↦
              let less = size_less uses uses m bounded (λ a b t. t) i j (reached_within i j r).0 r
              (λ e. ne (subst (λ x. T (eqb i x)) e (eqb_refl i))) ns in
              absurd (omega (arith, less, h))
        ]
      ]

  pub some_ready : (earlier : List ℕ) (i : ℕ) → i < m → (In i earlier → ⊥) → (j : ℕ) × (j < m)
      × Ready uses earlier j
  some_ready earlier i l new =
      elim (minimal m (λ k. In k earlier → ⊥) (size uses uses m bounded (λ a b t. t))
      (λ k. elim (member_dec k earlier) [ yes h ↦ no (λ n. n h) | no n ↦ yes n ])) [
        | inr none ↦ absurd (none i l new)
        | inl k ↦ (
          k.at,
          k.within,
          record {
            new = k.is;
            inside = λ j r. elim (member_dec j earlier) [
              | yes h ↦ inr h
              | no n ↦ inl (same_size k.at j r (k.least j (reached_within k.at j r).1 n))
            ];
          },
        )
      ]

  pub next_one : (earlier : List ℕ) (i j : ℕ) → IsNext uses m earlier i → IsNext uses m earlier j
      → i ≡ j
  next_one earlier i j p q = (let a = p.least j q.within q.ready in let b =
      q.least i p.within p.ready in omega (arith, a, b))

above_member : (i : ℕ) (js : List ℕ) → Above i js → (j : ℕ) → In j js → i < j
above_member i [] a j h = absurd h
above_member i (k ∷ js) a j (inl e) = subst (λ x. i < x) (sym e) a.0
above_member i (k ∷ js) a j (inr h) = above_member i js a.1 j h

-- ascending lists with the same members are one
pub same_ascending : (xs ys : List ℕ) → Ascends xs → Ascends ys → ((i : ℕ) → In i xs → In i ys)
    → ((i : ℕ) → In i ys → In i xs) → xs ≡ ys
same_ascending [] [] a b f g = refl
same_ascending [] (y ∷ ys) a b f g = absurd (g y (inl refl))
same_ascending (x ∷ xs) [] a b f g = absurd (f x (inl refl))
same_ascending (x ∷ xs) (y ∷ ys) a b f g =
    ap₂ ◌∷◌ same (same_ascending xs ys a.1 b.1 (λ i h. tail_of x xs y ys a.0 same f i h) (λ i h.
    tail_of y ys x xs b.0 (sym same) g i h))
  where
    least : (x : ℕ) (xs : List ℕ) → Above x xs → (y : ℕ) → In y (x ∷ xs) → x ≤ y
    least x xs a y (inl e) = omega arith
    least x xs a y (inr h) = (let l = above_member x xs a y h in omega (arith, l))

    same : x ≡ y
    same = (let p = least x xs a.0 y (g y (inl refl)) in let q =
        least y ys b.0 x (f x (inl refl)) in omega (arith, p, q))

    tail_of : (x : ℕ) (xs : List ℕ) (y : ℕ) (ys : List ℕ) → Above x xs → x ≡ y
        → ((i : ℕ) → In i (x ∷ xs) → In i (y ∷ ys)) → (i : ℕ) → In i xs → In i ys
    tail_of x xs y ys a e f i h = elim (f i (inr h)) [
      | inl q
          ↦ absurd (let l = above_member x xs a i h in omega (arith, l, e, q))
      | inr k ↦ k
    ]

module _ (uses : ℕ → ℕ → Bool) (m : ℕ) (bounded : (i j : ℕ) → T (uses i j) → (i < m)
    × (j < m)) where
  pub class_one : (i : ℕ) (g h : List ℕ) → IsClassOf uses m i g → IsClassOf uses m i h → g ≡ h
  class_one i g h p q = same_ascending g h p.ascends q.ascends (λ j k.
      (let r = p.inside j k in q.whole j r.0 r.1)) (λ j k.
      (let r = q.inside j k in p.whole j r.0 r.1))

  none_left : (earlier : List ℕ) (i : ℕ) → IsNext uses m earlier i
      → ((i : ℕ) → i < m → In i earlier) → ⊥
  none_left earlier i n all = n.ready.new (all i n.within)

  pub classes_one : (gs hs : List (List ℕ)) (earlier : List ℕ) → AreClasses uses m earlier gs
      → AreClasses uses m earlier hs → gs ≡ hs
  classes_one [] [] earlier p q = refl
  classes_one [] (h ∷ hs) earlier p q = absurd (none_left earlier q.0 q.1 p)
  classes_one (g ∷ gs) [] earlier p q = absurd (none_left earlier p.0 p.1 q)
  classes_one (g ∷ gs) (h ∷ hs) earlier p q =
      let e : p.0 ≡ q.0 = next_one uses m bounded earlier p.0 q.0 p.1 q.1 in
      let same : g ≡ h = class_one p.0 g h p.2 (subst (λ i. IsClassOf uses m i h) (sym e) q.2) in
      ap₂ ◌∷◌ same (classes_one gs hs (earlier ++ g) p.3
      (subst (λ x. AreClasses uses m (earlier ++ x) hs) (sym same) q.3))
