-- Polynomials that follow steps.
--   value_here           the value of what stands for an expression's
--   follows_step         one step more, by its values
--   follows_divisor      one divisor more
--   follows_assign, follows_choose, follows_equal, follows_differ
use Rattle.std.proofs.Common.{◌≡◌, ◌<◌, ℕ, zero, suc, ◌+◌, List, [], ◌∷◌, ◌++◌, map, take, drop, set, get_or, length, arith, refl, sym, ap, ap₂, subst, ◌∙◌, append_assoc, All, take-append-drop}
use Rattle.std.specs.List.{AllZip}
use Rattle.std.proofs.lemmas.List.{append-nil, length-append, length-set}
use Rattle.std.proofs.lemmas.List.Elements.{All-push, All-set, All-head, All-tail, All-take}
use Rattle.algebra.specs.Fraction.{Fraction, ℚ}
use Rattle.algebra.proofs.Fractions.{ℚ_ring}
use Rattle.algebra.proofs.Lists.{length-front, length-back}
use Rattle.polynomials.specs.Terms.{Terms, constant, lists, value_at}
use Rattle.polynomials.proofs.ValueAt.{value_at_same}
use Rattle.loops.specs.Program.{Expr, Statement}
use Rattle.loops.specs.Effect.{value_of, store, after_statement}
use Rattle.loops.proofs.Effects.{to-value_of, length-store}
use Rattle.flows.proofs.Steps.{parted}
use Rattle.flows.proofs.Transitions.{length-after_all}
use Rattle.poly.proofs.Standing.{stands_over}
use Rattle.loops.proofs.Maps.{value_at_carries}
use Rattle.loops.proofs.Substitution.{map_store}
use Rattle.flows.specs.Steps.{Step, assign, choose, equal, differ}
use Rattle.flows.specs.Paths.{less, side_less, unknowns, all_unknowns, inverse_zeros, zeros_of, after_step, all_zeros, after_all}
use Rattle.poly.specs.Seen.{terms_in, terms_each}
use Rattle.poly.specs.Standing.{IsInVariables, StandsFor, AllStandFor}
use Rattle.loop_model.specs.FracPoly.{FracPoly}
use Rattle.loop_model.specs.Operations as operations
use Rattle.program_model.specs.Widening.{IsWidened}
use Rattle.program_model.specs.Follows.{values, Follows}
use Rattle.program_model.proofs.Wider.{widened_values, widened_over}
use Rattle.program_model.proofs.StepLaws.{unknowns-push, after_all-push, all_zeros-push, inverse_zeros-push}

abbrev E : Type 0
E = Expr ℕ

abbrev val : List Fraction → E → Fraction
val t e = value_of ℚ (λ c. c) t e

pub value_here : (m : ℕ) (ps : List FracPoly) (p : FracPoly) (e : E)
    → StandsFor m p (operations.value m (terms_each ps) e) → (w : List Fraction)
    → value_at ℚ (terms_in p) w ≡ value_of ℚ (λ c. c) (values ps w) e
value_here m ps p e h w =
    value_at_same ℚ_ring (terms_in p) _ w h.same
    ∙ to-value_of (lists ℚ m) ℚ (constant m) (λ c. c) (λ q. value_at ℚ q w)
    (value_at_carries m w) (terms_each ps) e

values-push : (ps : List FracPoly) (p : FracPoly) (w : List Fraction)
    → values (ps ++ p ∷ []) w ≡ values ps w ++ value_at ℚ (terms_in p) w ∷ []
values-push [] p w = refl
values-push (q ∷ ps) p w = ap (λ l. value_at ℚ (terms_in q) w ∷ l) (values-push ps p w)

values-set : (ps : List FracPoly) (j : ℕ) (p : FracPoly) (w : List Fraction)
    → values (set ps j p) w ≡ set (values ps w) j (value_at ℚ (terms_in p) w)
values-set [] j p w = refl
values-set (q ∷ ps) zero p w = refl
values-set (q ∷ ps) (suc j) p w = ap (λ l. value_at ℚ (terms_in q) w ∷ l) (values-set ps j p w)

nil_behind : (t y : List Fraction) → length y ≡ 0 → t ++ y ≡ t
nil_behind t [] l = append-nil t
nil_behind t (v ∷ y) l = absurd (omega arith)

-- the last of some
pub last_of : {A : Type 0} (k : ℕ) (ys : List A) → length ys ≡ suc k
    → (y : List A) × (v : A) × (ys ≡ y ++ v ∷ []) × (length y ≡ k)
last_of k [] l = absurd (omega arith)
last_of zero (v ∷ []) l = ([], v, refl, refl)
last_of zero (v ∷ w ∷ ys) l = absurd (omega arith)
last_of (suc k) (z ∷ ys) l =
    let r = last_of k ys (omega arith) in
    (z ∷ r.0, r.1, ap (λ l. z ∷ l) r.2, ap suc r.3)

module _ (n : ℕ) (cs : List (Step E)) where
  abbrev a : ℕ
  a = all_unknowns cs

  abbrev zeros_at : List Fraction → List Fraction → List Fraction
  zeros_at x s = all_zeros ℚ (λ c. c) cs x s

  abbrev after : List Fraction → List Fraction → List Fraction
  after x s = after_all ℚ (λ c. c) cs x s

  pub follows_step : (g : Step E) (zs ps : List FracPoly)
      → All (IsInVariables (all_unknowns cs + unknowns g + n)) zs
      → All (IsInVariables (all_unknowns cs + unknowns g + n)) ps
      → ((x y s : List Fraction) → length x ≡ all_unknowns cs → length y ≡ unknowns g
      → length s ≡ n → values zs (x ++ y ++ s)
      ≡ zeros_at x s ++ zeros_of ℚ (λ c. c) g y (after x s))
      → ((x y s : List Fraction) → length x ≡ all_unknowns cs → length y ≡ unknowns g
      → length s ≡ n → values ps (x ++ y ++ s) ≡ after_step ℚ (λ c. c) g y (after x s))
      → Follows n (cs ++ g ∷ []) [] zs ps
  unfolding inverse_zeros
  follows_step g zs ps zo po z p =
      let k = unknowns-push cs g in
      let e : all_unknowns cs + unknowns g + n ≡ all_unknowns (cs ++ g ∷ []) + 0 + n =
      omega (arith, k) in
      record {
        zeros_over = subst (λ m. All (IsInVariables m) zs) e zo;
        images_over = subst (λ m. All (IsInVariables m) ps) e po;
        zeros = λ x y s l j i. zeros_go x y s l j i;
        images = λ x y s l j i. images_go x y s l j i;
      }
    where
      zeros_go : (x y s : List Fraction) → length x ≡ all_unknowns (cs ++ g ∷ [])
          → length y ≡ 0 → length s ≡ n → values zs (x ++ y ++ s)
          ≡ all_zeros ℚ (λ c. c) (cs ++ g ∷ []) x s ++ []
      zeros_go x [] s l j i =
          let u = l ∙ unknowns-push cs g in
          let x1 = take a x in
          let x2 = drop a x in
          let l1 = length-front a (unknowns g) x u in
          let l2 = length-back a (unknowns g) x u in
          ap (λ w. values zs (w ++ s)) (append-nil x)
          ∙ ap (λ w. values zs (w ++ s)) (sym (take-append-drop a x))
          ∙ z x1 x2 s l1 l2 i
          ∙ sym (all_zeros-push ℚ (λ c. c) cs g x1 x2 s l1 l2)
          ∙ ap (λ w. all_zeros ℚ (λ c. c) (cs ++ g ∷ []) w s) (take-append-drop a x)
          ∙ sym (append-nil _)
      zeros_go x (v ∷ y) s l j i = absurd (omega arith)

      images_go : (x y s : List Fraction) → length x ≡ all_unknowns (cs ++ g ∷ [])
          → length y ≡ 0 → length s ≡ n → values ps (x ++ y ++ s)
          ≡ after_all ℚ (λ c. c) (cs ++ g ∷ []) x s ++ y
      images_go x [] s l j i =
          let u = l ∙ unknowns-push cs g in
          let x1 = take a x in
          let x2 = drop a x in
          let l1 = length-front a (unknowns g) x u in
          let l2 = length-back a (unknowns g) x u in
          ap (λ w. values ps (w ++ s)) (append-nil x)
          ∙ ap (λ w. values ps (w ++ s)) (sym (take-append-drop a x))
          ∙ p x1 x2 s l1 l2 i
          ∙ sym (after_all-push ℚ (λ c. c) cs g x1 x2 s l1 l2)
          ∙ ap (λ w. after_all ℚ (λ c. c) (cs ++ g ∷ []) w s) (take-append-drop a x)
          ∙ sym (append-nil _)
      images_go x (v ∷ y) s l j i = absurd (omega arith)

  -- ---- one unknown more
  whole : (x y s : List Fraction) (v : Fraction) → x ++ (y ++ v ∷ []) ++ s ≡ (x ++ y) ++ v ∷ s
  whole x y s v =
      ap (λ w. w ++ s) (sym (append_assoc x y (v ∷ [])))
      ∙ append_assoc (x ++ y) (v ∷ []) s

  module _ (ds : List E) (zs ps zs' ps' : List FracPoly) (h : Follows n cs ds zs ps) (b : ℕ)
      (place : b ≡ all_unknowns cs + length ds) (wz : AllZip (IsWidened b) zs zs')
      (wp : AllZip (IsWidened b) ps ps') where
    module _ (x y s : List Fraction) (v : Fraction) (lx : length x ≡ all_unknowns cs)
        (ly : length y ≡ length ds) (ls : length s ≡ n) where
      at : length (x ++ y) ≡ b
      at = length-append x y ∙ ap₂ ◌+◌ lx ly ∙ sym place

      pub wide_zeros : values zs' (x ++ (y ++ v ∷ []) ++ s)
          ≡ zeros_at x s ++ inverse_zeros ℚ (λ c. c) ds y (after x s)
      wide_zeros = ap (values zs') (whole x y s v) ∙ widened_values b zs zs' wz (x ++ y) s v at
          ∙ h.zeros x y s lx ly ls

      pub wide_images : values ps' (x ++ (y ++ v ∷ []) ++ s) ≡ after x s ++ y
      wide_images = ap (values ps') (whole x y s v) ∙ widened_values b ps ps' wp (x ++ y) s v at
          ∙ h.images x y s lx ly ls

    pub wide_zeros_over : All (IsInVariables (suc (all_unknowns cs + length ds + n))) zs'
    wide_zeros_over = widened_over b _ zs zs' wz h.zeros_over

    pub wide_images_over : All (IsInVariables (suc (all_unknowns cs + length ds + n))) ps'
    wide_images_over = widened_over b _ ps ps' wp h.images_over

    -- ---- one divisor more
    pub follows_divisor : (d : E) (q z : FracPoly)
        → IsInVariables (suc (all_unknowns cs + length ds + n)) q
        → IsInVariables (suc (all_unknowns cs + length ds + n)) z
        → ((x y s : List Fraction) (v : Fraction) → length x ≡ all_unknowns cs
        → length y ≡ length ds → length s ≡ n
        → value_at ℚ (terms_in q) (x ++ (y ++ v ∷ []) ++ s) ≡ v)
        → ((w : List Fraction) → value_at ℚ (terms_in z) w
        ≡ less ℚ (ℚ.mul (value_at ℚ (terms_in q) w) (val (values ps' w) d)) ℚ.one)
        → Follows n cs (ds ++ d ∷ []) (zs' ++ z ∷ []) (ps' ++ q ∷ [])
    follows_divisor d q z qo zo qv zv =
        let k = length-append ds (d ∷ []) in
        let e : suc (all_unknowns cs + length ds + n)
        ≡ all_unknowns cs + length (ds ++ d ∷ []) + n = omega (arith, k) in
        record {
          zeros_over = subst (λ m. All (IsInVariables m) (zs' ++ z ∷ [])) e
              (All-push (IsInVariables _) zs' z wide_zeros_over zo);
          images_over = subst (λ m. All (IsInVariables m) (ps' ++ q ∷ [])) e
              (All-push (IsInVariables _) ps' q wide_images_over qo);
          zeros = λ x y s lx ly ls. let r = last_of (length ds) y (ly ∙ count) in
              subst (λ t. values (zs' ++ z ∷ []) (x ++ t ++ s)
              ≡ zeros_at x s ++ inverse_zeros ℚ (λ c. c) (ds ++ d ∷ []) t (after x s))
              (sym r.2) (zeros_go x r.0 s r.1 lx r.3 ls);
          images = λ x y s lx ly ls. let r = last_of (length ds) y (ly ∙ count) in
              subst (λ t. values (ps' ++ q ∷ []) (x ++ t ++ s) ≡ after x s ++ t)
              (sym r.2) (images_go x r.0 s r.1 lx r.3 ls);
        }
      where
        count : length (ds ++ d ∷ []) ≡ suc (length ds)
        count = let k = length-append ds (d ∷ []) in omega (arith, k)

        zeros_go : (x y s : List Fraction) (v : Fraction) → length x ≡ all_unknowns cs
            → length y ≡ length ds → length s ≡ n
            → values (zs' ++ z ∷ []) (x ++ (y ++ v ∷ []) ++ s)
            ≡ zeros_at x s
            ++ inverse_zeros ℚ (λ c. c) (ds ++ d ∷ []) (y ++ v ∷ []) (after x s)
        zeros_go x y s v lx ly ls =
            let w = x ++ (y ++ v ∷ []) ++ s in
            values-push zs' z w
            ∙ ap₂ (λ l u. l ++ u ∷ []) (wide_zeros x y s v lx ly ls)
            (zv w ∙ ap₂ (λ u t. less ℚ (ℚ.mul u (val t d)) ℚ.one) (qv x y s v lx ly ls)
            (wide_images x y s v lx ly ls))
            ∙ append_assoc (zeros_at x s) _ _
            ∙ ap (λ l. zeros_at x s ++ l)
            (sym (inverse_zeros-push ℚ (λ c. c) ds d y v (after x s) ly))

        images_go : (x y s : List Fraction) (v : Fraction) → length x ≡ all_unknowns cs
            → length y ≡ length ds → length s ≡ n
            → values (ps' ++ q ∷ []) (x ++ (y ++ v ∷ []) ++ s) ≡ after x s ++ (y ++ v ∷ [])
        images_go x y s v lx ly ls =
            let w = x ++ (y ++ v ∷ []) ++ s in
            values-push ps' q w
            ∙ ap₂ (λ l u. l ++ u ∷ []) (wide_images x y s v lx ly ls) (qv x y s v lx ly ls)
            ∙ append_assoc (after x s) y (v ∷ [])

  -- ---- steps without divisors
  module _ (zs ps zs' ps' : List FracPoly) (h : Follows n cs [] zs ps) where
    pub follows_equal : (e f : E) (z : FracPoly)
        → IsInVariables (all_unknowns cs + 0 + n) z
        → ((w : List Fraction) → value_at ℚ (terms_in z) w
        ≡ side_less ℚ (λ c. c) (values ps w) e f)
        → Follows n (cs ++ equal e f ∷ []) [] (zs ++ z ∷ []) ps
    unfolding unknowns zeros_of after_step inverse_zeros
    follows_equal e f z zo zv =
        follows_step (equal e f) (zs ++ z ∷ []) ps
        (All-push (IsInVariables _) zs z h.zeros_over zo) h.images_over
        (λ x y s l k i.
        values-push zs z (x ++ y ++ s)
        ∙ ap₂ (λ t u. t ++ u ∷ []) (h.zeros x y s l k i ∙ append-nil (zeros_at x s))
        (zv (x ++ y ++ s) ∙ ap (λ t. side_less ℚ (λ c. c) t e f)
        (h.images x y s l k i ∙ nil_behind (after x s) y k)))
        (λ x y s l k i. h.images x y s l k i ∙ nil_behind (after x s) y k)

    module _ (b : ℕ) (place : b ≡ all_unknowns cs + 0) (wz : AllZip (IsWidened b) zs zs')
        (wp : AllZip (IsWidened b) ps ps') where
      one_more : suc (all_unknowns cs + 0 + n) ≡ all_unknowns cs + 1 + n
      one_more = omega arith

      images_wide : (x y s : List Fraction) → length x ≡ all_unknowns cs → length y ≡ 1
          → length s ≡ n → values ps' (x ++ y ++ s) ≡ after x s
      images_wide x y s l k i =
          let r = last_of 0 y k in
          ap (λ t. values ps' (x ++ t ++ s)) r.2
          ∙ wide_images [] zs ps zs' ps' h b place wz wp x r.0 s r.1 l r.3 i
          ∙ nil_behind (after x s) r.0 r.3

      zeros_wide : (x y s : List Fraction) → length x ≡ all_unknowns cs → length y ≡ 1
          → length s ≡ n → values zs' (x ++ y ++ s) ≡ zeros_at x s
      unfolding inverse_zeros
      zeros_wide x y s l k i =
          let r = last_of 0 y k in
          ap (λ t. values zs' (x ++ t ++ s)) r.2
          ∙ wide_zeros [] zs ps zs' ps' h b place wz wp x r.0 s r.1 l r.3 i
          ∙ append-nil (zeros_at x s)

      pub follows_differ : (e f : E) (q z : FracPoly)
          → IsInVariables (suc (all_unknowns cs + 0 + n)) z
          → ((x y s : List Fraction) → length x ≡ all_unknowns cs → length y ≡ 1
          → length s ≡ n → value_at ℚ (terms_in q) (x ++ y ++ s) ≡ get_or y 0 ℚ.zero)
          → ((w : List Fraction) → value_at ℚ (terms_in z) w
          ≡ less ℚ (ℚ.mul (value_at ℚ (terms_in q) w)
          (side_less ℚ (λ c. c) (values ps' w) e f)) ℚ.one)
          → Follows n (cs ++ differ e f ∷ []) [] (zs' ++ z ∷ []) ps'
      unfolding unknowns zeros_of after_step
      follows_differ e f q z zo qv zv =
          follows_step (differ e f) (zs' ++ z ∷ []) ps'
          (subst (λ m. All (IsInVariables m) (zs' ++ z ∷ [])) one_more
          (All-push (IsInVariables _) zs' z
          (wide_zeros_over [] zs ps zs' ps' h b place wz wp) zo))
          (subst (λ m. All (IsInVariables m) ps') one_more
          (wide_images_over [] zs ps zs' ps' h b place wz wp))
          (λ x y s l k i.
          values-push zs' z (x ++ y ++ s)
          ∙ ap₂ (λ t u. t ++ u ∷ []) (zeros_wide x y s l k i)
          (zv (x ++ y ++ s) ∙ ap₂ (λ u t. less ℚ (ℚ.mul u (side_less ℚ (λ c. c) t e f)) ℚ.one)
          (qv x y s l k i) (images_wide x y s l k i)))
          (λ x y s l k i. images_wide x y s l k i)

      pub follows_choose : (j : ℕ) (q : FracPoly)
          → IsInVariables (suc (all_unknowns cs + 0 + n)) q
          → ((x y s : List Fraction) → length x ≡ all_unknowns cs → length y ≡ 1
          → length s ≡ n → value_at ℚ (terms_in q) (x ++ y ++ s) ≡ get_or y 0 ℚ.zero)
          → Follows n (cs ++ choose j ∷ []) [] zs' (set ps' j q)
      unfolding unknowns zeros_of after_step
      follows_choose j q qo qv =
          follows_step (choose j) zs' (set ps' j q)
          (subst (λ m. All (IsInVariables m) zs') one_more
          (wide_zeros_over [] zs ps zs' ps' h b place wz wp))
          (subst (λ m. All (IsInVariables m) (set ps' j q)) one_more
          (All-set (IsInVariables _) ps' j q qo
          (wide_images_over [] zs ps zs' ps' h b place wz wp)))
          (λ x y s l k i. zeros_wide x y s l k i ∙ sym (append-nil (zeros_at x s)))
          (λ x y s l k i.
          values-set ps' j q (x ++ y ++ s)
          ∙ ap₂ (λ t v. set t j v) (images_wide x y s l k i) (qv x y s l k i))

-- ---- an assignment
module _ {A : Type 0} where
  set-front : (t y : List A) (i : ℕ) (x : A) → i < length t → set (t ++ y) i x ≡ set t i x ++ y
  set-front [] y i x l = absurd (omega arith)
  set-front (z ∷ t) y zero x l = refl
  set-front (z ∷ t) y (suc i) x l = ap (λ r. z ∷ r) (set-front t y i x (omega arith))

  store-front : (is : List ℕ) (xs t y : List A) → All (λ i. i < length t) is
      → store is xs (t ++ y) ≡ store is xs t ++ y
  unfolding store
  store-front [] xs t y h = refl
  store-front (i ∷ is) [] t y h = refl
  store-front (i ∷ is) (x ∷ xs) t y h =
      ap (store is xs) (set-front t y i x (All-head (λ j. j < length t) i is h))
      ∙ store-front is xs (set t i x) y
      (subst (λ k. All (λ j. j < k) is) (sym (length-set t i x))
      (All-tail (λ j. j < length t) i is h))

values-take : (k : ℕ) (ps : List FracPoly) (w : List Fraction)
    → values (take k ps) w ≡ take k (values ps w)
values-take zero ps w = refl
values-take (suc k) [] w = refl
values-take (suc k) (p ∷ ps) w = ap (λ l. value_at ℚ (terms_in p) w ∷ l) (values-take k ps w)

pub values_stand : (m : ℕ) (ps : List FracPoly) (qs : List (Terms Fraction)) (w : List Fraction)
    → AllStandFor m ps qs → values ps w ≡ map (λ q. value_at ℚ q w) qs
values_stand m [] [] w h = refl
values_stand m [] (q ∷ qs) w h = absurd h
values_stand m (p ∷ ps) [] w h = absurd h
values_stand m (p ∷ ps) (q ∷ qs) w h = ap₂ ◌∷◌
    (value_at_same ℚ_ring (terms_in p) q w h.0.same) (values_stand m ps qs w h.1)

values_each : (m : ℕ) (ps : List FracPoly) (w : List Fraction) (es : List E)
    → map (λ q. value_at ℚ q w) (map (value_of (lists ℚ m) (constant m) (terms_each ps)) es)
    ≡ map (val (values ps w)) es
values_each m ps w [] = refl
values_each m ps w (e ∷ es) = ap₂ ◌∷◌
    (to-value_of (lists ℚ m) ℚ (constant m) (λ c. c) (λ q. value_at ℚ q w)
    (value_at_carries m w) (terms_each ps) e) (values_each m ps w es)

values_after : (m : ℕ) (ps rs : List FracPoly) (c : Statement E) (w : List Fraction)
    → AllStandFor m rs (after_statement (lists ℚ m) (constant m) c (terms_each ps))
    → values rs w ≡ store c.targets (map (val (values ps w)) c.values) (values ps w)
unfolding after_statement
values_after m ps rs c w h =
    values_stand m rs _ w h
    ∙ map_store (λ q. value_at ℚ q w) c.targets _ (terms_each ps)
    ∙ ap (λ xs. store c.targets xs (values ps w)) (values_each m ps w c.values)

module _ (n : ℕ) (cs : List (Step E)) (ds : List E) (zs ps rs : List FracPoly) (m : ℕ)
    (c : Statement E) where
  pub follows_assign : Follows n cs ds zs ps → All (λ i. i < n) c.targets
      → m ≡ all_unknowns cs + length ds + n
      → AllStandFor m rs (after_statement (lists ℚ m) (constant m) c (terms_each ps))
      → Follows n (cs ++ assign ds c.targets c.values ∷ []) [] zs (take n rs)
  unfolding unknowns zeros_of after_step
  follows_assign h t e k =
      follows_step n cs (assign ds c.targets c.values) zs (take n rs) h.zeros_over
      (All-take (IsInVariables _) n rs
      (subst (λ j. All (IsInVariables j) rs) e (stands_over m rs _ k)))
      (λ x y s l j i. h.zeros x y s l j i)
      (λ x y s l j i.
      let st = after_all ℚ (λ c. c) cs x s in
      let long : length st ≡ n = length-after_all ℚ (λ c. c) cs x s ∙ i in
      let xs = map (val (st ++ y)) c.values in
      values-take n rs (x ++ y ++ s)
      ∙ ap (take n) (values_after m ps rs c (x ++ y ++ s) k
      ∙ ap (λ v. store c.targets (map (val v) c.values) v) (h.images x y s l j i)
      ∙ store-front c.targets xs st y
      (subst (λ j. All (λ i. i < j) c.targets) (sym long) t))
      ∙ (parted (store c.targets xs st) y n (length-store c.targets xs st ∙ long)).0)
