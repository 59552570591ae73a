-- Paths of the code, step by step.
--   arity_is             the arity of the images
--   divided              one divisor more
use Rattle.std.proofs.Common.{◌≡◌, ◌≤◌, ◌<◌, ℕ, zero, suc, ◌+◌, List, [], ◌∷◌, ◌++◌, length, get_or, set, take, arith, refl, sym, ap, subst, ◌∙◌, All}
use Rattle.std.specs.List.{AllZip}
use Rattle.std.proofs.lemmas.List.{length-append, length-take-le, length-map}
use Rattle.std.proofs.lemmas.List.Elements.{All-take}
use Rattle.algebra.specs.Fraction.{Fraction, ℚ}
use Rattle.polynomials.specs.Terms.{value_at, lists, constant}
use Rattle.loops.specs.Program.{Expr, Statement}
use Rattle.loops.specs.Effect.{after_statement}
use Rattle.loops.proofs.Effects as effects
use Rattle.flows.specs.Steps.{Step, assign, choose, equal, differ}
use Rattle.flows.specs.Paths.{less, unknowns, all_unknowns}
use Rattle.poly.specs.Seen.{terms_in, terms_each, arity_of}
use Rattle.poly.specs.Standing.{IsInVariables, StandsFor, AllStandFor}
use Rattle.poly.proofs.Standing.{first_arity, stands_length, stands_over}
use Rattle.loop_model.specs.FracPoly.{FracPoly}
use Rattle.loop_model.specs.Operations as operations
use Rattle.program_model.specs.Widening.{IsWidened}
use Rattle.program_model.specs.Follows.{Follows}
use Rattle.program_model.specs.UnderWay.{HasRoom, IsUnderWay}
use Rattle.program_model.proofs.Values.{IsUnknown, IsInverseZero, IsSide}
use Rattle.program_model.specs.declared.path.Path.{Path}
use Rattle.program_model.proofs.Wider.{widened_over, widened_length}
use Rattle.program_model.proofs.Following.{value_here, follows_divisor, follows_choose, follows_differ, follows_equal, follows_assign}
use Rattle.program_model.proofs.StepLaws.{unknowns-push}

get-behind : {A : Type 0} (x y : List A) (v : A) (s : List A) (i : ℕ) (d : A)
    → i ≡ length (x ++ y) → get_or (x ++ (y ++ v ∷ []) ++ s) i d ≡ v
get-behind [] [] v s i d e = ap (λ j. get_or (v ∷ s) j d) e
get-behind [] (z ∷ y) v s zero d e = absurd (omega arith)
get-behind [] (z ∷ y) v s (suc i) d e = get-behind [] y v s i d (omega arith)
get-behind (z ∷ x) y v s zero d e = absurd (omega arith)
get-behind (z ∷ x) y v s (suc i) d e = get-behind x y v s i d (omega arith)

-- ---- the path with one unknown more
pub record IsWider (p q : Path) : Type 0 where
  pub variables : q.variables ≡ p.variables
  pub from : q.from ≡ p.from
  pub unknowns : q.unknowns ≡ suc p.unknowns
  pub zeros : AllZip (IsWidened p.unknowns) p.zeros.items q.zeros.items
  pub images : AllZip (IsWidened p.unknowns) p.images.items q.images.items

pub wider : (p q : Path) → q.variables ≡ p.variables → q.from ≡ p.from
    → q.unknowns ≡ suc p.unknowns → AllZip (IsWidened p.unknowns) p.zeros.items q.zeros.items
    → AllZip (IsWidened p.unknowns) p.images.items q.images.items → IsWider p q
wider p q v f u z i = record { variables = v; from = f; unknowns = u; zeros = z; images = i }

pub room_arity : (p : Path) → HasRoom p → arity_of p.images.items ≡ p.unknowns + p.variables
room_arity p r =
    let s = r.some in
    let c = r.count in
    first_arity _ p.images.items r.images (omega (arith, s, c))

pub room_state : (p : Path) → HasRoom p → All (IsInVariables (arity_of p.images.items))
    p.images.items
room_state p r = subst (λ m. All (IsInVariables m) p.images.items) (sym (room_arity p r)) r.images

module _ (p q : Path) (r : HasRoom p) (w : IsWider p q) where
  same_size : suc (p.unknowns + p.variables) ≡ q.unknowns + q.variables
  same_size = let u = w.unknowns in let v = w.variables in omega (arith, u, v)

  pub wide_length : length q.images.items ≡ length p.images.items
  wide_length = widened_length p.unknowns p.images.items q.images.items w.images

  pub wide_over : All (IsInVariables (q.unknowns + q.variables)) q.images.items
  wide_over = subst (λ m. All (IsInVariables m) q.images.items) same_size
      (widened_over p.unknowns _ p.images.items q.images.items w.images r.images)

  pub wide_zeros_over : All (IsInVariables (q.unknowns + q.variables)) q.zeros.items
  wide_zeros_over = subst (λ m. All (IsInVariables m) q.zeros.items) same_size
      (widened_over p.unknowns _ p.zeros.items q.zeros.items w.zeros r.zeros)

  pub wide_arity : arity_of q.images.items ≡ q.unknowns + q.variables
  wide_arity =
      let l = wide_length in
      let s = r.some in
      let c = r.count in
      first_arity _ q.images.items wide_over (omega (arith, l, s, c))

  pub wide_state : All (IsInVariables (arity_of q.images.items)) q.images.items
  wide_state = subst (λ m. All (IsInVariables m) q.images.items) (sym wide_arity) wide_over

  -- ---- one divisor more
  module _ (n u : ℕ) (cs : List (Step (Expr ℕ))) (ds : List (Expr ℕ)) (h : IsUnderWay n u cs ds p)
      (d : Expr ℕ) (value inverse z : FracPoly)
      (is : StandsFor (arity_of q.images.items) value
      (operations.value (arity_of q.images.items) (terms_each q.images.items) d))
      (new : IsUnknown (q.unknowns + q.variables) p.unknowns inverse)
      (zero_is : IsInverseZero inverse value z) where
    size : q.unknowns + q.variables ≡ suc (all_unknowns cs + length ds + n)
    size = let u = w.unknowns in let v = w.variables in let k = h.unknowns in
        let m = h.variables in omega (arith, u, v, k, m)

    pub divided : Follows n cs (ds ++ d ∷ []) (q.zeros.items ++ z ∷ [])
        (q.images.items ++ inverse ∷ [])
    divided = follows_divisor n cs ds p.zeros.items p.images.items q.zeros.items q.images.items
        h.follows p.unknowns h.unknowns w.zeros w.images d inverse z (new.arity ∙ size)
        (zero_is.arity ∙ new.arity ∙ size)
        (λ x y s v lx ly ls.
        let l1 = length-append x (y ++ v ∷ []) in
        let l2 = length-append y (v ∷ []) in
        let l3 = length-append (x ++ (y ++ v ∷ [])) s in
        let l4 = length-append x y in
        let k = h.unknowns in
        let e = size in
        new.value (x ++ (y ++ v ∷ []) ++ s) (omega (arith, l1, l2, l3, lx, ly, ls, e))
        ∙ get-behind x y v s p.unknowns ℚ.zero (omega (arith, l4, lx, ly, k)))
        (λ t. zero_is.value t
        ∙ ap (λ v. less ℚ (ℚ.mul (value_at ℚ (terms_in inverse) t) v) ℚ.one)
        (value_here _ q.images.items value d is t))

  -- ---- a choice, and sides that differ
  module _ (n u : ℕ) (cs : List (Step (Expr ℕ))) (h : IsUnderWay n u cs [] p)
      (inverse : FracPoly) (new : IsUnknown (q.unknowns + q.variables) p.unknowns inverse) where
    size_here : q.unknowns + q.variables ≡ suc (all_unknowns cs + 0 + n)
    size_here = let u = w.unknowns in let v = w.variables in let k = h.unknowns in
        let m = h.variables in omega (arith, u, v, k, m)

    new_value : (x y s : List Fraction) → length x ≡ all_unknowns cs → length y ≡ 1
        → length s ≡ n → value_at ℚ (terms_in inverse) (x ++ y ++ s) ≡ get_or y 0 ℚ.zero
    new_value x [] s l k i = absurd (omega arith)
    new_value x (v ∷ []) s l k i =
        let l2 = length-append x (v ∷ []) in
        let l3 = length-append (x ++ v ∷ []) s in
        let l4 = length-append x [] in
        let j = h.unknowns in
        let e = size_here in
        new.value (x ++ v ∷ [] ++ s) (omega (arith, l2, l3, l, i, e))
        ∙ get-behind x [] v s p.unknowns ℚ.zero (omega (arith, l4, l, j))
    new_value x (v ∷ t ∷ y) s l k i = absurd (omega arith)

    pub chosen : (j : ℕ) → Follows n (cs ++ choose j ∷ []) [] q.zeros.items
        (set q.images.items j inverse)
    chosen j = follows_choose n cs p.zeros.items p.images.items q.zeros.items q.images.items
        h.follows p.unknowns h.unknowns w.zeros w.images j inverse (new.arity ∙ size_here)
        new_value

    pub differs : (e f : Expr ℕ) (side z : FracPoly) → IsSide q.images.items e f side
        → IsInverseZero inverse side z
        → Follows n (cs ++ differ e f ∷ []) [] (q.zeros.items ++ z ∷ []) q.images.items
    differs e f side z is zero_is =
        follows_differ n cs p.zeros.items p.images.items q.zeros.items q.images.items
        h.follows p.unknowns h.unknowns w.zeros w.images e f inverse z
        (zero_is.arity ∙ new.arity ∙ size_here) new_value
        (λ t. zero_is.value t
        ∙ ap (λ v. less ℚ (ℚ.mul (value_at ℚ (terms_in inverse) t) v) ℚ.one) (is.value t))

-- how many variables the polynomials have, behind steps and divisors
pub divided_arity : (p : Path) → HasRoom p → (n u : ℕ) (cs : List (Step (Expr ℕ)))
    (ds : List (Expr ℕ)) → IsUnderWay n u cs ds p
    → arity_of p.images.items ≡ all_unknowns cs + length ds + n
divided_arity p r n u cs ds h =
    let a = room_arity p r in
    let k = h.unknowns in
    let v = h.variables in
    omega (arith, a, k, v)

pub equals_here : (p : Path) → HasRoom p → (n u : ℕ) (cs : List (Step (Expr ℕ)))
    → IsUnderWay n u cs [] p → (e f : Expr ℕ) (z : FracPoly) → IsSide p.images.items e f z
    → Follows n (cs ++ equal e f ∷ []) [] (p.zeros.items ++ z ∷ []) p.images.items
equals_here p r n u cs h e f z is =
    let k = h.unknowns in
    let v = h.variables in
    let a = room_arity p r in
    follows_equal n cs p.zeros.items p.images.items [] [] h.follows e f z
    (is.arity ∙ a ∙ (omega (arith, k, v))) is.value

pub unknowns_more : (cs : List (Step (Expr ℕ))) (g : Step (Expr ℕ)) (a k : ℕ)
    → a ≡ all_unknowns cs + k → k ≡ unknowns g → a ≡ all_unknowns (cs ++ g ∷ []) + 0
unknowns_more cs g a k e f = let p = unknowns-push cs g in omega (arith, e, f, p)

pub equal_unknowns : (cs : List (Step (Expr ℕ))) (e f : Expr ℕ) (a : ℕ)
    → a ≡ all_unknowns cs + 0 → a ≡ all_unknowns (cs ++ equal e f ∷ []) + 0
unfolding unknowns
equal_unknowns cs e f a k = unknowns_more cs (equal e f) a 0 k refl

pub differ_unknowns : (cs : List (Step (Expr ℕ))) (e f : Expr ℕ) (a : ℕ)
    → a ≡ all_unknowns cs + 0 → suc a ≡ all_unknowns (cs ++ differ e f ∷ []) + 0
unfolding unknowns
differ_unknowns cs e f a k = unknowns_more cs (differ e f) (suc a) 1 (omega (arith, k)) refl

pub choose_unknowns : (cs : List (Step (Expr ℕ))) (i : ℕ) (a : ℕ)
    → a ≡ all_unknowns cs + 0 → suc a ≡ all_unknowns (cs ++ choose i ∷ []) + 0
unfolding unknowns
choose_unknowns cs i a k = unknowns_more cs (choose i) (suc a) 1 (omega (arith, k)) refl

pub assign_unknowns : (cs : List (Step (Expr ℕ))) (ds es : List (Expr ℕ)) (is : List ℕ) (a : ℕ)
    → a ≡ all_unknowns cs + length ds
    → a ≡ all_unknowns (cs ++ assign ds is es ∷ []) + 0
unfolding unknowns
assign_unknowns cs ds es is a k = unknowns_more cs (assign ds is es) a (length ds) k refl

-- ---- values that are stored
pub stored_length : (m k : ℕ) (ps rs : List FracPoly) (c : Statement (Expr ℕ))
    → AllStandFor m rs (after_statement (lists ℚ m) (constant m) c (terms_each ps))
    → k ≤ length ps → length (take k rs) ≡ k
stored_length m k ps rs c h l =
    let e = stands_length m rs _ h ∙ effects.length-statement (lists ℚ m) (constant m) c
    (terms_each ps)
    ∙ length-map ps terms_in in
    length-take-le k rs (omega (arith, l, e))

pub stored_over : (m j k : ℕ) (ps rs : List FracPoly) (c : Statement (Expr ℕ))
    → AllStandFor m rs (after_statement (lists ℚ m) (constant m) c (terms_each ps))
    → m ≡ j → All (IsInVariables j) (take k rs)
stored_over m j k ps rs c h e = All-take (IsInVariables j) k rs
    (subst (λ i. All (IsInVariables i) rs) e (stands_over m rs _ h))

pub stored : (p : Path) → HasRoom p → (n u : ℕ) (cs : List (Step (Expr ℕ)))
    (ds : List (Expr ℕ)) → IsUnderWay n u cs ds p → (rs : List FracPoly) (c : Statement (Expr ℕ))
    → All (λ i. i < p.variables) c.targets
    → AllStandFor (arity_of p.images.items) rs (after_statement
    (lists ℚ (arity_of p.images.items)) (constant (arity_of p.images.items)) c
    (terms_each p.images.items))
    → Follows n (cs ++ assign ds c.targets c.values ∷ []) [] p.zeros.items
    (take p.variables rs)
stored p r n u cs ds h rs c t k =
    let a = room_arity p r in
    let j = h.unknowns in
    let v = h.variables in
    subst (λ i. Follows n (cs ++ assign ds c.targets c.values ∷ []) [] p.zeros.items (take i rs))
    (sym h.variables)
    (follows_assign n cs ds p.zeros.items p.images.items rs (arity_of p.images.items) c h.follows
    (subst (λ k. All (λ i. i < k) c.targets) h.variables t) (omega (arith, a, j, v)) k)
