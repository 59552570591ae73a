-- One step more.
--   unknowns-push, after_all-push, all_zeros-push    behind others
--   inverse_zeros-push                               one divisor more
use Rattle.std.proofs.Common.{◌≡◌, ◌≤◌, ℕ, zero, suc, ◌+◌, List, [], ◌∷◌, ◌++◌, take, drop, length, arith, refl, sym, ap, ap₂, ◌∙◌, append_assoc}
use Rattle.std.proofs.lemmas.List.{append-nil, take_all}
use Rattle.algebra.specs.Arithmetic.{Arithmetic}
use Rattle.algebra.specs.Fraction.{Fraction}
use Rattle.algebra.proofs.Lists.{length-back}
use Rattle.loops.specs.Program.{Expr}
use Rattle.loops.specs.Effect.{value_of}
use Rattle.flows.specs.Steps.{Step}
use Rattle.flows.specs.Paths.{less, unknowns, all_unknowns, inverse_zeros, zeros_of, after_step, all_zeros, after_all}

take-within : {X : Type 0} (k : ℕ) (xs ys : List X) → k ≤ length xs → take k (xs ++ ys)
    ≡ take k xs
take-within zero xs ys h = refl
take-within (suc k) [] ys h = absurd (omega arith)
take-within (suc k) (x ∷ xs) ys h = ap (λ l. x ∷ l) (take-within k xs ys (omega arith))

drop-within : {X : Type 0} (k : ℕ) (xs ys : List X) → k ≤ length xs → drop k (xs ++ ys)
    ≡ drop k xs ++ ys
drop-within zero xs ys h = refl
drop-within (suc k) [] ys h = absurd (omega arith)
drop-within (suc k) (x ∷ xs) ys h = drop-within k xs ys (omega arith)

pub unknowns-push : {E : Type 0} (cs : List (Step E)) (g : Step E)
    → all_unknowns (cs ++ g ∷ []) ≡ all_unknowns cs + unknowns g
unfolding all_unknowns
unknowns-push [] g = let p : unknowns g + 0 ≡ 0 + unknowns g = omega arith in p
unknowns-push (c ∷ cs) g =
    let h = unknowns-push cs g in
    let p : unknowns c + all_unknowns (cs ++ g ∷ []) ≡ unknowns c + all_unknowns cs + unknowns g =
    omega (arith, h) in p

module _ {A At : Type 0} (N : Arithmetic A) (of : Fraction → A) where
  pub after_all-push : (cs : List (Step (Expr At))) (g : Step (Expr At)) (x y s : List A)
      → length x ≡ all_unknowns cs → length y ≡ unknowns g
      → after_all N of (cs ++ g ∷ []) (x ++ y) s ≡ after_step N of g y (after_all N of cs x s)
  unfolding after_all all_unknowns
  after_all-push [] g [] y s l k =
      ap (λ z. after_step N of g z s) (take_all (unknowns g) y (omega (arith, k)))
  after_all-push [] g (z ∷ x) y s l k = absurd (omega arith)
  after_all-push (c ∷ cs) g x y s l k =
      let u = unknowns c in
      let w : u ≤ length x = omega (arith, l) in
      ap₂ (λ a b. after_all N of (cs ++ g ∷ []) a (after_step N of c b s)) (drop-within u x y w)
      (take-within u x y w)
      ∙ after_all-push cs g (drop u x) y (after_step N of c (take u x) s)
      (length-back u (all_unknowns cs) x l) k

  pub all_zeros-push : (cs : List (Step (Expr At))) (g : Step (Expr At)) (x y s : List A)
      → length x ≡ all_unknowns cs → length y ≡ unknowns g
      → all_zeros N of (cs ++ g ∷ []) (x ++ y) s
      ≡ all_zeros N of cs x s ++ zeros_of N of g y (after_all N of cs x s)
  unfolding after_all all_zeros all_unknowns
  all_zeros-push [] g [] y s l k =
      append-nil (zeros_of N of g (take (unknowns g) y) s)
      ∙ ap (λ z. zeros_of N of g z s) (take_all (unknowns g) y (omega (arith, k)))
  all_zeros-push [] g (z ∷ x) y s l k = absurd (omega arith)
  all_zeros-push (c ∷ cs) g x y s l k =
      let u = unknowns c in
      let w : u ≤ length x = omega (arith, l) in
      ap₂ (λ a b. zeros_of N of c b s ++ all_zeros N of (cs ++ g ∷ []) a (after_step N of c b s))
      (drop-within u x y w) (take-within u x y w)
      ∙ ap (λ z. zeros_of N of c (take u x) s ++ z)
      (all_zeros-push cs g (drop u x) y (after_step N of c (take u x) s)
      (length-back u (all_unknowns cs) x l) k)
      ∙ sym (append_assoc (zeros_of N of c (take u x) s) _ _)

  pub inverse_zeros-push : (ds : List (Expr At)) (d : Expr At) (ys : List A) (y : A) (s : List A)
      → length ys ≡ length ds
      → inverse_zeros N of (ds ++ d ∷ []) (ys ++ y ∷ []) s
      ≡ inverse_zeros N of ds ys s
      ++ less N (N.mul y (value_of N of (s ++ ys) d)) N.one ∷ []
  unfolding inverse_zeros
  inverse_zeros-push [] d [] y s l =
      ap (λ t. less N (N.mul y (value_of N of t d)) N.one ∷ []) (sym (append-nil s))
  inverse_zeros-push [] d (z ∷ ys) y s l = absurd (omega arith)
  inverse_zeros-push (e ∷ ds) d [] y s l = absurd (omega arith)
  inverse_zeros-push (e ∷ ds) d (z ∷ ys) y s l =
      ap (λ t. less N (N.mul z (value_of N of s e)) N.one ∷ t)
      (inverse_zeros-push ds d ys y (s ++ z ∷ []) (omega arith)
      ∙ ap (λ t. inverse_zeros N of ds ys (s ++ z ∷ [])
      ++ less N (N.mul y (value_of N of t d)) N.one ∷ []) (append_assoc s (z ∷ []) ys))
