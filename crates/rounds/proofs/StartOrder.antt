-- The equations of init, in the order of the variables that they set (specs/Start).
--   none_in_order     where there are none
--   sets              an equation sets this variable
--   passed            the first of some equations is taken exactly where it sets the variable
--   outside           an equation behind the first n variables is none of theirs
use Rattle.std.proofs.Common.{◌≡◌, ◌≤◌, ◌+◌, ℕ, zero, suc, Bool, true, false, cond, eqb, List, [], ◌∷◌, ◌++◌, filter, length, refl, ap, ap₂, ◌∙◌, arith}
use Rattle.std.proofs.lemmas.Bool.{eqb-true}
use Rattle.std.proofs.lemmas.List.{length-append}
use Rattle.loops.specs.Program.{Equation}
use Rattle.rounds.specs.Start.{in_order}

pub none_in_order : (E : Type 0) (n : ℕ) → length (in_order {E = E} n []) ≡ 0
unfolding in_order
none_in_order E zero = refl
none_in_order E (suc n) = length-append (in_order {E = E} n []) []
    ∙ (let e = none_in_order E n in omega (arith, e))

module _ {E : Type 0} where
  abbrev pub sets : ℕ → Equation E → Bool
  sets n e = eqb e.name n

  pub passed : (b : Bool) (n : ℕ) (e : Equation E) (es : List (Equation E)) → eqb e.name n ≡ b
      → filter (sets n) (e ∷ es) ≡ cond b (e ∷ filter (sets n) es) (filter (sets n) es)
  passed b n e es is = ap (λ a. cond a (e ∷ filter (sets n) es) (filter (sets n) es)) is

  -- an equation behind the first n variables, and one of them
  pub outside : (n : ℕ) (e : Equation E) (es : List (Equation E)) → n ≤ e.name
      → in_order n (e ∷ es) ≡ in_order n es
  unfolding in_order
  outside zero e es l = refl
  outside (suc n) e es l = go (eqb e.name n) refl (outside n e es (omega (arith, l)))
    where
      go : (b : Bool) → eqb e.name n ≡ b → in_order n (e ∷ es) ≡ in_order n es
          → in_order n (e ∷ es) ++ filter (sets n) (e ∷ es) ≡ in_order n es ++ filter (sets n) es
      go true is same_before =
          let same = eqb-true e.name n is in absurd (omega (arith, l, same))
      go false is same_before = ap₂ (λ xs ys. xs ++ ys) same_before (passed false n e es is)
