-- The second loop of Examples is well formed, and so one is none of its invariants.
--   assigned     a statement that sets one variable is well formed where it, and all that are used, are variables of the program
use Rattle.std.proofs.Common.{◌≢◌, ℕ, zero, suc, ◌<◌, pos, [], ◌∷◌, get_or, length, arith, refl}
use Rattle.std.specs.Prelude.{⊤}
use Rattle.std.specs.List.{All}
use Rattle.std.proofs.lemmas.List.Elements.{All-nil, All-cons}
use Rattle.loops.specs.Program.{Expr, number, variable, add, sub, mul, divide, Equation}
use Rattle.loops.specs.Inv.{Inv}
use Rattle.polynomials.specs.Terms.{constant}
use Rattle.algebra.specs.Fraction.{ℚ}
use Rattle.loops.specs.WellFormed.{Uses, AreDistinct, IsStatement, IsWellFormed}
use Rattle.loops.proofs.Examples.{product, assign}
use Rattle.loops.proofs.Invariants.{one_no_invariant}
use Rattle.loops.proofs.Locals.{sets_no_locals}

pub assigned : (m i : ℕ) (e : Expr ⊤) → i < m → Uses (λ i. i < m) e → IsStatement m (assign i e)
unfolding AreDistinct
assigned m i e l u = record {
  some_target = omega arith;
  sizes = refl;
  targets = All-cons (λ i. i < m) i [] l (All-nil _);
  distinct = (All-nil _, tt);
  values = All-cons (Uses (λ i. i < m)) e [] u (All-nil _);
}

unset : (i : ℕ) → i < 2 → All (λ (f : Equation (Expr ⊤)). i ≢ f.name) product.init
unset i l zero d k = λ e. omega arith
unset i l (suc zero) d k = λ e. omega arith
unset i l (suc (suc zero)) d k = λ e. omega arith
unset i l (suc (suc (suc j))) d k = absurd (omega arith)

free_of : All (λ (e : Equation (Expr ⊤)). Uses (λ i. (i < length product.names)
    × All (λ (f : Equation (Expr ⊤)). i ≢ f.name) product.init) e.value) product.init
unfolding Uses
free_of zero d k = (omega arith, unset 0 (omega arith))
free_of (suc zero) d k = (omega arith, unset 1 (omega arith))
free_of (suc (suc zero)) d k = tt
free_of (suc (suc (suc j))) d k = absurd (omega arith)

set_of : All (λ (e : Equation (Expr ⊤)). e.name < 5) product.init
set_of zero d k = omega arith
set_of (suc zero) d k = omega arith
set_of (suc (suc zero)) d k = omega arith
set_of (suc (suc (suc j))) d k = absurd (omega arith)

statements_of : All (All (IsStatement 5)) product.branches
unfolding Uses
statements_of zero bd bk zero d k = assigned 5 2 (divide tt (variable 2) (pos 2)) (omega arith)
    (omega arith, λ e. cc)
statements_of zero bd bk (suc zero) d k = assigned 5 3 (mul tt (number (pos 2)) (variable 3))
    (omega arith) (tt, omega arith)
statements_of zero bd bk (suc (suc j)) d k = absurd (omega arith)
statements_of (suc zero) bd bk zero d k = assigned 5 2 (sub tt (variable 2) (number (pos 1)))
    (omega arith) (omega arith, tt)
statements_of (suc zero) bd bk (suc zero) d k = assigned 5 4 (add tt (variable 4) (variable 3))
    (omega arith) (omega arith, omega arith)
statements_of (suc zero) bd bk (suc (suc j)) d k = absurd (omega arith)
statements_of (suc (suc b)) bd bk j d k = absurd (omega arith)

product_formed : IsWellFormed product
unfolding Uses AreDistinct
product_formed = record {
  set_once = (
    All-cons (λ y. y ≢ 2) 3 (4 ∷ []) (λ e. omega arith) (All-cons (λ y. y ≢ 2) 4 []
        (λ e. omega arith) (All-nil (λ y. y ≢ 2))),
    (
      All-cons (λ y. y ≢ 3) 4 [] (λ e. omega arith) (All-nil (λ y. y ≢ 3)),
      (All-nil (λ y. y ≢ 4), tt),
    ),
  );
  set = set_of;
  free = free_of;
  some_branch = omega arith;
  statements = statements_of;
  set_first = λ k d l. sets_no_locals 5 5 (get_or product.branches k d) (statements_of k d l);
}

pub product_without_one : Inv product (constant 5 ℚ.one) → ⊥
product_without_one = one_no_invariant product product_formed
