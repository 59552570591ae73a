-- Tests by computation that nothing of the elimination of code is past.
--   making_fits program code gs     neither a composition nor a difference that makes its list is past
--   never_leads_past                where that holds, no state of it is past either
use Rattle.std.proofs.Common.{◌≡◌, inl, inr, ◌+◌, ℕ, Bool, true, List, ◌∷◌, length}
use Rattle.std.specs.Prelude.{◌&&◌}
use Rattle.algebra.specs.Fraction.{Fraction, rationals}
use Rattle.polynomials.specs.Order.{grevlex}
use Rattle.polynomials.specs.Terms.{Terms}
use Rattle.machines.specs.Collect.{collect}
use Rattle.machines.specs.Elimination.{free_part}
use Rattle.machines.specs.Journal.{Entry}
use Rattle.loops.specs.Program.{Expr, Program, Statement}
use Rattle.corollaries.specs.Between.{code_order, starting, value_at_code, IsPastDifference, IsPastMaking, between, IsPastLeading}
use Rattle.corollaries.specs.CodeBetween.{variable_of, assigned_variables, copies, was, of_what_was}
use Rattle.analysis_commands.proofs.Fitting.{first_holds, second_holds, each_fits, any_fits, both_hold, size_holds, sum_fits, composition_fits, compositions_hold, start_fits, start_holds, elimination_fits, elimination_holds, all_fit, each_fits_on}

module _ (program : Program (Expr ℕ)) (a : Statement (Expr ℕ)) (more : List (Statement (Expr ℕ)))
    (gs : List (Terms Fraction)) where
  abbrev code : List (Statement (Expr ℕ))
  code = a ∷ more

  abbrev m : ℕ
  m = length program.names

  abbrev pub difference_fits : ℕ → Bool
  difference_fits y =
      composition_fits (was (length program.names) (a ∷ more))
      (value_at_code program (a ∷ more) y)
      && sum_fits (variable_of (copies (length program.names) (a ∷ more) + length program.names)
      (copies (length program.names) (a ∷ more) + y))
      (collect rationals grevlex (of_what_was program (a ∷ more)
      (value_at_code program (a ∷ more) y)))

  difference_holds : (y : ℕ) → difference_fits y ≡ true → IsPastDifference program code y → ⊥
  difference_holds y e (inl p) = both_hold _ _ (first_holds _ _ e) p
  difference_holds y e (inr p) = size_holds _ (second_holds _ _ e) p

  abbrev pub making_fits : Bool
  making_fits =
      each_fits (composition_fits (was (length program.names) (a ∷ more))) gs
      && each_fits difference_fits (assigned_variables (length program.names) (a ∷ more))

  making_holds : making_fits ≡ true → IsPastMaking program code gs → ⊥
  making_holds e (inl p) = compositions_hold (was m code) gs (first_holds _ _ e) p
  making_holds e (inr p) =
      any_fits difference_fits (IsPastDifference program code) difference_holds
      (assigned_variables m code) (second_holds _ _ e) p

  pub never_leads_past : (n : ℕ) → making_fits ≡ true
      → start_fits (starting program (a ∷ more) gs) ≡ true
      → all_fit (between program (a ∷ more) gs).next
      (elimination_fits (code_order (length program.names) (a ∷ more))
      (free_part (copies (length program.names) (a ∷ more)))) n
      (between program (a ∷ more) gs).start ≡ true
      → (es : List Entry) → IsPastLeading program (a ∷ more) gs es → ⊥
  never_leads_past n made begun fit es (inl p) =
      elimination_holds (code_order m code) (free_part (copies m code)) p.at
      (each_fits_on (between program code gs).next
      (elimination_fits (code_order m code) (free_part (copies m code))) n
      (between program code gs).start fit p.work.events p.at p.work.run) p.past
  never_leads_past n made begun fit es (inr (none, inl p)) = making_holds made p
  never_leads_past n made begun fit es (inr (none, inr p)) =
      start_holds (starting program code gs) begun p
