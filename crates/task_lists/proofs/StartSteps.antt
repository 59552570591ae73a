-- The start list, variable by variable, as the code makes it.
--   value_arity, inside, without       what is known of the value at the variable's place
--   set_step, unset_step               one variable more
--   starts_none, starts_all            none, and all
use Rattle.std.proofs.Common.{◌≡◌, ℕ, suc, ◌+◌, ◌<◌, true, false, eqb, List, [], ◌∷◌, ◌++◌, map, length, get_or, sym, ap, subst, ◌∙◌, arith}
use Rattle.std.specs.List.{list_any}
use Rattle.std.proofs.lemmas.List.{map-append}
use Rattle.algebra.specs.Fraction.{ℚ}
use Rattle.polynomials.specs.Order.{grevlex}
use Rattle.polynomials.specs.Polynomial.{IsPolynomial}
use Rattle.loops.specs.Map.{start_map}
use Rattle.loops.specs.Program.{Expr, Program, Equation}
use Rattle.loops.proofs.Maps.{length-start_map}
use Rattle.poly.specs.Seen.{terms_in, terms_each}
use Rattle.poly.specs.Standing.{StandsFor}
use Rattle.poly.proofs.Standing.{stands_length}
use Rattle.loop_model.specs.Parts.{equation_of}
use Rattle.loop_model.specs.View.{program_of}
use Rattle.loop_model.specs.declared.loop_.Loop.{Loop}
use Rattle.loop_model.specs.declared.statement.Init.{Init}
use Rattle.loop_model.proofs.Formed.{formed}
use Rattle.rounds.specs.Start.{in_order, start_list}
use Rattle.loop_model.specs.FracPoly.{FracPoly}
use Rattle.task_lists.specs.Starts.{StandForStart, AreStarts, value_less, IsWithout}
use Rattle.poly.proofs.Standing.{polynomial_over as graded_polynomial}
use Rattle.task_lists.proofs.LoopsStarts.{starts_to, zip_place, any_seen, start_set, start_unset, start_other}

pub starts_none : (program : Program (Expr ℕ)) {list : List FracPoly} → list ≡ []
    → terms_each list ≡ starts_to program 0
unfolding in_order
starts_none program e = ap terms_each e

pub starts_all : (program : Program (Expr ℕ)) (list : List FracPoly) {n : ℕ}
    → n ≡ length program.names → terms_each list ≡ starts_to program n → AreStarts program list
unfolding start_list
starts_all program list e h = h ∙ ap (starts_to program) e

module _ (lp : Loop) (values : List FracPoly) (stand : StandForStart (program_of lp) values) where
  abbrev program : Program (Expr ℕ)
  program = program_of lp

  abbrev m : ℕ
  m = length (program_of lp).names

  pub values_count : length values ≡ length (program_of lp).names
  values_count = stands_length m values (start_map program) stand ∙ length-start_map program

  module _ (i : ℕ) (l : i < length values) {value : FracPoly} (is : value ≡ get_or values i value)
    where
      stands : StandsFor m value (get_or (start_map program) i [])
      stands = subst (λ v. StandsFor m v (get_or (start_map program) i [])) (sym is)
          (zip_place (StandsFor m) values (start_map program) i value [] stand l)

      pub value_arity : value.arity ≡ length (program_of lp).names
      value_arity = stands.arity

      pub inside : i < value.arity
      inside = let a = values_count in let b = value_arity in omega (arith, a, b, l)

      polynomial : IsPolynomial ℚ grevlex m (terms_in value)
      polynomial = graded_polynomial m value value_arity

      module _ (start : List Init) (seen : map equation_of start ≡ (program_of lp).init) where
        any_in : list_any (λ x. eqb (equation_of x).name i) start ≡ list_any
            (λ (e : Equation (Expr ℕ)). eqb e.name i) program.init
        any_in = any_seen equation_of (λ (e : Equation (Expr ℕ)). eqb e.name i) start
            ∙ ap (list_any (λ (e : Equation (Expr ℕ)). eqb e.name i)) seen

        pub without : list_any (λ x. eqb (equation_of x).name i) start ≡ true
            → IsWithout i (terms_in value)
        without h = start_other program (formed lp) i (sym any_in ∙ h) polynomial
            stands.same

        pub set_step : list_any (λ x. eqb (equation_of x).name i) start ≡ true
            → (list : List FracPoly) {news : List FracPoly} (q : FracPoly) → news ≡ list ++ q ∷ []
            → terms_in q ≡ value_less value.arity i (terms_in value)
            → terms_each list ≡ starts_to (program_of lp) i
            → terms_each news ≡ starts_to (program_of lp) (i + 1)
        set_step h list q e t s =
            ap terms_each e ∙ map-append (λ (p : FracPoly). terms_in p) list (q ∷ []) ∙ start_set
            program (formed lp) i (sym any_in ∙ h) polynomial stands.same (terms_in q) s
            (t ∙ ap (λ n. value_less n i (terms_in value)) value_arity)
            ∙ ap (starts_to program) (let k : suc i ≡ i + 1 = omega arith in k)

        pub unset_step : list_any (λ x. eqb (equation_of x).name i) start ≡ false
            → (list : List FracPoly) → terms_each list ≡ starts_to (program_of lp) i
            → terms_each list ≡ starts_to (program_of lp) (i + 1)
        unset_step h list s = s ∙ sym (start_unset program (formed lp) i (sym any_in ∙ h))
            ∙ ap (starts_to program) (let k : suc i ≡ i + 1 = omega arith in k)
