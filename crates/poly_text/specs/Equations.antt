-- What a text says that is a sum, or an equation of two sums.
--   sum_or_fault r                   the sum that was read last, or the first fault
--   sum_of names ts          the sum that the tokens are up to the end, or their first fault
--   equation_of names ts     the same of an equation; it is its left side minus its right side, by an operator at the offset of the =
--   tells view r             what the answer r of a reader says, by the view of it: what it read, or the fault; nothing where memory failed
--   free_state m             the variables, each with itself as its value
--   Answers m sum_or_fault r         r is the polynomial that is said, and no operation that forms it passes a limit; or the text's first fault; or the operation that stops; want of memory says nothing
use Rattle.std.specs.Prelude.{◌≡◌, ◌≢◌, ⊤, ℕ, List, [], ◌∷◌, Option, Some, Result, Ok, Err, option_map, IsSomeAnd, IsOkAnd}
use Rattle.algebra.specs.Fraction.{Fraction, ℚ}
use Rattle.polynomials.specs.Terms.{Terms, variables}
use Rattle.loops.specs.Program.{Expr}
use Rattle.grammars.specs.Reader.{read_whole}
use Rattle.poly_text.specs.Lexemes.{Placed}
use Rattle.poly_text.specs.Reasons.{Fault, syntax}
use Rattle.poly_text.specs.Sums.{SumContext, SumValue, sum_language, whole_sum, whole_equation, start}
use Rattle.poly_text.specs.Faults.{fault_of}
use Rattle.poly_text.specs.Told.{Told, told}
use Rattle.poly.specs.Standing.{StandsFor}
use Rattle.loop_model.specs.FracPoly.{FracPoly}
use Rattle.loop_model.specs.Operations.{value, operations, IsFree}
use Rattle.loop_model.specs.Stops.{Stops}
use Rattle.loop_model.specs.declared.map_error.MapError.{MapError}
use Rattle.loop_model.specs.declared.map_error.MapError.TheVariants as map_error
use Rattle.poly_text.specs.declared.error.TextError.{TextError}
use Rattle.poly_text.specs.declared.error.TextError.TheVariants as text_error
use Rattle.poly_text.specs.declared.equation.PolyTextError.{PolyTextError}
use Rattle.poly_text.specs.declared.equation.PolyTextError.TheVariants as refusal

abbrev pub last_value : List (Expr ℕ) → Result (Expr ℕ) Fault
last_value [] = Err (record { reason = syntax; at = 0 })
last_value (e ∷ es) = Ok e

abbrev pub sum_or_fault : Told SumContext SumValue → Result (Expr ℕ) Fault
sum_or_fault (Ok r) = last_value r.0.value.values
sum_or_fault (Err f) = Err f

unfoldable pub sum_of : List (List ℕ) → List Placed → Result (Expr ℕ) Fault
sum_of names ts = sum_or_fault (told (read_whole sum_language whole_sum (start names []) ts))

unfoldable pub equation_of : List (List ℕ) → List Placed → Result (Expr ℕ) Fault
equation_of names ts =
    sum_or_fault (told (read_whole sum_language whole_equation (start names []) ts))

abbrev pub free_state : ℕ → List (Terms Fraction)
free_state m = variables ℚ m

abbrev pub tells : {A B : Type 0} → (A → B) → Result A TextError → Option (Result B Fault)
tells view (Ok x) = Some (Ok (view x))
tells view (Err e) = option_map Err (fault_of e)

abbrev pub text_refusal : TextError → PolyTextError
text_refusal text_error.Memory = refusal.Memory
text_refusal e = refusal.Text e

abbrev pub map_refusal : MapError → PolyTextError
map_refusal map_error.Memory = refusal.Memory
map_refusal e = refusal.Map e

abbrev pub Answers : ℕ → Result (Expr ℕ) Fault → Result FracPoly PolyTextError → Type 0
Answers m sum_or_fault (Ok p) =
    IsOkAnd sum_or_fault
    (λ e. StandsFor m p (value m (free_state m) e) × IsFree m (operations m (free_state m) e))
Answers m sum_or_fault (Err (refusal.Text e)) = IsSomeAnd (fault_of e) (λ f. sum_or_fault ≡ Err f)
Answers m sum_or_fault (Err (refusal.Map e)) =
    IsOkAnd sum_or_fault (λ x. Stops m (operations m (free_state m) x) e) × (e ≢ map_error.Memory)
Answers m sum_or_fault (Err refusal.Memory) = ⊤
