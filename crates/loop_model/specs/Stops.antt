-- What the answer of a function that forms a polynomial says of the operations.
--   Stops m os e        e is a limit or a number too wide at the first such operation; want of memory says nothing
--   Forms m os q r      r is a polynomial that stands for q, and no operation passes a limit; or r stops at one
--   Does m o r          the same of one operation and its result
--   IsValueAt ps e p, IsFreeAt ps e, StopsAt ps e x     p stands for the value of the expression e, where the variables have the values ps;
--                       no operation that forms it passes a limit; x is such a stop;  IsFormed ps e r says so of a result
--   answer_at at r      the answer of the operator at this offset, whose operation was done: Wide, and then the number of terms
use Rattle.std.specs.Prelude.{ℕ, List, [], ◌∷◌, nat_le, length, if◌then◌else◌, Result, Ok, Err}
use Rattle.algebra.specs.Fraction.{Fraction}
use Rattle.polynomials.specs.Terms.{Terms}
use Rattle.poly.specs.Seen.{terms_in, terms_each, arity_of}
use Rattle.poly.specs.Standing.{StandsFor}
use Rattle.ring_laws.specs.declared.ArithmeticError.{ArithmeticError}
use Rattle.ring_laws.specs.declared.ArithmeticError.TheVariants as arithmetic_error
use Rattle.loop_model.specs.FracPoly.{FracPoly}
use Rattle.loops.specs.Program.{Expr}
use Rattle.loop_model.specs.Operations.{Operation, value, operations, IsFree, IsLimit, IsWide, most_terms}
use Rattle.loop_model.specs.declared.map_error.MapError.{MapError}
use Rattle.loop_model.specs.declared.map_error.MapError.TheVariants.{Limit, Wide, Memory}

abbrev pub Stops : ℕ → List Operation → MapError → Type 0
Stops m os (Limit at) = IsLimit m os at
Stops m os (Wide at) = IsWide m os at
Stops m os Memory = Unit {0}

abbrev pub Forms : ℕ → List Operation → Terms Fraction → Result FracPoly MapError → Type 0
Forms m os q (Ok p) = StandsFor m p q × IsFree m os
Forms m os q (Err e) = Stops m os e

abbrev pub Does : ℕ → Operation → Result FracPoly MapError → Type 0
Does m o r = Forms m (o ∷ []) o.result r

abbrev pub IsValueAt : List FracPoly → Expr ℕ → FracPoly → Type 0
IsValueAt ps e p = StandsFor (arity_of ps) p (value (arity_of ps) (terms_each ps) e)

abbrev pub IsFreeAt : List FracPoly → Expr ℕ → Type 0
IsFreeAt ps e = IsFree (arity_of ps) (operations (arity_of ps) (terms_each ps) e)

abbrev pub IsFormed : List FracPoly → Expr ℕ → Result FracPoly MapError → Type 0
IsFormed ps e r =
    let m = arity_of ps in let s = terms_each ps in Forms m (operations m s e) (value m s e) r

abbrev pub StopsAt : List FracPoly → Expr ℕ → MapError → Type 0
StopsAt ps e x = Stops (arity_of ps) (operations (arity_of ps) (terms_each ps) e) x

abbrev pub answer_at : ℕ → Result FracPoly ArithmeticError → Result FracPoly MapError
answer_at at (Ok p) = if nat_le (length (terms_in p)) most_terms then Ok p else Err (Limit at)
answer_at at (Err arithmetic_error.Wide) = Err (Wide at)
answer_at at (Err arithmetic_error.Memory) = Err Memory
