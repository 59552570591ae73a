-- The arguments of commands.
--   minus_sign           the sign with which an option begins
--   is_file argument         the argument is the name of a file: it isn't empty and doesn't begin with a minus sign
use Rattle.std.specs.Prelude.{ℕ, List, [], ◌∷◌, Bool, false, not, eqb}

abbrev pub minus_sign : ℕ
minus_sign = 45

abbrev pub is_file : List ℕ → Bool
is_file [] = false
is_file (first ∷ rest) = not (eqb first minus_sign)
