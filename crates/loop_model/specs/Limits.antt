-- How many names a loop has at most, as numerals that are seen through; loops/specs/Limits has the limits of its text.
--   names_limit        of variables, and of local names
--   all_names_limit    of both together
use Rattle.std.specs.Prelude.{ℕ}

abbrev pub names_limit : ℕ
names_limit = 12

abbrev pub all_names_limit : ℕ
all_names_limit = 24
