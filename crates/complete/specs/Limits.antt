-- How many polynomials a completion begins with, and how many places an event can name.
--   generators_limit    how many generators there may be
--   place_limit         places and degrees lie below it: they have 32 bits
use Rattle.std.specs.Prelude.{ℕ, ◌^◌}

abbrev pub generators_limit : ℕ
generators_limit = 2 ^ 30

abbrev pub place_limit : ℕ
place_limit = 2 ^ 32
