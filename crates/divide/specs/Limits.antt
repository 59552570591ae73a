-- How long a list may be that is divided by, or tidied.
--   list_limit      at most so many elements: the places of some more still fit the 32 bits of an event's place
use Rattle.std.specs.Prelude.{ℕ, ◌^◌}

abbrev pub list_limit : ℕ
list_limit = 2 ^ 31
