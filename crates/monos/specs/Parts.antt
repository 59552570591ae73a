-- The parts of a short monomial: its head, which is its degree and its arity in one number, and the two halves of its word.
--   arity_room         how many arities a head has room for, more than there are: a head is so many times the degree, and the arity
--   arity_of h         the number of variables
--   degree_of h        the degree
--   whole_word l h     the word whose lower half is l and whose upper half is h
use Rattle.std.specs.Prelude.{ℕ, ◌+◌, ◌*◌, ◌/◌, ◌%◌, ◌^◌}
use Rattle.monos.specs.Lanes.{half_bits}

abbrev pub arity_room : ℕ
arity_room = 32

abbrev pub arity_of : ℕ → ℕ
arity_of head = head % arity_room

abbrev pub degree_of : ℕ → ℕ
degree_of head = head / arity_room

abbrev pub whole_word : ℕ → ℕ → ℕ
whole_word low high = high * 2 ^ half_bits + low
