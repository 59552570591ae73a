-- What may come first in a grammar.
--   may_be_empty g       it may have no token
--   first g              the kinds that may begin it
--   first_then g ks      the kinds that may come where g is due and a kind of ks behind it; first_of gs ks: the same of a list
use Rattle.std.specs.Prelude.{Bool, true, false, ◌&&◌, ◌||◌, List, [], ◌∷◌, ◌++◌}
use Rattle.grammars.specs.Kinds.{with_if}
use Rattle.grammars.specs.Grammar.{Grammar, token, change, sequence, either, many, rule, Language}

module _ {N K Y C V R : Type 0} (L : Language N K Y C V R) where
  abbrev pub may_be_empty : Grammar N K Y C V R → Bool
  may_be_empty (token ks fault next build) = false
  may_be_empty (change next build) = true
  may_be_empty (sequence g h) = may_be_empty g && may_be_empty h
  may_be_empty (either g h) = may_be_empty g || may_be_empty h
  may_be_empty (many g) = true
  may_be_empty (rule n) = L.empty n

  abbrev pub first : Grammar N K Y C V R → List K
  first (token ks fault next build) = ks
  first (change next build) = []
  first (sequence g h) = with_if (may_be_empty g) (first g) (first h)
  first (either g h) = first g ++ first h
  first (many g) = first g
  first (rule n) = L.begins n

  abbrev pub first_then : Grammar N K Y C V R → List K → List K
  first_then g ks = with_if (may_be_empty g) (first g) ks

  abbrev pub first_of : List (Grammar N K Y C V R) → List K → List K
  first_of [] ks = ks
  first_of (g ∷ gs) ks = first_then g (first_of gs ks)
