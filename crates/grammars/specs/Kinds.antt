-- Sets of kinds of lexemes, by a test whether two kinds are the same.
--   IsExact same     the test says so
--   has ks k         k is in ks
--   within js ks     each kind of js is in ks
--   apart js ks      no kind is in both
--   with_if b js ks  ks, and those of js before them if b; else js alone
use Rattle.std.specs.Prelude.{◌≡◌, Bool, true, not, if◌then◌else◌, List, ◌++◌}
use Rattle.std.specs.List.{list_any, list_all}

module _ {K : Type 0} (same : K → K → Bool) where
  pub record IsExact : Type 0 where
    pub reflexive : (k : K) → same k k ≡ true
    pub exact : (j k : K) → same j k ≡ true → j ≡ k

  abbrev pub has : List K → K → Bool
  has ks k = list_any (λ j. same j k) ks

  abbrev pub within : List K → List K → Bool
  within js ks = list_all (λ j. has ks j) js

  abbrev pub apart : List K → List K → Bool
  apart js ks = list_all (λ j. not (has ks j)) js

abbrev pub with_if : {K : Type 0} → Bool → List K → List K → List K
with_if b js ks = if b then js ++ ks else js
