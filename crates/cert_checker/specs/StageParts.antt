-- The parts of a stage, over lists of terms.
--   IsMonicAt gs i           the number of the lead of element i is one
--   IsMadeAt hs rows gs i    polynomial i of hs is the combination of row i with the gs;  IsPastMade rows gs i: that is too wide
--   IsRepresentedAt k gs rows i     row i represents the S-polynomial of pair i below the least common multiple of the leads;  IsPastPairAt gs rows i: that is too wide
--   NeverPast i              nothing
--   IsPastPlace W s place    the part of the stage s at the place is too wide, where W i says so of making polynomial i that the stage begins with
use Rattle.std.specs.Prelude.{◌≡◌, ◌⊎◌, ℕ, List, [], get_or, length}
use Rattle.algebra.specs.Fraction.{Fraction, ℚ, rationals, fractions}
use Rattle.polynomials.specs.Terms.{Terms, Same, combination}
use Rattle.machines.specs.Cut.{lead_number}
use Rattle.machines.specs.Past.{IsPastPair}
use Rattle.corollaries.specs.Representation.{pairs_of, IsLcmRepresentation}
use Rattle.corollaries.specs.Stage.{Stage, Place, in_list, in_gens, in_pairs, in_links, block_order}
use Rattle.task_lists.specs.Past.{IsPastCombination}

abbrev pub IsMonicAt : List (Terms Fraction) → ℕ → Type 0
IsMonicAt gs i = lead_number rationals (get_or gs i []) ≡ ℚ.one

abbrev pub NeverPast : ℕ → Type 0
NeverPast i = ⊥

abbrev pub IsMadeAt : List (Terms Fraction) → List (List (Terms Fraction)) → List (Terms Fraction)
    → ℕ → Type 0
IsMadeAt hs rows gs i = Same ℚ (get_or hs i []) (combination ℚ (get_or rows i []) gs)

abbrev pub IsPastMade : List (List (Terms Fraction)) → List (Terms Fraction) → ℕ → Type 0
IsPastMade rows gs i = IsPastCombination (get_or rows i []) gs

abbrev pub pair_of : List (Terms Fraction) → ℕ → ℕ × ℕ
pair_of gs i = get_or (pairs_of (length gs)) i (0, 0)

abbrev pub IsRepresentedAt : ℕ → List (Terms Fraction) → List (List (Terms Fraction)) → ℕ → Type 0
IsRepresentedAt k gs rows i =
    IsLcmRepresentation rationals (block_order k) gs (pair_of gs i) (get_or rows i [])

abbrev pub IsPastPairAt : List (Terms Fraction) → List (List (Terms Fraction)) → ℕ → Type 0
IsPastPairAt gs rows i =
    IsPastPair fractions rationals gs (pair_of gs i) ⊎ IsPastCombination (get_or rows i []) gs

abbrev pub IsPastPlace : (ℕ → Type 0) → Stage → Place → Type 0
IsPastPlace W s (in_list i) = NeverPast i
IsPastPlace W s (in_gens i) = W i ⊎ IsPastMade s.gens s.list i
IsPastPlace W s (in_pairs i) = IsPastPairAt s.list s.pairs i
IsPastPlace W s (in_links i) = IsPastMade s.links s.out i
