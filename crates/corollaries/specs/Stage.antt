-- Stages: eliminations that are shown by a Gröbner basis and identities alone. k variables stand in front of m.
--   Stage                  `list`: the basis; `gens`: for each polynomial that the stage begins with its cofactors by the list; `pairs`: for each pair
--                          of the list those of its S-polynomial; `out`: what the stage gives, in the m variables; `links`: for each of the list that
--                          has no variable in front its cofactors by `out`
--   no_stage               one with nothing
--   block_order k          the order that eliminates k variables
--   pair_at s i            the pair number i of the list
--   Place                  a part of a stage, by its number;  below n: the numbers below n
--   places k hs s          the parts of a stage that begins with hs, in the order in which they are tested
--   HoldsAt k hs s place   that part holds, where the stage begins with hs
--   StageHolds k hs s      all parts hold
--   IsStageOver k m s      its polynomials have the variables that they should have, and those of the list, of its pairs and of `out` fall
use Rattle.std.specs.Prelude.{◌≡◌, ℕ, ◌+◌, ◌<◌, List, [], ◌++◌, map, get_or, length}
use Rattle.algebra.specs.Each.{Each}
use Rattle.algebra.specs.Fraction.{Fraction, ℚ, rationals}
use Rattle.polynomials.specs.Terms.{Terms, Same, combination}
use Rattle.polynomials.specs.Order.{Rank, grevlex, blocks}
use Rattle.polynomials.specs.Polynomial.{AllArity, IsPolynomial}
use Rattle.exponentials.specs.Table.{numbers}
use Rattle.machines.specs.Cut.{lead_number}
use Rattle.machines.specs.Elimination.{free_part}
use Rattle.corollaries.specs.Representation.{pairs_of, IsLcmRepresentation}

pub record Stage : Type 0 where
  pub list : List (Terms Fraction)
  pub gens : List (List (Terms Fraction))
  pub pairs : List (List (Terms Fraction))
  pub out : List (Terms Fraction)
  pub links : List (List (Terms Fraction))

abbrev pub no_stage : Stage
no_stage = record { list = []; gens = []; pairs = []; out = []; links = [] }

abbrev pub block_order : ℕ → Rank
block_order k = blocks k grevlex grevlex

abbrev pub pair_at : Stage → ℕ → ℕ × ℕ
pair_at s i = get_or (pairs_of (length s.list)) i (0, 0)

pub data Place : Type 0 where
  in_list in_gens in_pairs in_links : ℕ → Place

abbrev pub below : ℕ → List ℕ
below n = numbers 0 n

abbrev pub places : ℕ → List (Terms Fraction) → Stage → List Place
places k hs s =
    map in_list (below (length s.list)) ++ (map in_gens (below (length hs))
    ++ (map in_pairs (below (length (pairs_of (length s.list))))
    ++ map in_links (below (length (free_part k s.list)))))

module _ (k : ℕ) (hs : List (Terms Fraction)) (s : Stage) where
  -- an element is monic; a polynomial that the stage begins with is made of the list, and so is the
  -- S-polynomial of a pair; an element that has none of the variables in front is made of `out`
  abbrev pub HoldsAt : Place → Type 0
  HoldsAt (in_list i) = lead_number rationals (get_or s.list i []) ≡ ℚ.one
  HoldsAt (in_gens i) = Same ℚ (get_or hs i []) (combination ℚ (get_or s.gens i []) s.list)
  HoldsAt (in_pairs i) =
      IsLcmRepresentation rationals (block_order k) s.list (pair_at s i) (get_or s.pairs i [])
  HoldsAt (in_links i) =
      Same ℚ (get_or (free_part k s.list) i []) (combination ℚ (get_or s.links i []) s.out)

  pub record StageHolds : Type 0 where
    pub list : (i : ℕ) → i < length s.list → HoldsAt (in_list i)
    pub gens : (i : ℕ) → i < length hs → HoldsAt (in_gens i)
    pub pairs : (i : ℕ) → i < length (pairs_of (length s.list)) → HoldsAt (in_pairs i)
    pub links : (i : ℕ) → i < length (free_part k s.list) → HoldsAt (in_links i)

pub record IsStageOver (k m : ℕ) (s : Stage) : Type 0 where
  pub list : Each (IsPolynomial ℚ (block_order k) (k + m)) s.list
  pub gens : Each (AllArity (k + m)) s.gens
  pub pairs : Each (Each (IsPolynomial ℚ (block_order k) (k + m))) s.pairs
  pub out : Each (IsPolynomial ℚ grevlex m) s.out
  pub links : Each (AllArity m) s.links
