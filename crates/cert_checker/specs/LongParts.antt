-- Where the parts of a full certificate behind the certificate itself multiply out to too many terms. They are counted before any of them is judged.
--   IsTotal f t ps s             s is t with the sum of f over the ps, and at most most_terms
--   IsFirstBeyond f t ps a       a is the first of the ps up to which t with the sum of f over them is above most_terms
--   row_terms gs qs rows hs i    how many terms polynomial i of the gs, with the qs for its variables, and the combination of row i with the hs multiply out to
--   place_terms gs qs s place    so of the part of the stage s at the place, which begins with the gs, with the qs for their variables
--   part_terms program c part    so of a part. For an orbit the form counts, which has as many terms as the inverse form
--   AreFew program c             those behind the certificate itself, together, multiply out to at most most_terms terms
--   IsLongPart program c path    the certificate itself is valid, and the part with this path is the first up to which they don't
use Rattle.std.specs.Prelude.{◌≡◌, ℕ, suc, ◌+◌, ◌<◌, ◌≤◌, List, [], ◌∷◌, ◌++◌, get_or}
use Rattle.std.specs.List.{sum_by}
use Rattle.algebra.specs.Fraction.{Fraction}
use Rattle.polynomials.specs.Terms.{Terms}
use Rattle.loops.specs.Program.{Expr, Program}
use Rattle.loops.specs.Certificate.{IsValid}
use Rattle.rounds.specs.BranchMap.{map_of}
use Rattle.expansion.specs.Counts.{most_terms, combination_terms}
use Rattle.expansion.specs.Lengths.{composition_length, list_length, next_lengths}
use Rattle.corollaries.specs.Stage.{Stage, Place, in_list, in_gens, in_pairs, in_links}
use Rattle.corollaries.specs.Full.{FullCertificate, orbit, meet, certificate, form_of, stage_of, before}
use Rattle.corollaries.specs.Parts.{Part, in_basis, in_steps, in_forms, in_start, in_round, at_end}
use Rattle.cert_checker.specs.Further.{further_parts}
use Rattle.cert_checker.specs.Paths.{path_of}

module _ {A : Type 0} (f : A → ℕ) (t : ℕ) (ps : List A) where
  abbrev pub IsTotal : ℕ → Type 0
  IsTotal s = (s ≡ t + sum_by f ps) × (s ≤ most_terms)

  pub record IsFirstBeyond (a : A) : Type 0 where
    pub earlier : List A
    pub later : List A
    pub is : ps ≡ earlier ++ a ∷ later
    pub few : t + sum_by f earlier ≤ most_terms
    pub many : most_terms < t + sum_by f earlier + f a

abbrev pub row_terms : (gs qs : List (Terms Fraction)) → List (List (Terms Fraction))
    → List (Terms Fraction) → ℕ → ℕ
row_terms gs qs rows hs i =
    composition_length (get_or gs i []) qs + combination_terms (get_or rows i []) hs

abbrev pub place_terms : (gs qs : List (Terms Fraction)) → Stage → Place → ℕ
place_terms gs qs s (in_list i) = 0
place_terms gs qs s (in_gens i) = row_terms gs qs s.gens s.list i
place_terms gs qs s (in_pairs i) = row_terms [] [] s.pairs s.list i
place_terms gs qs s (in_links i) = row_terms [] [] s.links s.out i

module _ (program : Program (Expr ℕ)) (c : FullCertificate) where
  abbrev pub part_terms : Part → ℕ
  part_terms (in_basis e) = 0
  part_terms (in_steps b e) = 0
  part_terms (in_forms b) =
      list_length (map_of program (suc b)) (form_of c b).polys + next_lengths (form_of c b).polys
  part_terms (in_start i) = row_terms [] [] c.start_links c.start_out i
  part_terms (in_round r b orbit place) =
      place_terms (before program c r) (form_of c b).polys (stage_of c r b orbit) place
  part_terms (in_round r b meet place) = place_terms [] [] (stage_of c r b meet) place
  part_terms at_end = 0

  abbrev pub AreFew : Type 0
  AreFew = sum_by part_terms (further_parts program c) ≤ most_terms

  pub record IsLongPart (path : List ℕ) : Type 0 where
    pub part : Part
    pub at : path_of part ≡ path
    pub valid : IsValid program (certificate c)
    pub first : IsFirstBeyond part_terms 0 (further_parts program c) part
