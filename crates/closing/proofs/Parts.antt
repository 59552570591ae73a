-- The parts of a search.
--   rows_are            the rows that count are those of samples
--   few_samples         no more samples were taken than there are units
--   sampled_units       a sample is a unit
--   counted_search, idle_search, refuted_search     one part more
use Rattle.std.proofs.Common.{◌≡◌, ℕ, suc, ◌≤◌, ℤ, pos, List, [], ◌∷◌, ◌++◌, arith, ◌∙◌}
use Rattle.algebra.specs.Each.{Each}
use Rattle.algebra.proofs.Each.{each-append}
use Rattle.machines.specs.Journal.{Entry, Begin, Sample, units_of}
use Rattle.rounds.proofs.Prefixes.{units-append}
use Rattle.loops.specs.Program.{Expr, Program}
use Rattle.closures.specs.Modulo.{IsSampleRow}
use Rattle.residue_rows.specs.Modulus.{modulus}
use Rattle.closing.specs.Samples.{IsRowOf}
use Rattle.closing.specs.Search.{Part, counted, idle, refuted, samples_of, rows_of, entries_of, monomials, IsSearch}

module _ (program : Program (Expr ℕ)) (d : ℕ) where
  abbrev pub IsSample : List ℤ → Type 0
  IsSample row = IsSampleRow program (pos modulus) (monomials program d) row

  sampled : (ns word : List ℕ) (row : List ℤ)
      → IsRowOf program (pos modulus) (monomials program d) ns word row → IsSample row
  sampled ns word row r = let run = r.run in record { run = run; residues = r.residues }

  pub rows_are : (ps : List Part) → IsSearch program d ps → Each IsSample (rows_of ps)
  unfolding IsSearch rows_of Each
  rows_are [] s = tt
  rows_are (counted row ∷ ps) s =
      each-append IsSample (rows_of ps) (row ∷ []) (rows_are ps s.0) (sampled _ _ row s.2, tt)
  rows_are (idle row ∷ ps) s = rows_are ps s.0
  rows_are (refuted gs es x q row ∷ ps) s =
      each-append IsSample (rows_of ps) (row ∷ []) (rows_are ps s.0) (sampled _ _ row s.4, tt)

pub sampled_units : (es : List Entry) (n : ℕ) → units_of (es ++ Begin (Sample n) ∷ []) ≡ suc
    (units_of es)
unfolding units_of
sampled_units es n = units-append es (Begin (Sample n) ∷ []) ∙ (omega arith)

pub few_samples : (ps : List Part) → samples_of ps ≤ units_of (entries_of ps)
unfolding samples_of entries_of units_of
few_samples [] = omega arith
few_samples (counted row ∷ ps) =
    let e = sampled_units (entries_of ps) (samples_of ps) in
    let h = few_samples ps in omega (arith, e, h)
few_samples (idle row ∷ ps) =
    let e = sampled_units (entries_of ps) (samples_of ps) in
    let h = few_samples ps in omega (arith, e, h)
few_samples (refuted gs es x q row ∷ ps) =
    let e = units-append (entries_of ps) es in
    let h = few_samples ps in omega (arith, e, h)
