-- Full certificates whose numbers and exponents fit in those of the code.
--   ArePolysNarrow ps, AreRowsNarrow rows     the terms of each of ps are narrow, and so are those of lists
--   IsFormNarrow f, IsStageNarrow s, IsBranchNarrow b     the numbers of the base are at most 2^127 - 1, and the polynomials are narrow; so are those of a stage, and of a branch's stages
--   IsStartNarrow s          so are those of a start
--   IsFullNarrow c           so are all parts of the full certificate c
use Rattle.std.specs.Prelude.{ℕ, ◌<◌, List, All, IfSome}
use Rattle.algebra.specs.Fraction.{Fraction}
use Rattle.polynomials.specs.Terms.{Terms}
use Rattle.poly_text.specs.Narrow.{IsNarrow}
use Rattle.poly_text.specs.Number.{numeral_bound}
use Rattle.corollaries.specs.Stage.{Stage}
use Rattle.corollaries.specs.Full.{BranchStages, FullCertificate, WrittenForm}
use Rattle.full_cert.specs.PartsForm.{Start}

abbrev pub ArePolysNarrow : List (Terms Fraction) → Type 0
ArePolysNarrow ps = All (All IsNarrow) ps

abbrev pub AreRowsNarrow : List (List (Terms Fraction)) → Type 0
AreRowsNarrow rows = All ArePolysNarrow rows

abbrev pub IsNarrowNumber : ℕ → Type 0
IsNarrowNumber n = n < numeral_bound

pub record IsFormNarrow (f : WrittenForm) : Type 0 where
  pub base : All IsNarrowNumber f.base
  pub polys : ArePolysNarrow f.polys

pub record IsStartNarrow (s : Start) : Type 0 where
  pub out : ArePolysNarrow s.0
  pub links : AreRowsNarrow s.1

pub record IsStageNarrow (s : Stage) : Type 0 where
  pub list : ArePolysNarrow s.list
  pub gens : AreRowsNarrow s.gens
  pub pairs : AreRowsNarrow s.pairs
  pub out : ArePolysNarrow s.out
  pub links : AreRowsNarrow s.links

pub record IsBranchNarrow (b : BranchStages) : Type 0 where
  pub orbit : IsStageNarrow b.orbit_stage
  pub meet : IfSome b.meet_stage IsStageNarrow

pub record IsFullNarrow (c : FullCertificate) : Type 0 where
  pub basis : ArePolysNarrow c.basis
  pub steps : All AreRowsNarrow c.steps
  pub forms : All IsFormNarrow c.forms
  pub out : ArePolysNarrow c.start_out
  pub links : AreRowsNarrow c.start_links
  pub rounds : All (All IsBranchNarrow) c.rounds
