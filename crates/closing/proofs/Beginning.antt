-- A search with no samples.
--   begun_none        no entries are the beginning of a search's
--   sampled_none      and there a sampling begins
use Rattle.std.proofs.Common.{◌≡◌, ℕ, ◌≤◌, List, [], pos, length, refl, sym, ap, subst, ◌∙◌}
use Rattle.loops.specs.Program.{Expr, Program}
use Rattle.residue_rows.specs.Modulus.{modulus}
use Rattle.residue_rows.specs.EchelonForm.{Led, IsEchelonOf}
use Rattle.residue_rows.proofs.EchelonForms.{form_none}
use Rattle.closing.specs.SearchCauses.{AreBegun}
use Rattle.residue_rows.specs.Limits.{most_monomials}
use Rattle.closing.specs.Maps.{AreMapsModulo}
use Rattle.closing.specs.Sampling.{IsAt, IsSampled}
use Rattle.closing.specs.Search.{rows_of, samples_of, idle_of, entries_of, state_of, monomials, IsSearch}
use Rattle.closing.specs.declared.sampling.Sampling.{Sampling}
use Rattle.closing.proofs.Stopped.{begun_at}

module _ (program : Program (Expr ℕ)) (d : ℕ) where
  search_none : IsSearch program d []
  unfolding IsSearch
  search_none = tt

  pub begun_none : AreBegun program d []
  unfolding entries_of
  begun_none = begun_at program d [] search_none

  module _ (s : Sampling) (listed : s.monomials.items ≡ monomials program d)
      (few : length s.monomials.items ≤ most_monomials) (maps : AreMapsModulo program s.maps)
      (draws : s.draws.number ≡ 0) (width : s.echelon.width ≡ length s.monomials.items)
      (rows : s.echelon.rows ≡ []) (counted : s.counted ≡ 0) (taken : s.taken ≡ 0)
      (idle : s.idle ≡ 0) where
    at_none : IsAt program d [] s
    unfolding rows_of samples_of idle_of state_of
    at_none = record {
      search = search_none;
      listed = listed;
      few = subst (λ es. length es ≤ most_monomials) listed few;
      maps = maps;
      draws = draws;
      width = width ∙ ap length listed;
      echelon =
          subst (λ (ls : List Led). IsEchelonOf (pos modulus) s.echelon.width [] ls) (sym rows)
          (form_none (pos modulus) s.echelon.width);
      counted = counted;
      taken = taken;
      idle = idle;
    }

    pub sampled_none : IsSampled program d [] s
    unfolding entries_of
    sampled_none = record { parts = []; at = at_none; entries = refl }
