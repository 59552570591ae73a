-- The iterations of a sampling.
--   counted_at, idle_at     behind a sample whose row counts, and behind one whose row doesn't
--   refuted_at              behind the row of a run with a word that counters
use Rattle.std.proofs.Common.{◌≡◌, ℕ, suc, ℤ, pos, List, [], ◌∷◌, ◌++◌, length, arith, sym, ap, ap₂, subst, ◌∙◌}
use Rattle.std.proofs.lemmas.List.{length_push}
use Rattle.algebra.specs.Fraction.{Fraction}
use Rattle.polynomials.specs.Terms.{Terms}
use Rattle.machines.specs.Journal.{Entry}
use Rattle.loops.specs.Program.{Expr, Program}
use Rattle.closures.specs.Closing.{Candidate, countered}
use Rattle.closures.specs.Ends.{ComesNext}
use Rattle.residue_rows.specs.Modulus.{modulus}
use Rattle.residue_rows.specs.EchelonForm.{Form, IsEchelonOf, IsWithRow, IsIndependent, IsDependent}
use Rattle.residue_rows.specs.Draws.{after_draws}
use Rattle.closing.specs.Maps.{AreMapsModulo}
use Rattle.closing.specs.Sampling.{IsAt, IsRefuted}
use Rattle.closing.specs.Search.{Part, counted, idle, refuted, samples_of, idle_of, rows_of, GoesOn, state_of, word_of, monomials, IsRow, HasLeft, IsSearch}
use Rattle.closing.specs.declared.sampling.Sampling.{Sampling}

module _ (program : Program (Expr ℕ)) (d : ℕ) where
  abbrev q : ℤ
  q = pos modulus

  abbrev m : ℕ
  m = length program.names

  -- what an iteration leaves alone
  pub record IsBehind (s t : Sampling) : Type 0 where
    pub monomials : t.monomials.items ≡ s.monomials.items
    pub maps : t.maps ≡ s.maps
    pub width : t.echelon.width ≡ s.echelon.width

  module _ (ps : List Part) (s t : Sampling) (a : IsAt program d ps s) (b : IsBehind s t)
      (row : List ℤ) where
    pub more_rows : IsWithRow q s.echelon row t.echelon
        → IsEchelonOf q t.echelon.width (rows_of ps ++ row ∷ []) t.echelon.rows
    more_rows more =
        subst (λ n. IsEchelonOf q n (rows_of ps ++ row ∷ []) t.echelon.rows) (sym b.width)
        (more (rows_of ps) a.echelon)

    pub one_more : t.counted ≡ suc s.counted → t.counted ≡ length (rows_of ps ++ row ∷ [])
    one_more c = c ∙ (ap (λ n. suc n) a.counted
        ∙ (let e = length_push (rows_of ps) row in omega (arith, e)))

    module _ (g : GoesOn (length (monomials program d)) ps)
        (r : IsRow program d ps (word_of program ps) row) (taken : t.taken ≡ suc s.taken)
        (draws : t.draws.number ≡ after_draws (after_draws s.draws.number m) s.taken) where
      same_draws : t.draws.number
          ≡ after_draws (after_draws (state_of program ps) m) (samples_of ps)
      same_draws = draws ∙ ap₂ (λ x k. after_draws (after_draws x m) k) a.draws a.taken

      pub counted_at : IsWithRow q s.echelon row t.echelon → IsIndependent q s.echelon row
          → t.counted ≡ suc s.counted → t.idle ≡ 0 → IsAt program d (counted row ∷ ps) t
      unfolding IsSearch rows_of samples_of idle_of state_of
      counted_at more new c i = record {
        search = (a.search, g, r, new (rows_of ps) a.echelon);
        listed = b.monomials ∙ a.listed;
        few = a.few;
        maps = subst (AreMapsModulo program) (sym b.maps) a.maps;
        draws = same_draws;
        width = b.width ∙ a.width;
        echelon = more_rows more;
        counted = one_more c;
        taken = taken ∙ ap (λ n. suc n) a.taken;
        idle = i;
      }

      pub idle_at : t.echelon ≡ s.echelon → IsDependent q s.echelon row → t.counted ≡ s.counted
          → t.idle ≡ suc s.idle → IsAt program d (idle row ∷ ps) t
      unfolding IsSearch rows_of samples_of idle_of state_of
      idle_at same old c i = record {
        search = (a.search, g, r, old (rows_of ps) a.echelon);
        listed = b.monomials ∙ a.listed;
        few = a.few;
        maps = subst (AreMapsModulo program) (sym b.maps) a.maps;
        draws = same_draws;
        width = b.width ∙ a.width;
        echelon =
            subst (λ (e : Form). IsEchelonOf q e.width (rows_of ps) e.rows) (sym same) a.echelon;
        counted = c ∙ a.counted;
        taken = taken ∙ ap (λ n. suc n) a.taken;
        idle = i ∙ ap (λ n. suc n) a.idle;
      }

  module _ (ps : List Part) (s t : Sampling) (a : IsAt program d ps s) (gs : List (Terms Fraction))
      (es : List Entry) (x : Candidate) (p : Terms Fraction)
      (enough : ¬ (GoesOn (length (monomials program d)) ps)) (left : HasLeft program d ps gs)
      (c : ComesNext program gs es (countered x p)) where
    pub refuted_at : IsRefuted program d ps x.word t
        → (u : List ℤ) × IsAt program d (refuted gs es x p u ∷ ps) t
    unfolding IsSearch rows_of samples_of idle_of state_of
    refuted_at h = (
      h.row,
      record {
        search = (a.search, enough, left, c, h.is_row, h.counts);
        listed = h.more.listed;
        few = h.more.few;
        maps = h.more.maps;
        draws = h.draws;
        width = h.more.width;
        echelon = h.more.echelon;
        counted = h.more.counted;
        taken = h.more.taken;
        idle = h.idle;
      },
    )
