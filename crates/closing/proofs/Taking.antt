-- A sample of a sampling, over plain variables.
--   draws_length        so many are drawn
--   few_taken           there is room for one more
--   taken_units         it is a unit
--   is_drawn            its row is that of the run that the parts draw
--   unfinished, enough  another sample is taken, or none
--   refuted_counts, refuted_old, refuted_stuck     what follows of the row of a run with a word that counters
--   taken_counts, taken_idle, taken_stuck     what follows, where its row counts, where it doesn't, and where what is left of it has no inverse
use Rattle.std.proofs.Common.{◌≡◌, inl, inr, ℕ, zero, suc, ◌<◌, ◌≤◌, ℤ, pos, List, [], ◌∷◌, ◌++◌, length, arith, refl, sym, ap, ap₂, subst, ◌∙◌, Result, Ok}
use Rattle.machines.specs.Journal.{Entry, Begin, Sample, units_of}
use Rattle.loops.specs.Program.{Expr, Program}
use Rattle.residue_rows.specs.Modulus.{modulus}
use Rattle.residue_rows.specs.EchelonForm.{IsEchelonOf, IsWithRow, IsIndependent, IsDependent, IsStuck}
use Rattle.residue_rows.specs.declared.echelon.Addition.{Addition}
use Rattle.residue_rows.specs.declared.echelon.Addition.TheVariants.{Counts, Combination}
use Rattle.std.specs.declared.alloc.AllocError.{AllocError}
use Rattle.closing.specs.SearchCauses.{AreBegun, IsNoSample}
use Rattle.closing.specs.Maps.{AreMapsModulo}
use Rattle.residue_rows.specs.Draws.{number_behind, draws_from, after_draws}
use Rattle.closing.specs.Samples.{IsRowOf, letters}
use Rattle.closing.specs.Sampling.{IsAt, IsSampled, IsEnough, IsUnfinished, IsRefuted, IsUnrefuted}
use Rattle.closing.specs.Search.{Part, most_idle, counted, idle, samples_of, rows_of, entries_of, state_of, numbers_of, word_of, IsRow}
use Rattle.closing.specs.declared.sampling.Sampling.{Sampling}
use Rattle.closing.proofs.Parts.{few_samples, sampled_units}
use Rattle.closing.proofs.Sampled.{IsBehind, more_rows, one_more, counted_at, idle_at}
use Rattle.closing.proofs.Stopped.{begun_sample}

pub draws_length : (x n : ℕ) → length (draws_from x n) ≡ n
unfolding draws_from
draws_length x zero = refl
draws_length x (suc n) = ap (λ k. suc k) (draws_length (number_behind x) n)

module _ (program : Program (Expr ℕ)) (d : ℕ) (before after : List Entry) (s : Sampling)
    (u : IsUnfinished program d before s) where
  abbrev m : ℕ
  m = length program.names

  abbrev ps : List Part
  ps = u.parts

  pub few_taken : s.taken ≤ units_of before
  few_taken =
      subst (λ k. k ≤ units_of before) (sym u.at.taken)
      (subst (λ es. samples_of ps ≤ units_of es) (sym u.entries) (few_samples ps))

  module _ (e : after ≡ before ++ Begin (Sample s.taken) ∷ []) where
    pub taken_units : units_of before < units_of after
    taken_units =
        let h = ap units_of e ∙ sampled_units before s.taken in omega (arith, h)

    entries_are : after ≡ entries_of ps ++ Begin (Sample (samples_of ps)) ∷ []
    entries_are = e ∙ ap₂ (λ es k. es ++ Begin (Sample k) ∷ []) u.entries u.at.taken

    module _ {ns ls w : List ℕ} {x y : ℕ} (ns_are : ns ≡ draws_from s.draws.number m)
        (x_is : x ≡ after_draws s.draws.number m) (ls_are : ls ≡ draws_from x s.taken)
        (y_is : y ≡ after_draws x s.taken) (w_is : w ≡ letters (length program.branches) ls)
        {row : List ℤ} (r : IsRowOf program (pos modulus) s.monomials.items ns w row) where
      x_seen : x ≡ after_draws (state_of program ps) m
      x_seen = x_is ∙ ap (λ z. after_draws z m) u.at.draws

      pub is_drawn : IsRow program d ps (word_of program ps) row
      is_drawn =
          let at_word : IsRowOf program (pos modulus) s.monomials.items ns (word_of program ps)
          row =
          subst (λ v. IsRowOf program (pos modulus) s.monomials.items ns v row)
          (w_is ∙ ap (letters (length program.branches))
          (ls_are ∙ ap₂ draws_from x_seen u.at.taken)) r in
          let at_numbers : IsRowOf program (pos modulus) s.monomials.items (numbers_of program ps)
          (word_of program ps) row =
          subst (λ v. IsRowOf program (pos modulus) s.monomials.items v (word_of program ps) row)
          (ns_are ∙ ap (λ z. draws_from z m) u.at.draws) at_word in
          subst (λ es. IsRowOf program (pos modulus) es (numbers_of program ps)
          (word_of program ps) row) u.at.listed at_numbers

      module _ {t : Sampling} (b : IsBehind program d s t) (taken : t.taken ≡ suc s.taken)
          (draws : t.draws.number ≡ y) where
        drawn : t.draws.number ≡ after_draws (after_draws s.draws.number m) s.taken
        drawn = draws ∙ y_is ∙ ap (λ z. after_draws z s.taken) x_is

        pub taken_counts : IsWithRow (pos modulus) s.echelon row t.echelon
            → IsIndependent (pos modulus) s.echelon row → t.counted ≡ suc s.counted → t.idle ≡ 0
            → IsSampled program d after t
        unfolding entries_of
        taken_counts more new c i = record {
          parts = counted row ∷ ps;
          at = counted_at program d ps s t u.at b row u.goes_on is_drawn taken drawn more new c i;
          entries = entries_are;
        }

        pub taken_idle : t.echelon ≡ s.echelon → IsDependent (pos modulus) s.echelon row
            → t.counted ≡ s.counted → t.idle ≡ suc s.idle → IsSampled program d after t
        unfolding entries_of
        taken_idle same old c i = record {
          parts = idle row ∷ ps;
          at = idle_at program d ps s t u.at b row u.goes_on is_drawn taken drawn same old c i;
          entries = entries_are;
        }

      pub taken_stuck : IsStuck (pos modulus) s.echelon row
          → AreBegun program d after × IsNoSample program d after
      taken_stuck stuck = (
        subst (AreBegun program d) (sym entries_are)
            (begun_sample program d ps u.at.search u.goes_on),
        inr (inl (record {
          parts = ps;
          search = u.at.search;
          goes_on = u.goes_on;
          entries = entries_are;
          row = row;
          is_row = is_drawn;
          none = record {
            form = s.echelon.rows;
            echelon =
                subst (λ n. IsEchelonOf (pos modulus) n (rows_of ps) s.echelon.rows) u.at.width
                u.at.echelon;
            stuck = subst (λ n. IsStuck (pos modulus) (record { width = n; rows = s.echelon.rows })
                row) u.at.width stuck;
          };
        })),
      )

-- a row that is a combination doesn't count
pub not_counted : {a : Addition} → ◌≡◌ {A = Result Addition AllocError} (Ok a) (Ok Counts)
    → a ≡ Combination → ⊥
not_counted {a = a} counts is =
    let same : a ≡ Counts = cc in
    let e : Combination ≡ Counts = sym is ∙ same in cc

-- ---- whether another sample is taken
module _ {program : Program (Expr ℕ)} (d : ℕ) {es : List Entry} {s : Sampling}
    (h : IsSampled program d es s) where
  pub unfinished : s.idle < most_idle → s.counted < length s.monomials.items
      → IsUnfinished program d es s
  unfinished i c = record {
    parts = h.parts;
    at = h.at;
    entries = h.entries;
    goes_on = (
      subst (λ k. k < most_idle) h.at.idle i,
      subst (λ ms. length (rows_of h.parts) < length ms) h.at.listed
          (subst (λ k. k < length s.monomials.items) h.at.counted c),
    );
  }

  pub enough : ¬ ((s.idle < most_idle) × (s.counted < length s.monomials.items))
      → IsEnough program d es s
  enough none = record {
    parts = h.parts;
    at = h.at;
    entries = h.entries;
    enough = λ g. none (
      subst (λ k. k < most_idle) (sym h.at.idle) g.0,
      subst (λ k. k < length s.monomials.items) (sym h.at.counted)
          (subst (λ ms. length (rows_of h.parts) < length ms) (sym h.at.listed) g.1),
    );
  }

-- ---- the run with a word that counters
module _ {program : Program (Expr ℕ)} (d : ℕ) (ps : List Part) {s : Sampling}
    (a : IsAt program d ps s) {ns w : List ℕ} (ns_are : ns ≡ draws_from s.draws.number
    (length program.names)) {row : List ℤ} (r : IsRowOf program (pos modulus) s.monomials.items ns w
    row) where
  is_drawn_so : IsRow program d ps w row
  is_drawn_so =
      subst (λ es. IsRowOf program (pos modulus) es (numbers_of program ps) w row) a.listed
      (subst (λ v. IsRowOf program (pos modulus) s.monomials.items v w row)
      (ns_are ∙ ap (λ z. draws_from z (length program.names)) a.draws) r)

  pub refuted_counts : {t : Sampling} → IsBehind program d s t → t.taken ≡ s.taken
      → t.draws.number ≡ after_draws s.draws.number (length program.names)
      → IsWithRow (pos modulus) s.echelon row t.echelon → IsIndependent (pos modulus) s.echelon row
      → t.counted ≡ suc s.counted → t.idle ≡ 0 → IsRefuted program d ps w t
  refuted_counts {t = t} b taken draws more new c i = record {
    row = row;
    is_row = is_drawn_so;
    counts = new (rows_of ps) a.echelon;
    more = record {
      listed = b.monomials ∙ a.listed;
      few = a.few;
      maps = subst (AreMapsModulo program) (sym b.maps) a.maps;
      width = b.width ∙ a.width;
      echelon = more_rows program d ps s t a b row more;
      counted = one_more program d ps s t a b row c;
      taken = taken ∙ a.taken;
    };
    idle = i;
    draws = draws ∙ ap (λ z. after_draws z (length program.names)) a.draws;
  }

  pub refuted_old : IsDependent (pos modulus) s.echelon row → IsUnrefuted program d ps w
  refuted_old old =
      record { row = row; is_row = is_drawn_so; none = inl (old (rows_of ps) a.echelon) }

  pub refuted_stuck : IsStuck (pos modulus) s.echelon row → IsUnrefuted program d ps w
  refuted_stuck stuck = record {
    row = row;
    is_row = is_drawn_so;
    none = inr (record {
      form = s.echelon.rows;
      echelon =
          subst (λ n. IsEchelonOf (pos modulus) n (rows_of ps) s.echelon.rows) a.width a.echelon;
      stuck = subst (λ n. IsStuck (pos modulus) (record { width = n; rows = s.echelon.rows }) row)
          a.width stuck;
    });
  }
