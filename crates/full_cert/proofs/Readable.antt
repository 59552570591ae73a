-- Full certificates of the code are readable, where what they have is narrow.
--   full_readable     all parts of one
use Rattle.std.proofs.Common.{◌≡◌, ℕ, zero, suc, ◌+◌, ◌<◌, ◌≤◌, List, [], ◌∷◌, length, map, get_or, refl, sym, subst, ◌∙◌, arith}
use Rattle.std.specs.Prelude.{All, Vec, vec_len, Option, Some, None, IfSome, is_some, true}
use Rattle.std.specs.List.{AllZip}
use Rattle.std.specs.Option.{option_map}
use Rattle.std.specs.declared.alloc.Global.{Global}
use Rattle.std.proofs.lemmas.List.{length-map}
use Rattle.std.proofs.lemmas.List.Elements.{All-nil, All-cons, All-head, All-tail}
use Rattle.algebra.specs.Each.{Each}
use Rattle.algebra.specs.Fraction.{Fraction, ℚ}
use Rattle.polynomials.specs.Order.{Rank, grevlex}
use Rattle.polynomials.specs.Polynomial.{IsPolynomial}
use Rattle.polynomials.specs.Terms.{Terms}
use Rattle.loops.specs.Program.{Expr, Program}
use Rattle.solvable_maps.specs.Iterations.{width}
use Rattle.rounds.specs.Form.{front}
use Rattle.poly.specs.Seen.{terms_each}
use Rattle.poly_text.specs.Narrow.{IsNarrow}
use Rattle.cert_form.proofs.Kept.{seen_length}
use Rattle.task_lists.specs.Rows.{rows_of}
use Rattle.corollaries.specs.Stage.{block_order}
use Rattle.corollaries.specs.Full.{WrittenForm, BranchStages, of_option}
use Rattle.task_lists.specs.Images.{most_bases, in_blocks, ArePolys, AreRows, IsFormOver, IsStageIn, IsBranchIn, AreBranchesIn, IsFullIn}
use Rattle.task_lists.specs.View.{form_in, stage_in, branch_in, round_in, full_of}
use Rattle.task_lists.specs.declared.parts.FullForm.{FullForm}
use Rattle.task_lists.specs.declared.parts.FullStage.{FullStage}
use Rattle.task_lists.proofs.Descending.{fall_images, fall_rows, fall_over}
use Rattle.corollaries.specs.Counts.{no_branch, IsCounted}
use Rattle.task_lists.specs.declared.parts.FullBranch.{FullBranch}
use Rattle.task_lists.specs.declared.parts.FullCert.{FullCert}
use Rattle.cert_form.specs.Cert.{Polys}
use Rattle.full_cert.specs.Narrow.{ArePolysNarrow, AreRowsNarrow, IsNarrowNumber, IsFormNarrow, IsStageNarrow, IsBranchNarrow, IsFullNarrow}
use Rattle.full_cert.proofs.Counted.{no_form}
use Rattle.full_cert.proofs.PartsBack.{IsReadable, AreReadable, AreRowsReadable, IsStageReadable}
use Rattle.full_cert.proofs.WholeBack.{IsFullReadable}

-- what the elements have, and what they are seen as
module _ {X Y : Type 0} (f : X → Y) (P : Y → Type 0) (Q : X → Type 0) (R : Y → Type 0)
    (one : (x : X) → Q x → R (f x) → P (f x)) where
  each_held : (xs : List X) → All Q xs → All R (map f xs) → All P (map f xs)
  each_held [] q r = All-nil P
  each_held (x ∷ xs) q r = All-cons P (f x) (map f xs)
      (one x (All-head Q x xs q) (All-head R (f x) (map f xs) r))
      (each_held xs (All-tail Q x xs q) (All-tail R (f x) (map f xs) r))

module _ (O : Rank) (m : ℕ) where
  polys_readable : (ps : List (Terms Fraction)) → Each (IsPolynomial ℚ O m) ps → ArePolysNarrow ps
      → AreReadable O m ps
  unfolding Each
  polys_readable [] e h = All-nil (IsReadable O m)
  polys_readable (p ∷ ps) e h = All-cons (IsReadable O m) p ps
      (record { is = e.0; narrow = All-head (All IsNarrow) p ps h })
      (polys_readable ps e.1 (All-tail (All IsNarrow) p ps h))

  rows_readable : (rows : List (List (Terms Fraction))) → Each (Each (IsPolynomial ℚ O m)) rows
      → AreRowsNarrow rows → AreRowsReadable O m rows
  unfolding Each
  rows_readable [] e h = All-nil (AreReadable O m)
  rows_readable (row ∷ rows) e h = All-cons (AreReadable O m) row rows
      (polys_readable row e.0 (All-head ArePolysNarrow row rows h))
      (rows_readable rows e.1 (All-tail ArePolysNarrow row rows h))

module _ (m : ℕ) where
  over_readable : (ps : Polys) → ArePolys m ps → ArePolysNarrow (terms_each ps.items)
      → AreReadable grevlex m (terms_each ps.items)
  over_readable ps a h = polys_readable grevlex m (terms_each ps.items)
      (fall_over m ps.items (record {}) (λ p. refl) a) h

  fallen_rows : (rows : List Polys) → All (ArePolys m) rows
      → Each (Each (IsPolynomial ℚ grevlex m)) (rows_of rows)
  unfolding Each
  fallen_rows [] a = tt
  fallen_rows (row ∷ rows) a = (
    fall_over m row.items (record {}) (λ p. refl) (All-head (ArePolys m) row rows a),
    fallen_rows rows (All-tail (ArePolys m) row rows a),
  )

  table_readable : (rows : Vec Polys Global) → AreRows m rows → AreRowsNarrow (rows_of rows.items)
      → AreRowsReadable grevlex m (rows_of rows.items)
  table_readable rows a h = rows_readable grevlex m (rows_of rows.items) (fallen_rows rows.items a)
      h

  stage_readable : (k : ℕ) (s : FullStage) → IsStageIn k m s → IsStageNarrow (stage_in s)
      → IsStageReadable k m (stage_in s)
  stage_readable k s i h = record {
    list = polys_readable (block_order k) (k + m) (terms_each s.list.items)
        (fall_images (in_blocks k) (k + m) s.list.items i.list) h.list;
    gens = rows_readable (block_order k) (k + m) (rows_of s.gens.items)
        (fall_rows (in_blocks k) (k + m) s.gens.items i.gens) h.gens;
    pairs = rows_readable (block_order k) (k + m) (rows_of s.pairs.items)
        (fall_rows (in_blocks k) (k + m) s.pairs.items i.pairs) h.pairs;
    out = over_readable s.out i.out h.out;
    links = table_readable s.links i.links h.links;
  }

  -- ---- forms
  record IsFormHeld (f : WrittenForm) : Type 0 where
    few : length f.base ≤ most_bases
    base : All IsNarrowNumber f.base
    polys : AreReadable grevlex (width (length f.base) m) f.polys

  form_held : (f : FullForm) → IsFormOver m f → IsFormNarrow (form_in f) → IsFormHeld (form_in f)
  form_held f i h =
      let long = seen_length _ f.base in
      record {
        few = subst (λ n. n ≤ most_bases) (sym long) i.few;
        base = h.base;
        polys = subst (λ n. AreReadable grevlex (width n m) (terms_each f.polys.items)) (sym long)
            (polys_readable grevlex (width (vec_len f.base) m) (terms_each f.polys.items)
            (fall_over (width (vec_len f.base) m) f.polys.items (record {}) (λ p. refl) i.polys)
            h.polys);
      }

  -- ---- rounds
  record IsBranchHeld (f : WrittenForm) (s : BranchStages) : Type 0 where
    orbit : IsStageReadable (front (length f.base)) m s.orbit_stage
    meet : is_some s.meet_stage ≡ true → IsStageReadable 1 m (of_option s.meet_stage)

  meet_held : (s : Option FullStage) → IfSome s (IsStageIn 1 m)
      → IfSome (option_map stage_in s) IsStageNarrow → is_some (option_map stage_in s) ≡ true
      → IsStageReadable 1 m (of_option (option_map stage_in s))
  meet_held None i h e = absurd (cc)
  meet_held (Some s) i h e = stage_readable 1 s i h

  branch_held : (f : FullForm) (b : FullBranch) → IsBranchIn m f b → IsBranchNarrow (branch_in b)
      → IsBranchHeld (form_in f) (branch_in b)
  branch_held f b i h = record {
    orbit = subst (λ n. IsStageReadable (front n) m (stage_in b.orbit)) (sym (seen_length _ f.base))
        (stage_readable (front (vec_len f.base)) b.orbit i.orbit h.orbit);
    meet = meet_held b.meet i.meet h.meet;
  }

  row_held : (fs : List FullForm) (bs : List FullBranch) → AllZip (IsBranchIn m) fs bs
      → All IsBranchNarrow (map branch_in bs) → (b : ℕ) → b < length fs
      → IsBranchHeld (get_or (map form_in fs) b no_form) (get_or (map branch_in bs) b no_branch)
  row_held [] [] a h b l = absurd (omega (arith, l))
  row_held [] (x ∷ bs) a h b l = absurd a
  row_held (f ∷ fs) [] a h b l = absurd a
  row_held (f ∷ fs) (x ∷ bs) a h zero l =
      branch_held f x a.0 (All-head IsBranchNarrow (branch_in x) (map branch_in bs) h)
  row_held (f ∷ fs) (x ∷ bs) a h (suc b) l =
      row_held fs bs a.1 (All-tail IsBranchNarrow (branch_in x) (map branch_in bs) h) b
      (omega (arith, l))

  rounds_held : (fs : List FullForm) (rounds : List (Vec FullBranch Global))
      → All (AreBranchesIn m fs) rounds → All (All IsBranchNarrow) (map round_in rounds)
      → (r : ℕ) → r < length (map round_in rounds) → (b : ℕ) → b < length fs
      → IsBranchHeld (get_or (map form_in fs) b no_form)
      (get_or (get_or (map round_in rounds) r []) b no_branch)
  rounds_held fs [] a h r l b k = absurd (omega (arith, l))
  rounds_held fs (x ∷ rounds) a h zero l b k =
      row_held fs x.items (All-head (AreBranchesIn m fs) x rounds a)
      (All-head (All IsBranchNarrow) (round_in x) (map round_in rounds) h) b k
  rounds_held fs (x ∷ rounds) a h (suc r) l b k =
      rounds_held fs rounds (All-tail (AreBranchesIn m fs) x rounds a)
      (All-tail (All IsBranchNarrow) (round_in x) (map round_in rounds) h) r (omega (arith, l)) b k

pub full_readable : {At : Type 0} (program : Program (Expr At)) (c : FullCert)
    → IsFullIn (length program.names) c → IsFullNarrow (full_of c)
    → IsCounted program (full_of c) → IsFullReadable program (full_of c)
full_readable program c i h counted =
    let m = length program.names in
    let forms = each_held form_in (IsFormHeld m) (IsFormOver m) IsFormNarrow (form_held m)
    c.forms.items i.forms h.forms in
    let many : length c.forms.items ≡ length program.branches =
    sym (length-map c.forms.items form_in) ∙ counted.forms in
    let held = λ (r : ℕ) (l : r < length (full_of c).rounds) (b : ℕ)
    (k : b < length program.branches).
    rounds_held m c.forms.items c.rounds.items i.rounds h.rounds r l b (omega (arith, k, many)) in
    record {
      basis = over_readable m c.basis i.basis h.basis;
      steps = each_held (λ s. rows_of s.items) (AreRowsReadable grevlex m) (AreRows m)
          AreRowsNarrow (table_readable m) c.steps.items i.steps h.steps;
      few = λ j d l. (forms j d l).few;
      bases = λ j d l. (forms j d l).base;
      polys = λ j d l. (forms j d l).polys;
      out = over_readable m c.start.out i.out h.out;
      links = table_readable m c.start.links i.links h.links;
      stages = record {
        orbit = λ r b l k. (held r l b k).orbit;
        meet = λ r b l k some. (held r l b k).meet (counted.others r b l some k);
      };
    }
