-- The rounds of a trace as the code makes them.
--   row_pushed, row_last          the list behind branches, and one more; behind the last of them
--   rows_pushed, rows_last        so of rounds
--   rows_none                     behind none
--   branch_pushed                 the variables and orders of branches, and one more
--   zip_forms                     so of all, where the forms of the branches are given
--   fronts_count, place_inside, none_left       a setting has a form for each branch
--   knows_later, in_work_later    what is known of a list, or of a round, stays
--   lost                          what is so where memory is wanting
--   round_due, round_over, known_over     the next round, and behind it
--   first_done, branch_done, known_row    behind the first branch, and behind another
--   branch_due                    where a list is borrowed
--   rounds_begun, known_begun     before the first round
--   fronts_are                    how many variables are eliminated, by the forms
use Rattle.std.proofs.Common.{◌≡◌, ℕ, zero, suc, ◌+◌, ◌<◌, ◌≤◌, List, [], ◌∷◌, ◌++◌, map, take, length, get_or, refl, sym, ap, ap₂, subst, ◌∙◌, arith}
use Rattle.std.specs.Global.{Vec}
use Rattle.std.specs.List.{AllZip}
use Rattle.std.proofs.lemmas.List.{length-map, map-append}
use Rattle.std.proofs.lemmas.Simd.{map-map}
use Rattle.algebra.specs.Fraction.{Fraction}
use Rattle.polynomials.specs.Terms.{Terms}
use Rattle.machines.specs.Journal.{Entry, Journal, units_of}
use Rattle.rounds.specs.Analysis as analysis
use Rattle.rounds.specs.Form.{front}
use Rattle.corollaries.specs.Full.{WrittenForm, as_form}
use Rattle.coprime_base.specs.Sizes.{sizes}
use Rattle.poly.specs.Seen.{terms_each}
use Rattle.loop_model.specs.FracPoly.{FracPoly}
use Rattle.corollaries.specs.Coming.{IsGoing, Comes}
use Rattle.corollaries.specs.Rounds.{behind, OrbitBegins, ComesBehind}
use Rattle.corollaries.specs.Trace.{Results, Step, after_round}
use Rattle.corollaries.proofs.Rounds.{round_begins}
use Rattle.task_lists.specs.Images.{IsBranchIn}
use Rattle.task_lists.specs.View.{form_in, branch_in, round_in}
use Rattle.task_lists.specs.declared.parts.FullBranch.{FullBranch}
use Rattle.task_lists.specs.declared.parts.FullForm.{FullForm}
use Rattle.std.specs.Prelude.{vec_len}
use Rattle.invariant_fix.specs.declared.branches.Branch.{Branch}
use Rattle.invariant_fix.specs.Steps.{Follow}
use Rattle.invariant_fix.specs.declared.setting.Setting.{Setting}
use Rattle.full_trace.specs.declared.round_in_work.RoundInWork.{RoundInWork}
use Rattle.full_trace.specs.Tasks.{written_of, IsSettingIn, Knows, IsInWork, given_in, after_row, after_rows, fronts_of, IsBranchOver, AreBranchesOver}
use Rattle.full_trace.proofs.FormsMade.{base_size}

-- ---- the list behind branches
pub row_pushed : (gs : Vec FracPoly) (bs : List FullBranch) (b : FullBranch)
    → after_row gs (bs ++ b ∷ []) ≡ given_in b
unfolding after_row
row_pushed gs [] b = refl
row_pushed gs (x ∷ bs) b = row_pushed (given_in x) bs b

row_at : (gs : Vec FracPoly) (bs : List FullBranch) (b : FullBranch) (j : ℕ) → suc j ≡ length bs
    → b ≡ get_or bs j b → after_row gs bs ≡ given_in b
unfolding after_row
row_at gs [] b j l e = absurd (omega (arith, l))
row_at gs (x ∷ []) b zero l e = ap given_in (sym e)
row_at gs (x ∷ []) b (suc j) l e = absurd (omega (arith, l))
row_at gs (x ∷ y ∷ bs) b zero l e = absurd (omega (arith, l))
row_at gs (x ∷ y ∷ bs) b (suc j) l e = row_at (given_in x) (y ∷ bs) b j (omega (arith, l)) e

pub row_last : (gs : Vec FracPoly) (bs : List FullBranch) {b : FullBranch} (j : ℕ)
    → j + 1 ≡ length bs → b ≡ get_or bs j b → after_row gs bs ≡ given_in b
row_last gs bs {b = b} j l e = row_at gs bs b j (omega (arith, l)) e

pub rows_pushed : (gs : Vec FracPoly) (rows : List (Vec FullBranch)) (row : Vec FullBranch)
    → after_rows gs (rows ++ row ∷ []) ≡ after_row (after_rows gs rows) row.items
unfolding after_rows
rows_pushed gs [] row = refl
rows_pushed gs (x ∷ rows) row = rows_pushed (after_row gs x.items) rows row

pub rows_none : (gs : Vec FracPoly) (rows : List (Vec FullBranch)) → length rows ≡ 0
    → gs ≡ after_rows gs rows
unfolding after_rows
rows_none gs [] e = refl
rows_none gs (x ∷ rows) e = absurd (omega (arith, e))

rows_at : (gs : Vec FracPoly) (rows : List (Vec FullBranch)) (row : Vec FullBranch) (i : ℕ)
    → suc i ≡ length rows → row ≡ get_or rows i row → (b : FullBranch) (j : ℕ)
    → j + 1 ≡ length row.items → b ≡ get_or row.items j b → after_rows gs rows ≡ given_in b
unfolding after_rows
rows_at gs [] row i l e b j k f = absurd (omega (arith, l))
rows_at gs (x ∷ []) row zero l e b j k f =
    ap (λ (r : Vec FullBranch). after_row gs r.items) (sym e) ∙ row_last gs row.items j k f
rows_at gs (x ∷ []) row (suc i) l e b j k f = absurd (omega (arith, l))
rows_at gs (x ∷ y ∷ rows) row zero l e b j k f = absurd (omega (arith, l))
rows_at gs (x ∷ y ∷ rows) row (suc i) l e b j k f =
    rows_at (after_row gs x.items) (y ∷ rows) row i (omega (arith, l)) e b j k f

pub rows_last : (gs : Vec FracPoly) (rows : List (Vec FullBranch)) (row : Vec FullBranch) (i : ℕ)
    → i + 1 ≡ length rows → row ≡ get_or rows i row → (b : FullBranch) (j : ℕ)
    → j + 1 ≡ length row.items → b ≡ get_or row.items j b → after_rows gs rows ≡ given_in b
rows_last gs rows row i l e b j k f = rows_at gs rows row i (omega (arith, l)) e b j k f

-- ---- variables and orders
one_more : (m : ℕ) (ks : List ℕ) (bs : List FullBranch) (b : FullBranch)
    → length bs < length ks → AreBranchesOver m (take (length bs) ks) bs
    → IsBranchOver m (get_or ks (length bs) 0) b
    → AreBranchesOver m (take (suc (length bs)) ks) (bs ++ b ∷ [])
one_more m [] bs b l a o = absurd (omega (arith, l))
one_more m (k ∷ ks) [] b l a o = (o, tt)
one_more m (k ∷ ks) (x ∷ bs) b l a o = (a.0, one_more m ks bs b (omega (arith, l)) a.1 o)

pub branch_pushed : (m : ℕ) (ks : List ℕ) (bs : List FullBranch) (b : FullBranch) (p : ℕ)
    → length bs ≡ p → p < length ks → AreBranchesOver m (take p ks) bs
    → IsBranchOver m (get_or ks p 0) b → AreBranchesOver m (take (p + 1) ks) (bs ++ b ∷ [])
branch_pushed m ks bs b p is l a o =
    let more : suc (length bs) ≡ p + 1 = omega (arith, is) in
    subst (λ n. AreBranchesOver m (take n ks) (bs ++ b ∷ [])) more
    (one_more m ks bs b (omega (arith, is, l))
    (subst (λ n. AreBranchesOver m (take n ks) bs) (sym is) a)
    (subst (λ n. IsBranchOver m (get_or ks n 0) b) (sym is) o))

pub zip_forms : (m : ℕ) (fs : List FullForm) (bs : List FullBranch)
    → AreBranchesOver m (map (λ (f : FullForm). front (vec_len f.base)) fs) bs
    → AllZip (IsBranchIn m) fs bs
zip_forms m [] [] a = tt
zip_forms m [] (b ∷ bs) a = absurd a
zip_forms m (f ∷ fs) [] a = absurd a
zip_forms m (f ∷ fs) (b ∷ bs) a =
    (record { orbit = a.0.orbit; meet = a.0.meet }, zip_forms m fs bs a.1)

-- ---- the setting
pub fronts_count : (s : Setting) → length (fronts_of s) ≡ length s.branches.items
fronts_count s = length-map s.branches.items
    (λ (c : Branch). front (length (sizes c.form.base.items)))

module _ {s : Setting} (A : analysis.Setting) (i : IsSettingIn s A) where
  pub forms_count : length A.forms ≡ length s.branches.items
  forms_count = ap length i.forms
      ∙ length-map s.branches.items (λ (c : Branch). as_form (written_of c.form))

  pub place_inside : (p : ℕ) → p < length s.branches.items → p < length A.forms
  place_inside p l = let n = forms_count in omega (arith, n, l)

  pub none_left : (p : ℕ) → length s.branches.items ≤ p → length A.forms ≤ p
  none_left p l = let n = forms_count in omega (arith, n, l)

pub knows_later : {s : Setting} {before : Journal} (after : Journal) {gs : List FracPoly}
    → units_of before.entries ≤ units_of after.entries → Knows s before gs → Knows s after gs
knows_later after l k = record {
  over = k.over;
  few = (let f = k.few in omega (arith, f, l));
}

pub in_work_later : {w : RoundInWork} {before after : Journal} → IsInWork w before
    → Follow before after → IsInWork w after
in_work_later {w} {before} {after} h l = record {
  fits = h.fits;
  basis = knows_later after l h.basis;
}

-- ---- refusals
pub lost : (A : analysis.Setting) (R : ℕ) {es : List Entry} (step : Step) → Comes A R es step
    → IsGoing A R es
lost A R step c = record { state = c.state; run = c.run }

-- ---- from round to round
module _ (A : analysis.Setting) (R : ℕ) (start : Vec FracPoly)
    (links : List (List (Terms Fraction))) (found : List (Vec FullBranch)) {basis : Vec FracPoly}
    (basis_is : basis ≡ after_rows start found) (k : ℕ) where
  abbrev pub Behind : List (Vec FullBranch) → ℕ → List Entry → Type 0
  Behind rows n es = Comes A R es (after_round A R
      (behind (terms_each start.items) links (map round_in rows)) n
      (terms_each (after_rows start rows).items))

  abbrev pub so_far : Results
  so_far = behind (terms_each start.items) links (map round_in found)

  pub round_due : k < R → {es : List Entry} → Behind found k es
      → OrbitBegins A R so_far es (k + 1) 0 (terms_each basis.items) []
  round_due l {es = es} c =
      let more : suc k ≡ k + 1 = omega arith in
      subst (λ n. OrbitBegins A R so_far es n 0 (terms_each basis.items) []) more
      (subst (λ (v : Vec FracPoly). OrbitBegins A R so_far es (suc k) 0 (terms_each v.items) [])
      (sym basis_is) (round_begins A R so_far es k _ l c))

  module _ (row : Vec FullBranch) (news : List (Vec FullBranch)) (push : news ≡ found ++ row ∷ [])
    where
      list_is : after_row basis row.items ≡ after_rows start news
      list_is = ap (λ (v : Vec FracPoly). after_row v row.items) basis_is
          ∙ sym (rows_pushed start found row) ∙ sym (ap (after_rows start) push)

      rows_are : map round_in found ++ round_in row ∷ [] ≡ map round_in news
      rows_are = sym (map-append round_in found (row ∷ [])) ∙ sym (ap (map round_in) push)

      pub round_over : (es : List Entry) → Comes A R es (after_round A R
          (behind (terms_each start.items) links (map round_in found ++ round_in row ∷ [])) (k + 1)
          (terms_each (after_row basis row.items).items)) → Behind news (k + 1) es
      round_over es c =
          subst (λ rs. Comes A R es (after_round A R (behind (terms_each start.items) links rs)
          (k + 1) (terms_each (after_rows start news).items))) rows_are
          (subst (λ (v : Vec FracPoly). Comes A R es (after_round A R
          (behind (terms_each start.items) links (map round_in found ++ round_in row ∷ [])) (k + 1)
          (terms_each v.items))) list_is c)

pub known_over : (s : Setting) (j : Journal) (start : Vec FracPoly)
    (found : List (Vec FullBranch)) (basis : Vec FracPoly) → basis ≡ after_rows start found
    → (row : Vec FullBranch) (news : List (Vec FullBranch)) → news ≡ found ++ row ∷ []
    → Knows s j (after_row basis row.items).items → Knows s j (after_rows start news).items
known_over s j start found basis is row news push h =
    subst (λ (v : Vec FracPoly). Knows s j v.items)
    (ap (λ (v : Vec FracPoly). after_row v row.items) is ∙ sym (rows_pushed start found row)
    ∙ sym (ap (after_rows start) push)) h

-- ---- from branch to branch
module _ (A : analysis.Setting) (R : ℕ) (d : Results) (k : ℕ) (basis : Vec FracPoly)
    (es : List Entry) where
  abbrev pub Branches : List FullBranch → ℕ → Type 0
  Branches bs p = ComesBehind A R d es k p (terms_each basis.items) (map branch_in bs)
      (terms_each (after_row basis bs).items)

  pub first_done : (b : FullBranch) (news : List FullBranch) → news ≡ b ∷ []
      → ComesBehind A R d es k 1 (terms_each basis.items) (branch_in b ∷ [])
      (terms_each (given_in b).items) → Branches news 1
  first_done b news e c = subst (λ bs. Branches bs 1) (sym e)
      (subst (λ (v : Vec FracPoly). ComesBehind A R d es k 1 (terms_each basis.items)
      (branch_in b ∷ []) (terms_each v.items)) (sym (row_pushed basis [] b)) c)

  pub branch_done : (bs : List FullBranch) (p : ℕ) (b : FullBranch) (news : List FullBranch)
      → news ≡ bs ++ b ∷ []
      → ComesBehind A R d es k p (terms_each basis.items) (map branch_in bs ++ branch_in b ∷ [])
      (terms_each (given_in b).items) → Branches news p
  branch_done bs p b news e c = subst (λ cs. Branches cs p) (sym e)
      (subst (λ xs. ComesBehind A R d es k p (terms_each basis.items) xs
      (terms_each (after_row basis (bs ++ b ∷ [])).items))
      (sym (map-append branch_in bs (b ∷ [])))
      (subst (λ (v : Vec FracPoly). ComesBehind A R d es k p (terms_each basis.items)
      (map branch_in bs ++ branch_in b ∷ []) (terms_each v.items))
      (sym (row_pushed basis bs b)) c))

pub known_row : (s : Setting) {j : Journal} (basis : Vec FracPoly) (bs : List FullBranch)
    (b : FullBranch) (news : List FullBranch)
    → news ≡ bs ++ b ∷ [] → Knows s j (given_in b).items → Knows s j (after_row basis news).items
known_row s {j = j} basis bs b news e h = subst (λ (v : Vec FracPoly). Knows s j v.items)
    (sym (ap (after_row basis) e ∙ row_pushed basis bs b)) h

-- ---- where a list is borrowed
pub branch_due : (A : analysis.Setting) (R : ℕ) (d : Results) (k : ℕ) {p : ℕ} (basis : Vec FracPoly)
    {es : List Entry} (bs : List FullBranch) {qs : List FracPoly}
    → qs ≡ (after_row basis bs).items → Branches A R d k basis es bs p
    → ComesBehind A R d es k p (terms_each basis.items) (map branch_in bs) (terms_each qs)
branch_due A R d k {p = p} basis {es = es} bs qs_is c =
    subst (λ us. ComesBehind A R d es k p (terms_each basis.items) (map branch_in bs)
    (terms_each us)) (sym qs_is) c

pub rounds_begun : (A : analysis.Setting) (R : ℕ) (start : Vec FracPoly)
    (links : List (List (Terms Fraction))) {es : List Entry} {rows : List (Vec FullBranch)}
    → rows ≡ []
    → Comes A R es (after_round A R (behind (terms_each start.items) links []) 0
    (terms_each start.items))
    → Comes A R es (after_round A R (behind (terms_each start.items) links (map round_in rows)) 0
    (terms_each (after_rows start rows).items))
unfolding after_rows
rounds_begun A R start links {es = es} none c =
    subst (λ rs. Comes A R es (after_round A R
    (behind (terms_each start.items) links (map round_in rs)) 0
    (terms_each (after_rows start rs).items))) (sym none) c

pub known_begun : (s : Setting) (j : Journal) (start : Vec FracPoly)
    (rows : List (Vec FullBranch)) → rows ≡ [] → Knows s j start.items
    → Knows s j (after_rows start rows).items
known_begun s j start rows none h = subst (λ (v : Vec FracPoly). Knows s j v.items)
    (rows_none start rows (ap length none)) h

-- ---- the fronts of the forms
front_sizes : (fs : List FullForm) → map (λ (f : FullForm). front (length (sizes f.base.items))) fs
    ≡ map (λ (f : FullForm). front (vec_len f.base)) fs
front_sizes [] = refl
front_sizes (f ∷ fs) = ap₂ (λ (k : ℕ) (ks : List ℕ). front k ∷ ks) (base_size f.base)
    (front_sizes fs)

pub fronts_are : (s : Setting) (fs : List FullForm)
    → map form_in fs ≡ map (λ (c : Branch). written_of c.form) s.branches.items
    → fronts_of s ≡ map (λ (f : FullForm). front (vec_len f.base)) fs
fronts_are s fs same =
    sym (map-map (λ (f : WrittenForm). front (length f.base)) (λ (c : Branch). written_of c.form)
    s.branches.items)
    ∙ ap (map (λ (f : WrittenForm). front (length f.base))) (sym same)
    ∙ map-map (λ (f : WrittenForm). front (length f.base)) form_in fs ∙ front_sizes fs
