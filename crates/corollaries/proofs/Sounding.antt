-- What the rounds of a trace generate: just the invariants of their level.
--   branches_sound, rounds_sound
use Rattle.std.proofs.Common.{◌≡◌, ℕ, suc, pred, ◌<◌, List, [], length, map, None, sym, ap, subst, arith}
use Rattle.algebra.specs.Fraction.{Fraction}
use Rattle.polynomials.specs.Terms.{Terms}
use Rattle.loops.specs.Program.{Expr, Program}
use Rattle.loops.specs.WellFormed.{IsWellFormed}
use Rattle.rounds.specs.Analysis.{Setting, Work, starts, orbit, meet, block, form_of, starting}
use Rattle.rounds.specs.Form.{Form}
use Rattle.rounds.specs.Generate.{Generates}
use Rattle.rounds.specs.Journal.{setting_of, AreForms}
use Rattle.rounds.specs.Orbit.{IsEliminated}
use Rattle.rounds.specs.Results.{IsReducedList, IsOverWork, IsBranch, Laws, orbit_iterations}
use Rattle.rounds.specs.Round as rounds
use Rattle.rounds.specs.Round.{IsOrbitAt, IsSoFar}
use Rattle.rounds.specs.Word.{LettersTo, AtMost, UpTo, Stays, IsZeroAtStarts}
use Rattle.rounds.proofs.Lawful.{lawful}
use Rattle.rounds.proofs.Parts.{later_iterations, first_so_far, met_orbit, to_next_branch}
use Rattle.rounds.proofs.Round.{so_far_generates, round_generates}
use Rattle.rounds.proofs.Start.{start_list_generates}
use Rattle.rounds.proofs.Word.{level_of_letters, letters_of_level}
use Rattle.corollaries.specs.Stage.{Stage}
use Rattle.corollaries.specs.Full.{BranchStages, WrittenForm, as_form}
use Rattle.corollaries.proofs.WrittenForms.{form_is}
use Rattle.corollaries.proofs.Following.{WorkDone, Branches, first, further, Rounds, none, more, Started}
use Rattle.corollaries.proofs.Works.{work_ends, work_list}
use Rattle.corollaries.specs.Trace.{Results}

module _ {At : Type 0} (program : Program (Expr At)) (w : IsWellFormed program)
    (written : List WrittenForm) (are : AreForms program (map as_form written)) where
  abbrev forms : List Form
  forms = map as_form written

  abbrev pub A : Setting
  A = setting_of program (map as_form written) None

  since_is : (b : ℕ) → (form_of (setting_of program (map as_form written) None) b).since ≡ 0
  since_is b = ap (λ (f : Form). f.since) (form_is written b)

  abbrev m : ℕ
  m = length program.names

  abbrev I : Terms Fraction → Type 0
  I = IsZeroAtStarts program

  laws : Laws program (setting_of program (map as_form written) None)
  laws = lawful program None (map as_form written) None are

  -- ---- what a task gives
  pub work_reduces : (w : Work) → IsBranch program w → IsOverWork (length program.names) w
      → (s : Stage) → WorkDone A w s → IsReducedList (length program.names) s.out
  work_reduces w b o s x = subst (IsReducedList m) (work_list A w s x)
      (laws.reduces w b o (work_ends A w s x))

  pub work_eliminates : (w : Work) → IsBranch program w → IsOverWork (length program.names) w
      → (s : Stage) → WorkDone A w s
      → IsEliminated (block A w) (length program.names) (starting A w) s.out
  work_eliminates w b o s x = subst (IsEliminated (block A w) m (starting A w)) (work_list A w s x)
      (laws.eliminates w b o (work_ends A w s x))

  -- ---- the start
  pub start_reduced : (s : Stage) → WorkDone A starts s → IsReducedList m s.out
  start_reduced s x = work_reduces starts tt tt s x

  start_generates : (s : Stage) → WorkDone A starts s
      → Generates m s.out (Stays program I (AtMost 0))
  unfolding block
  start_generates s x =
      let e : IsEliminated 0 m (starting A starts) s.out = work_eliminates starts tt tt s x in
      let l = start_list_generates program w in
      round_generates program I w.some_branch 0 s.out (rounds.start s.out (record {
        arities = e.arities;
        only = λ p a i. l.only p a ((laws.start_members p a).0 (e.only p a i));
        all = λ p a h. e.all p a ((laws.start_members p a).1 (l.all p a h));
      }))

  -- ---- the branches of a round
  pub record Sound (gs : List (Terms Fraction)) (b : ℕ) (hs : List (Terms Fraction)) : Type 0 where
    pub reduced : IsReducedList m hs
    pub so_far : IsSoFar program gs (suc b) hs

  orbit_is : (k b : ℕ) (gs so_far : List (Terms Fraction)) (s : Stage) → IsReducedList m gs
      → b < length program.branches → WorkDone A (orbit k b gs so_far) s
      → IsOrbitAt program gs (suc b) (orbit_iterations 0) s.out
  orbit_is k b gs so_far s r l x =
      subst (λ d. IsOrbitAt program gs (suc b) (orbit_iterations d) s.out) (since_is b)
      (laws.orbits k b gs so_far s.out r l (work_eliminates (orbit k b gs so_far) l r s x))

  pub orbit_reduced : (k b : ℕ) (gs so_far : List (Terms Fraction)) (s : Stage) → IsReducedList m gs
      → b < length program.branches → WorkDone A (orbit k b gs so_far) s → IsReducedList m s.out
  orbit_reduced k b gs so_far s r l x = work_reduces (orbit k b gs so_far) l r s x

  pub branches_sound : (k : ℕ) (gs : List (Terms Fraction)) → IsReducedList m gs
      → (bs : List BranchStages) (b : ℕ) (hs : List (Terms Fraction)) → b < length program.branches
      → Branches A k gs bs b hs → Sound gs b hs
  unfolding block starting
  branches_sound k gs r _ _ _ l (first s x) = record {
    reduced = orbit_reduced k 0 gs [] s r l x;
    so_far = first_so_far program gs s.out
        (later_iterations program gs 1 0 s.out (orbit_is k 0 gs [] s r l x));
  }
  branches_sound k gs r _ _ _ l (further bs b so_far s t before x y) =
      let ih : Sound gs b so_far = branches_sound k gs r bs b so_far (omega (arith, l)) before in
      let rs : IsReducedList m s.out = orbit_reduced k (suc b) gs so_far s r l x in
      let e : IsEliminated 1 m (starting A (meet k (suc b) gs so_far s.out)) t.out =
      work_eliminates (meet k (suc b) gs so_far s.out) tt (ih.reduced, rs) t y in
      record {
        reduced = work_reduces (meet k (suc b) gs so_far s.out) tt (ih.reduced, rs) t y;
        so_far = met_orbit program gs (suc b) 0 so_far s.out t.out
            (to_next_branch program gs b so_far ih.so_far)
            (later_iterations program gs (suc (suc b)) 0 s.out (orbit_is k (suc b) gs so_far s r l
            x))
            (record {
              arities = e.arities;
              only = λ p a i. (laws.meets so_far s.out ih.reduced rs p a).0 (e.only p a i);
              all = λ p a h. e.all p a ((laws.meets so_far s.out ih.reduced rs p a).1 h);
            });
      }

  -- ---- rounds
  pub record Level (k : ℕ) (gs : List (Terms Fraction)) : Type 0 where
    pub reduced : IsReducedList m gs
    pub generates : Generates m gs (Stays program (IsZeroAtStarts program) (AtMost k))

  next_level : (k : ℕ) (gs hs : List (Terms Fraction)) (bs : List BranchStages) → Level k gs
      → Branches A (suc k) gs bs (pred (length forms)) hs → Level (suc k) hs
  next_level k gs hs bs l x =
      let some : 0 < length program.branches = w.some_branch in
      let count : length forms ≡ length program.branches = are.count in
      let s : Sound gs (pred (length forms)) hs = branches_sound (suc k) gs l.reduced bs
      (pred (length forms)) hs (omega (arith, some, count)) x in
      let all : IsSoFar program gs (length program.branches) hs =
      subst (λ j. IsSoFar program gs j hs) (let e : suc (pred (length forms))
      ≡ length program.branches = omega (arith, some, count) in e) s.so_far in
      let h : Generates m hs (Stays program I (UpTo k (length program.branches))) =
      so_far_generates program I k gs l.generates (length program.branches) hs (omega arith)
      all in
      record {
        reduced = s.reduced;
        generates = record {
          arities = h.arities;
          only = λ p a i. level_of_letters program I k p some (h.only p a i);
          all = λ p a z. h.all p a (letters_of_level program I k
              (LettersTo (length program.branches)) p z);
        };
      }

  pub rounds_sound : (f : List (Terms Fraction)) → Level 0 f
      → (rs : List (List BranchStages)) (k : ℕ) (gs : List (Terms Fraction)) → Rounds A f rs k gs
      → Level k gs
  rounds_sound f l _ _ _ none = l
  rounds_sound f l _ _ _ (more rs k gs bs hs before x) =
      next_level k gs hs bs (rounds_sound f l rs k gs before) x

  pub started_sound : (d : Results) → Started A d → Level 0 d.start_out
  started_sound d s = subst (Level 0) (sym s.out) (record {
    reduced = start_reduced s.stage s.work;
    generates = start_generates s.stage s.work;
  })
