-- The full certificate of an analysis and a trace, and the answers of `full` by them.
--   analysed, found_by   what an analysis has found
--   certified_said       what is answered to a trace that has ended
--   untraced_said        to one that was refused;  unanalysed_said: to an analysis that was
--   unformed_said        to a loop of which a map or a branch was refused before;  late_said: to one with a branch that begins late
--   has_opened, has_analysed, has_traced     what the meter has
use Rattle.std.proofs.Common.{◌≡◌, ◌≤◌, ℕ, List, length, map, sym, ap, subst, ◌∙◌, Ok, inl, inr, arith}
use Rattle.std.specs.Prelude.{All, Some, None, IfOk, Result, Vec}
use Rattle.std.specs.declared.alloc.AllocError.{AllocError}
use Rattle.std.specs.declared.alloc.Global.{Global}
use Rattle.std.proofs.lemmas.List.{length-map}
use Rattle.std.proofs.lemmas.List.Elements.{All-map, All-weaker}
use Rattle.std.proofs.lemmas.Result.{IfOk-weaker}
use Rattle.algebra.specs.Fraction.{Fraction}
use Rattle.polynomials.specs.Terms.{Terms}
use Rattle.machines.specs.Journal.{Journal, units_of}
use Rattle.loops.specs.Certificate.{IsValid}
use Rattle.loops.specs.Program.{Expr, Program}
use Rattle.loops.specs.WellFormed.{IsWellFormed}
use Rattle.loop_model.proofs.Formed.{formed}
use Rattle.loop_model.specs.Maps.{AreFree}
use Rattle.loop_model.specs.View.{program_of}
use Rattle.loop_model.specs.declared.loop_.Loop.{Loop}
use Rattle.poly.specs.Seen.{terms_each}
use Rattle.rounds.specs.Journal.{setting_of}
use Rattle.loop_model.specs.FracPoly.{FracPoly}
use Rattle.ideal_ops.specs.Calls.{AreOver}
use Rattle.invariant_fix.specs.Closing.{IsSquare, AreSteps, seen_steps, seen_branch_steps}
use Rattle.invariant_fix.specs.Answers.{certificate_of, IsClosedBy, IsLeastLevel}
use Rattle.invariant_fix.specs.Refusals.{AllHaveForms, HasFollowed, IfUnformedLoop, IsRefused}
use Rattle.invariant_fix.specs.declared.errors.AnalyseError.{AnalyseError}
use Rattle.invariant_fix.specs.declared.errors.AnalyseError.TheVariants as error
use Rattle.invariant_fix.specs.declared.found.Analysis.{Analysis}
use Rattle.corollaries.specs.Counts as counts
use Rattle.corollaries.specs.Counts.{IsCounted}
use Rattle.corollaries.specs.Full.{FullCertificate}
use Rattle.corollaries.specs.Parts.{AllHold}
use Rattle.corollaries.specs.Certified.{full_from}
use Rattle.corollaries.proofs.Certified.{finished_full}
use Rattle.corollaries.proofs.Counted.{finished_counted}
use Rattle.task_lists.specs.Images.{ArePolys, AreRows, AreBranchesIn, IsFormOver, IsFullIn}
use Rattle.task_lists.specs.View.{form_in, start_in, round_in, full_of}
use Rattle.task_lists.specs.declared.parts.FullBranch.{FullBranch}
use Rattle.task_lists.specs.declared.parts.FullCert.{FullCert}
use Rattle.task_lists.specs.declared.parts.FullForm.{FullForm}
use Rattle.task_lists.specs.declared.parts.FullStart.{FullStart}
use Rattle.full_cert.specs.Form.{full_in}
use Rattle.full_cert.proofs.TextBack.{text_back}
use Rattle.full_trace.specs.Late.{AllBeginAtZero, IfUntraceable}
use Rattle.full_trace.specs.declared.errors.TraceError.TheVariants as trace_error
use Rattle.full_trace.specs.Traced as trace
use Rattle.full_trace.specs.Traced.{IsTraceOf, IsTraceIn}
use Rattle.full_trace.specs.declared.found.Trace.{Trace}
use Rattle.io_edge.specs.declared.answer.Answer as made
use Rattle.io_edge.specs.Texts.{Answer}
use Rattle.io_edge.specs.Views.{answer_view}
use Rattle.analysis_commands.specs.Analyses.{empty_journal}
use Rattle.analysis_commands.specs.Headline.{IsBasisOf}
use Rattle.analysis_commands.specs.RefusalTexts.{refusal_answer}
use Rattle.certificate_commands.specs.FullCertified.{IsAnalysed, certified, first_late, unanalysed, untraced, Certifies, HasWorked}
use Rattle.certificate_commands.specs.FullMade.{IsFoundBy, IsMadeOf, IsToldAs}
use Rattle.certificate_commands.specs.FullTexts.{certificate_answer, late_answer}

abbrev Rows : Type 0
Rows = Vec (Vec FracPoly Global) Global

-- ---- the parts of the certificate
module _ (l : Program (Expr ℕ)) (budget : ℕ) (a : Analysis) (found : IsFoundBy l budget a) where
  abbrev pub analysed : IsAnalysed l budget
  analysed = record {
    free = found.free;
    forms = found.forms;
    entries = found.entries;
    rounds = a.rounds;
    list = terms_each a.basis.items;
    finished = found.closed.finished;
    few = found.few;
    least = found.least;
    short = found.closed.short;
  }

  steps_count : length (seen_steps a.steps.items) ≡ length l.branches
  steps_count = found.closed.steps.count ∙ found.closed.finished.follows.are_forms.count

  square : (rows : Rows) → IsSquare (length l.names) (length a.basis.items) rows.items
      → counts.IsSquare (length (terms_each a.basis.items)) (seen_branch_steps rows.items)
  square rows s =
      let n : length (terms_each a.basis.items) ≡ length a.basis.items =
      length-map a.basis.items _ in
      record {
        height = length-map rows.items _ ∙ s.height ∙ sym n;
        widths = All-map (λ (row : List (Terms Fraction)).
            length row ≡ length (terms_each a.basis.items))
            (λ (row : Vec FracPoly Global). terms_each row.items) rows.items
            (All-weaker (λ (row : Vec FracPoly Global). length row.items ≡ length a.basis.items)
            (λ (row : Vec FracPoly Global).
            length (terms_each row.items) ≡ length (terms_each a.basis.items))
            (λ row w. length-map row.items _ ∙ w ∙ sym n) rows.items s.widths);
      }

  squares : All (counts.IsSquare (length (terms_each a.basis.items))) (seen_steps a.steps.items)
  squares = All-map (counts.IsSquare (length (terms_each a.basis.items)))
      (λ (rows : Rows). seen_branch_steps rows.items) a.steps.items
      (All-weaker (λ (rows : Rows). IsSquare (length l.names) (length a.basis.items) rows.items)
      (λ (rows : Rows).
      counts.IsSquare (length (terms_each a.basis.items)) (seen_branch_steps rows.items))
      square a.steps.items found.squares)

  module _ (w : IsWellFormed l) (m : Journal) (t : Trace) (cert : FullCert)
      (traced : IsTraceOf l a.rounds m.entries t) (is_made : IsMadeOf a t cert) where
    pub is_whole : full_of cert ≡ full_from (terms_each a.basis.items) (seen_steps a.steps.items)
        traced.finished.follows.forms traced.given
    is_whole =
        let basis : (full_of cert).basis ≡ terms_each a.basis.items =
        ap (λ (ps : Vec FracPoly Global). terms_each ps.items) is_made.basis in
        let steps : (full_of cert).steps ≡ seen_steps a.steps.items =
        ap (λ (s : Vec Rows Global). seen_steps s.items) is_made.steps in
        let forms : (full_of cert).forms ≡ traced.finished.follows.forms =
        ap (λ (fs : Vec FullForm Global). map form_in fs.items) is_made.forms ∙ traced.forms in
        let start : start_in cert.start ≡ (traced.given.start_out, traced.given.start_links) =
        ap start_in is_made.start ∙ traced.start in
        let rounds : (full_of cert).rounds ≡ traced.given.rounds =
        ap (λ (rs : Vec (Vec FullBranch Global) Global). map round_in rs.items) is_made.rounds
        ∙ traced.rounds_are in
        λ i. record {
          basis = basis i;
          steps = steps i;
          forms = forms i;
          start_out = (start i).0;
          start_links = (start i).1;
          rounds = rounds i;
        }

    all_hold : AllHold l (full_of cert)
    all_hold = subst (AllHold l) (sym is_whole)
        (finished_full l w found.entries m.entries a.rounds (terms_each a.basis.items)
        found.closed.finished traced.given traced.finished (seen_steps a.steps.items) found.valid)

    counted : IsCounted l (full_of cert)
    counted = subst (IsCounted l) (sym is_whole)
        (finished_counted l w m.entries a.rounds (terms_each a.basis.items) traced.given
        traced.finished (seen_steps a.steps.items) steps_count squares)

    -- ---- its variables and orders
    module _ (inside : IsTraceIn (length l.names) t) where
      forms_over : All (IsFormOver (length l.names)) cert.forms.items
      forms_over = subst (λ (fs : Vec FullForm Global). All (IsFormOver (length l.names)) fs.items)
          (sym is_made.forms) inside.forms

      step_over : (rows : Rows) → IsSquare (length l.names) (length a.basis.items) rows.items
          → AreRows (length l.names) rows
      step_over rows s = s.arities

      images : IsFullIn (length l.names) cert
      images = record {
        basis = subst (λ (ps : Vec FracPoly Global). ArePolys (length l.names) ps)
            (sym is_made.basis) found.over;
        steps = subst (λ (s : Vec Rows Global). All (AreRows (length l.names)) s.items)
            (sym is_made.steps)
            (All-weaker (λ (rows : Rows).
            IsSquare (length l.names) (length a.basis.items) rows.items)
            (AreRows (length l.names)) step_over a.steps.items found.squares);
        forms = forms_over;
        out = subst (λ (s : FullStart). ArePolys (length l.names) s.out) (sym is_made.start)
            inside.out;
        links = subst (λ (s : FullStart). AreRows (length l.names) s.links) (sym is_made.start)
            inside.links;
        rounds = subst (λ (fs : Vec FullForm Global).
            All (AreBranchesIn (length l.names) fs.items) cert.rounds.items) (sym is_made.forms)
            (subst (λ (rs : Vec (Vec FullBranch Global) Global).
            All (AreBranchesIn (length l.names) t.forms.items) rs.items) (sym is_made.rounds)
            inside.rounds);
      }

    basis_is : IsBasisOf l (full_of cert).basis
    basis_is = subst (IsBasisOf l)
        (sym (ap (λ (ps : Vec FracPoly Global). terms_each ps.items) is_made.basis)) found.is_basis

    -- its cofactors are those of the divisions that closed the list
    steps_are : AreSteps (setting_of l found.closed.finished.follows.forms None)
        (terms_each a.basis.items) (full_of cert).steps
    steps_are = subst (AreSteps (setting_of l found.closed.finished.follows.forms None)
        (terms_each a.basis.items))
        (sym (ap (λ (s : Vec Rows Global). seen_steps s.items) is_made.steps)) found.closed.steps

    is_parts : full_of cert ≡ full_from (terms_each a.basis.items) (full_of cert).steps
        traced.finished.follows.forms traced.given
    is_parts =
        let steps : (full_of cert).steps ≡ seen_steps a.steps.items =
        ap (λ (s : Vec Rows Global). seen_steps s.items) is_made.steps in
        is_whole ∙ ap (λ s. full_from (terms_each a.basis.items) s traced.finished.follows.forms
        traced.given) (sym steps)

-- ---- what an analysis has found
pub found_by : (l : Program (Expr ℕ)) (budget : ℕ) (before m : Journal)
    → before ≡ empty_journal budget
    → m.limit ≡ before.limit → (a : Analysis) → AreFree l → AllHaveForms l
    → IsClosedBy l a m.entries → units_of m.entries ≤ m.limit
    → IsLeastLevel l a.rounds → IsBasisOf l (terms_each a.basis.items)
    → IsValid l (certificate_of a) → AreOver (length l.names) a.basis.items
    → All (λ (rows : Rows). IsSquare (length l.names) (length a.basis.items) rows.items)
    a.steps.items → IsFoundBy l budget a
found_by l budget before m is kept a free forms closed within least basis valid over
    squares =
    let limit : m.limit ≡ budget = kept ∙ ap (λ (j : Journal). j.limit) is in
    record {
      free = free;
      forms = forms;
      entries = m.entries;
      closed = closed;
      few = omega (arith, within, limit);
      least = least;
      is_basis = basis;
      valid = valid;
      over = over;
      squares = squares;
    }

-- ---- answers
module _ (lp : Loop) (budget : ℕ) (before m : Journal) (is : before ≡ empty_journal budget)
    (kept : m.limit ≡ before.limit) where
  abbrev l : Program (Expr ℕ)
  l = program_of lp

  limit : m.limit ≡ budget
  limit = kept ∙ ap (λ (j : Journal). j.limit) is

  pub has_analysed : HasFollowed (program_of lp) m.entries → HasWorked (program_of lp) budget m
  has_analysed follows = record { limit = limit; follows = inl follows }

  pub has_traced : (a : Analysis) → IsFoundBy (program_of lp) budget a
      → trace.HasFollowed (program_of lp) a.rounds m.entries → HasWorked (program_of lp) budget m
  has_traced a found follows = record {
    limit = limit;
    follows = inr (record { analysed = analysed l budget a found; follows = follows });
  }

  module _ (r : Result made.Answer AllocError) (names : List (List ℕ))
      (same : names ≡ (program_of lp).names) where
    certificate_said : (a : Analysis) (found : IsFoundBy l budget a) (t : Trace) (cert : FullCert)
        (traced : IsTraceOf l a.rounds m.entries t) → IsTraceIn (length l.names) t
        → IsMadeOf a t cert → (x : Answer) → IsToldAs names cert x → Certifies l budget m x
    certificate_said a found t cert traced inside is_made x told =
        let w = formed lp in
        let c : FullCertificate = full_of cert in
        let says : x ≡ certificate_answer l.names c =
        told.says ∙ ap (λ ns. certificate_answer ns c) same in
        record {
          ending = certified c;
          ends = (
            limit,
            record {
              analysed = analysed l budget a found;
              given = traced.given;
              finished = traced.finished;
              is = is_parts l budget a found w m t cert traced is_made;
              steps = steps_are l budget a found w m t cert traced is_made;
              holds = all_hold l budget a found w m t cert traced is_made;
              is_basis = basis_is l budget a found w m t cert traced is_made;
              reads_back = subst (λ (y : Answer). full_in l y.text ≡ Ok c) says
                  (text_back lp cert
                  (images l budget a found w m t cert traced is_made inside)
                  (counted l budget a found w m t cert traced is_made) names same told.narrow x.text
                  told.reads);
            },
          );
          says = ap Some (sym says);
        }

    pub certified_said : (a : Analysis) → IsFoundBy (program_of lp) budget a → (t : Trace)
        (cert : FullCert) → IsTraceOf (program_of lp) a.rounds m.entries t
        → IsTraceIn (length (program_of lp).names) t → IsMadeOf a t cert
        → IfOk r (λ x. IsToldAs names cert (answer_view x))
        → IfOk r (λ x. Certifies (program_of lp) budget m (answer_view x))
    certified_said a found t cert traced inside is_made told =
        IfOk-weaker r _ _ (λ x h. certificate_said a found t cert traced inside is_made
        (answer_view x) h) told

    pub unanalysed_said : (e : AnalyseError) → IsRefused (program_of lp) before m e
        → AllBeginAtZero (program_of lp)
        → IfOk r (λ x. refusal_answer names budget e ≡ Some (answer_view x))
        → IfOk r (λ x. Certifies (program_of lp) budget m (answer_view x))
    unanalysed_said e cause at_zero told = IfOk-weaker r _ _ (λ x says. record {
      ending = unanalysed e;
      ends = record {
        unfound = (limit, subst (λ j. IsRefused l j m e) is cause);
        before = inr at_zero;
      };
      says = subst (λ ns. refusal_answer ns budget e ≡ Some (answer_view x)) same says;
    }) told

    pub untraced_said : (a : Analysis) → IsFoundBy (program_of lp) budget a → (e : AnalyseError)
        → trace.IsStopped (program_of lp) a.rounds m e
        → IfOk r (λ x. refusal_answer names budget e ≡ Some (answer_view x))
        → IfOk r (λ x. Certifies (program_of lp) budget m (answer_view x))
    untraced_said a found e cause told = IfOk-weaker r _ _ (λ x says. record {
      ending = untraced e;
      ends = record { analysed = analysed l budget a found; limit = limit; stopped = cause };
      says = subst (λ ns. refusal_answer ns budget e ≡ Some (answer_view x)) same says;
    }) told

-- ---- before the analysis
module _ (lp : Loop) (budget : ℕ) (m : Journal) (is : m ≡ empty_journal budget) where
  pub has_opened : HasWorked (program_of lp) budget m
  has_opened = record {
    limit = ap (λ (j : Journal). j.limit) is;
    follows = inl (inl (ap (λ (j : Journal). j.entries) is));
  }

  refused_so : (e : AnalyseError) → IfUnformedLoop (program_of lp) e
      → IsRefused (program_of lp) (empty_journal budget) m e
  refused_so (error.Map e) h = (is, h)
  refused_so (error.Branch b e) h = (is, h)
  refused_so (error.Limit task) h = absurd h
  refused_so (error.Wide task) h = absurd h
  refused_so error.Budget h = absurd h
  refused_so error.Memory h = inl (ap (λ (j : Journal). j.entries) is)

  module _ (r : Result made.Answer AllocError) where
    pub unformed_said : (names : List (List ℕ)) → names ≡ (program_of lp).names → (e : AnalyseError)
        → IfUnformedLoop (program_of lp) e
        → IfOk r (λ x. refusal_answer names budget e ≡ Some (answer_view x))
        → IfOk r (λ x. Certifies (program_of lp) budget m (answer_view x))
    unformed_said names same e cause told = IfOk-weaker r _ _ (λ x says. record {
      ending = unanalysed e;
      ends = record {
        unfound = (ap (λ (j : Journal). j.limit) is, refused_so e cause);
        before = inl cause;
      };
      says = subst (λ ns. refusal_answer ns budget e ≡ Some (answer_view x)) same says;
    }) told

    pub late_said : (b : ℕ) → IfUntraceable (program_of lp) (trace_error.Late b)
        → IfOk r (λ x. answer_view x ≡ late_answer b)
        → IfOk r (λ x. Certifies (program_of lp) budget m (answer_view x))
    late_said b cause told = IfOk-weaker r _ _ (λ x says. record {
      ending = first_late b;
      ends = record { free = cause.0; forms = cause.1; first = cause.2; unbegun = is };
      says = ap Some (sym says);
    }) told
