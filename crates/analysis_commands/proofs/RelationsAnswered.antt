-- Answers to relations, from what the journal gave.
--   shown_count      as many variables are shown as there are names
--   has_related      the meter behind it
--   found_said, refused_said     what is answered to relations, and to a refusal
--   names_count, refused_named   the names are the sequences', and the variables of a refusal the loop's
use Rattle.std.proofs.Common.{◌≡◌, ℕ, List, length, sym, ap, subst, ◌∙◌, Result}
use Rattle.std.specs.Prelude.{Some, IfOk}
use Rattle.std.specs.declared.alloc.AllocError.{AllocError}
use Rattle.std.proofs.lemmas.List.{length-map}
use Rattle.std.proofs.lemmas.Result.{IfOk-weaker}
use Rattle.machines.specs.Journal.{Journal}
use Rattle.loops.specs.Program.{Expr, Program}
use Rattle.loop_model.specs.Maps.{AreFree}
use Rattle.loop_model.specs.View.{program_of}
use Rattle.loop_model.specs.FracPoly.{FracPoly}
use Rattle.poly.specs.Seen.{terms_each}
use Rattle.invariant_fix.specs.Refusals.{AllHaveForms}
use Rattle.invariant_fix.proofs.Options.{if_ok_two}
use Rattle.loops.specs.Sequences.{Sequence, sequence_names}
use Rattle.loops.specs.Turning as turning
use Rattle.loops.specs.Turning.{names, first_places}
use Rattle.loops.proofs.Relations.{length-shown}
use Rattle.loops.proofs.RecurrenceStarts.{length-names}
use Rattle.corollaries.specs.Order.{visible}
use Rattle.corollaries.specs.Journal.{IsEnded, HasFollowed}
use Rattle.corollaries.proofs.Ended.{relations_basis, relations_generate}
use Rattle.corollaries.proofs.Shown.{visible_shown}
use Rattle.invariant_fix.specs.RelationsRefusals.{IsRefused}
use Rattle.invariant_fix.specs.declared.relations_error.RelationsError.{RelationsError}
use Rattle.invariant_fix.specs.declared.relations_error.RelationsError.TheVariants.{Analysis, Wide, Budget, Memory}
use Rattle.loop_text.specs.declared.sequences.Seqs.{Seqs}
use Rattle.loop_text.specs.SequenceSeen.{IsLoopOf}
use Rattle.command_parts.specs.ReadBack.{IsReadBack}
use Rattle.io_edge.specs.declared.answer.Answer as made
use Rattle.io_edge.specs.Views.{answer_view}
use Rattle.analysis_commands.specs.Analyses.{empty_journal}
use Rattle.analysis_commands.specs.RelationsTexts.{found_answer, relations_refusal}
use Rattle.analysis_commands.specs.RelationsAnswers.{related, refused, Relates, HasRelated}
use Rattle.analysis_commands.specs.RelationsViews.{AreNamedBy}
use Rattle.analysis_commands.proofs.BasisAnswers as basis_answers

pub shown_count : (qs : List (Sequence (Expr ℕ)))
    → length (visible (length (names qs)) (first_places 0 qs)) ≡ length (sequence_names qs)
shown_count qs = ap (λ n. length (visible n (first_places 0 qs))) (length-names qs)
    ∙ ap length (visible_shown qs) ∙ length-shown 0 qs
    ∙ sym (length-map qs (λ (q : Sequence (Expr ℕ)). q.name))

module _ (s : Seqs) (places : List ℕ) (same : places ≡ s.shown.items)
    (qs : List (Sequence (Expr ℕ))) (is : IsLoopOf s qs) where
  -- what is told of the loop at the places is told of the sequences' own
  along : (P : Program (Expr ℕ) → List ℕ → Type 0) → P (program_of s.lp) places
      → P (turning.program_of qs) (first_places 0 qs)
  along P h = subst (λ js. P (turning.program_of qs) js) (same ∙ is.places)
      (subst (λ l. P l places) is.is h)

  pub names_count : length s.names ≡ length
      (visible (length (program_of s.lp).names) places)
  names_count = ap length is.names ∙ sym (shown_count qs)
      ∙ sym (ap (λ js. length (visible (length (names qs)) js)) (same ∙ is.places))
      ∙ sym (ap (λ (l : Program (Expr ℕ)). length (visible (length l.names) places)) is.is)

  module _ (budget : ℕ) (before m : Journal) (begun : before ≡ empty_journal budget)
      (kept : m.limit ≡ before.limit) where
    limit : m.limit ≡ budget
    limit = kept ∙ ap (λ (j : Journal). j.limit) begun

    pub has_related : HasFollowed (program_of s.lp) places m.entries → HasRelated qs budget m
    has_related h = record { limit = limit; follows = along (λ l js. HasFollowed l js m.entries) h }

    module _ (r : Result made.Answer AllocError) where
      pub found_said : (gs told_of : List FracPoly) → told_of ≡ gs → AreFree (program_of s.lp)
          → AllHaveForms (program_of s.lp)
          → IsEnded (program_of s.lp) places m.entries (terms_each gs)
          → IfOk r (λ a. answer_view a ≡ found_answer s.names (terms_each told_of))
          → IfOk r (λ a. IsReadBack s.names (terms_each told_of))
          → IfOk r (λ a. Relates qs budget m (answer_view a))
      found_said gs told_of all free forms ended told reads =
          let over = along (λ l js. IsEnded l js m.entries (terms_each gs)) ended in
          if_ok_two _ _ _ r (λ a says read. record {
            ending = related (terms_each gs);
            ends = (
              limit,
              record {
                formed = is.formed;
                free = subst AreFree is.is free;
                forms = subst AllHaveForms is.is forms;
                ended = over;
                basis = relations_basis qs is.formed m.entries (terms_each gs) over;
                generates = relations_generate qs is.formed m.entries (terms_each gs) over;
              },
              subst (λ ns. IsReadBack ns (terms_each gs)) is.names
                  (subst (λ ps. IsReadBack s.names (terms_each ps)) all read),
            );
            says = ap Some (sym (says ∙ ap (λ ps. found_answer s.names (terms_each ps)) all
                ∙ ap (λ ns. found_answer ns (terms_each gs)) is.names));
          }) told reads

      pub refused_said : (e : RelationsError) (ns : List (List ℕ))
          → ns ≡ (program_of s.lp).names → IsRefused (program_of s.lp) places before m e
          → IfOk r (λ a. relations_refusal ns budget e ≡ Some (answer_view a))
          → IfOk r (λ a. Relates qs budget m (answer_view a))
      refused_said e ns named cause told =
          let all : ns ≡ names qs = named ∙ ap (λ (l : Program (Expr ℕ)). l.names) is.is in
          IfOk-weaker r _ _ (λ a says. record {
            ending = refused e;
            ends = (
              limit,
              along (λ l js. IsRefused l js (empty_journal budget) m e)
                  (subst (λ j. IsRefused (program_of s.lp) places j m e) begun cause),
            );
            says = subst (λ xs. relations_refusal xs budget e ≡ Some (answer_view a)) all says;
          }) told

pub refused_named : (l : Program (Expr ℕ)) (places : List ℕ) (before m : Journal)
    (e : RelationsError) (ns : List (List ℕ)) → ns ≡ l.names → IsRefused l places before m e
    → AreNamedBy (length ns) e
refused_named l places before m (Analysis e) ns same cause =
    basis_answers.refused_named l before m e ns same cause
refused_named l places before m Wide ns same cause = tt
refused_named l places before m Budget ns same cause = tt
refused_named l places before m Memory ns same cause = tt
