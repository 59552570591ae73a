-- Answers to `gen`.
--   refusal_given      a loop that has no basis
--   unanalysed_for     one of the family;  next_for: one that has a basis
--   Tally              the counts of so many loops, and the meter that the last of them left
--   one_more           the counts with the next loop
--   kept_more          the meter behind the next loop
--   stops_here         the answer where the next loop has no basis;  told_all: where all have one
--   few_loops          they are as many as the program can count
--   loop_read          the text of a loop;  without_fault: which has no fault;  at_refusal: a refusal that is there
use Rattle.std.proofs.Common.{◌≡◌, ℕ, suc, ◌<◌, List, refl, sym, ap, subst, ◌∙◌, Result, Ok, Err, inl, inr, arith, w32, Fits}
use Rattle.std.specs.Prelude.{◌⊎◌, ◌≤◌, Option, Some, None, option_map, IfOk, IfSome, IsNone}
use Rattle.std.specs.declared.alloc.AllocError.{AllocError}
use Rattle.machines.specs.Journal.{Journal}
use Rattle.loops.specs.Program.{Expr, Program}
use Rattle.poly_text.specs.Faults.{fault_of}
use Rattle.poly_text.specs.Reasons.{Fault}
use Rattle.poly_text.specs.declared.error.TextError.{TextError}
use Rattle.loop_text.specs.LoopReader.{loop_of}
use Rattle.loop_text.specs.Seen.{loop_or_fault}
use Rattle.loop_text.proofs.FamilyTexts.{texts_read}
use Rattle.loop_text.specs.Family.{Counts, loop_text, summary, most_loops}
use Rattle.invariant_fix.specs.Refusals.{IsRefused}
use Rattle.invariant_fix.specs.declared.errors.AnalyseError.{AnalyseError}
use Rattle.command_parts.specs.Numerals.{usual_budget}
use Rattle.io_edge.specs.declared.answer.Answer as made
use Rattle.io_edge.specs.declared.answer.Status.TheVariants as status
use Rattle.io_edge.specs.Texts.{Answer, with_text}
use Rattle.io_edge.specs.Views.{answer_view}
use Rattle.io_edge.proofs.OfStatuses.{status_of, text_of}
use Rattle.analysis_commands.specs.RefusalTexts.{refusal_answer}
use Rattle.analysis_commands.specs.Analyses.{empty_journal, AnswersRefusal}
use Rattle.analysis_commands.specs.Causes.{IsUnanalysed}
use Rattle.analysis_commands.specs.Counting.{IsCounted, IsNext, AreCounted, HasOpenedFor, HasCounted, AnswersFamily}

pub refusal_given : (l : Program (Expr ℕ)) (budget : ℕ) (before m : Journal) (names : List (List ℕ))
    (e : AnalyseError) (a : Answer) → budget ≡ usual_budget → before ≡ empty_journal budget
    → m.limit ≡ before.limit → names ≡ l.names → IsRefused l before m e
    → refusal_answer names budget e ≡ Some a → AnswersRefusal l usual_budget m a
refusal_given l budget before m names e a usual is kept same cause says =
    subst (λ n. AnswersRefusal l n m a) usual (record {
      error = e;
      ends = (kept ∙ ap (λ (j : Journal). j.limit) is, subst (λ j. IsRefused l j m e) is cause);
      says = subst (λ ns. refusal_answer ns budget e ≡ Some a) same says;
    })

pub unanalysed_for : (j : ℕ) (l : Program (Expr ℕ)) (m : Journal)
    (r : Result (Option made.Answer) AllocError) → Ok l ≡ loop_of (loop_text j)
    → IfOk r (λ o. IfSome o (λ a. AnswersRefusal l usual_budget m (answer_view a)))
    → IfOk r (λ o. IfSome o (λ a. IsUnanalysed (loop_text j) usual_budget m (answer_view a)))
unanalysed_for j l m (Ok None) e h = tt
unanalysed_for j l m (Ok (Some a)) e h = record { loop = l; is_loop = sym e; refused = h }
unanalysed_for j l m (Err x) e h = tt

pub next_for : (j : ℕ) (l : Program (Expr ℕ)) (m : Journal) (c c' : Counts)
    (r : Result (Option made.Answer) AllocError) → Ok l ≡ loop_of (loop_text j)
    → IfOk r (λ o. IsNone o → IsCounted l m c c') → IfOk r (λ o. IsNone o → IsNext j m c c')
next_for j l m c c' (Ok o) e h = λ none. record { loop = l; is_loop = sym e; counted = h none }
next_for j l m c c' (Err x) e h = tt

pub record Tally (n place : ℕ) (first m : Journal) (c : Counts) : Type 0 where
  pub loops : c.loops ≡ place
  pub counted : AreCounted place m c
  pub kept : (m ≡ first) ⊎ HasCounted n m

-- one loop further
module _ (n place k : ℕ) (further : k ≡ suc place) (first m m' : Journal) (within : place < n) where
  pub kept_more : (m ≡ first) ⊎ HasCounted n m → (m' ≡ m) ⊎ HasOpenedFor k m'
      → (m' ≡ first) ⊎ HasCounted n m'
  kept_more (inl e) (inl e') = inl (e' ∙ e)
  kept_more (inr h) (inl e') = inr (subst (HasCounted n) (sym e') h)
  kept_more kept (inr h) = inr (record {
    place = place;
    within = within;
    opened = subst (λ j. HasOpenedFor j m') further h;
  })

  pub one_more : (c c' : Counts) → Tally n place first m c → IsNext k m' c c'
      → (m' ≡ m) ⊎ HasOpenedFor k m' → Tally n k first m' c'
  one_more c c' h next kept =
      subst (λ j. Tally n j first m' c') (sym further) (record {
        loops = ap (λ (x : Counts). x.loops) next.counted.adds ∙ ap (λ j. suc j) h.loops;
        counted = (c, m, h.counted, subst (λ j. IsNext j m' c c') further next);
        kept = kept_more h.kept kept;
      })

  pub stops_here : (c : Counts) (a : Answer) → Tally n place first m c
      → IsUnanalysed (loop_text k) usual_budget m' a → AnswersFamily n m' a
  stops_here c a h refused = inr (record {
    place = place;
    within = within;
    counts = c;
    last = m;
    counted = h.counted;
    refused = subst (λ j. IsUnanalysed (loop_text j) usual_budget m' a) further refused;
  })

pub told_all : (n place : ℕ) (first m : Journal) (c : Counts) (a : Answer) → place ≡ n
    → Tally n place first m c → a ≡ with_text status.Yes (summary c) → AnswersFamily n m a
told_all n place first m c a e h says = inl (
  status_of says,
  record { counts = c; counted = subst (λ k. AreCounted k m c) e h.counted; says = text_of says },
)

pub few_loops : (place n : ℕ) (c : Counts) → c.loops ≡ place → place < n → Fits w32 n
    → c.loops < most_loops
few_loops place n c same within fits = omega (arith, same, within, fits)

pub loop_read : (l : Program (Expr ℕ)) (bytes text : List ℕ) → Ok l ≡ loop_of bytes → bytes ≡ text
    → Ok l ≡ loop_of text
loop_read l bytes text is same = is ∙ ap loop_of same

-- the text of a loop of the family has no fault
pub without_fault : (e : TextError) (bytes : List ℕ) (number : ℕ) → number ≤ most_loops
    → IfSome (loop_or_fault (Err e)) (λ r. r ≡ loop_of bytes) → bytes ≡ loop_text number
    → IsNone (fault_of e)
without_fault e bytes number few says same = go (fault_of e) says
  where
    go : (o : Option Fault) → IfSome (option_map Err o) (λ r. r ≡ loop_of bytes) → IsNone o
    go None h = refl
    go (Some f) h =
        let read = texts_read number few in
        let both : ◌≡◌ {A = Result (Program (Expr ℕ)) Fault} (Err f) (Ok read.0) =
        h ∙ ap loop_of same ∙ read.1 in absurd (cc)

pub at_refusal : (P : made.Answer → Type 0) (o : Option made.Answer) (a : made.Answer) → o ≡ Some a
    → IfSome o P → P a
at_refusal P None a is h = absurd (cc)
at_refusal P (Some b) a is h = let same : b ≡ a = cc in subst P same h
