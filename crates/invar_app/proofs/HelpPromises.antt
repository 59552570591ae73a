-- What `help` promises of a page, from the outcome of its course.
--   settled      its answer is settled
--   helps        the clauses;  ends_else: it ends with no other status than those of its clause
use Rattle.std.proofs.Common.{◌≡◌, ◌≢◌, ◌∙◌, ap, arith, length, inl, inr, sym}
use Rattle.std.specs.Prelude.{◌⊎◌, Option, Some, None, IfSome, unwrap_or}
use Rattle.std.proofs.lemmas.List.{append-nil}
use Rattle.io_edge.specs.Bytes.{with_more}
use Rattle.io_edge.specs.declared.answer.Status.{Status}
use Rattle.io_edge.specs.declared.answer.Status.TheVariants as status
use Rattle.io_edge.specs.Texts.{Answer, memory_answer}
use Rattle.io_edge.specs.Settled.{IsSettled}
use Rattle.io_edge.specs.Course.{EachAnswer}
use Rattle.io_edge.specs.Delivery.{Delivers}
use Rattle.io_edge.specs.Outcome.{Call, IsCarriedOut}
use Rattle.io_edge.proofs.OfStatuses.{settled_yes, status_of, text_of}
use Rattle.invar_app.specs.declared.pages.Page.{Page}
use Rattle.invar_app.specs.HelpPages as pages
use Rattle.invar_app.specs.HelpClauses.{course, page_answer, Helps}

module _ (page : Page) where
  pub settled : EachAnswer (λ a. IsSettled a.status) (course page)
  settled = λ m a is. settled_yes a.status (status_of is)

  abbrev Shows : Call → Type 0
  Shows call = ((call.status ≡ status.Yes)
      × (call.sink.after.taken ≡ with_more call.sink.before.taken (pages.text_of page)))
      ⊎ ((call.status ≡ status.Memory) ⊎ (call.status ≡ status.WriteFault))

  shown : (call : Call) (answer : Option Answer) → IfSome answer (λ a. a ≡ page_answer page)
      → Delivers call.sink (unwrap_or answer memory_answer) call.status → Shows call
  shown call (Some a) is (inl all) =
      inl (all.same ∙ status_of is, all.whole ∙ ap (with_more call.sink.before.taken) (text_of is))
  shown call None is (inl all) = inr (inl all.same)
  shown call answer is (inr cut) = inr (inr cut.told)

  pub helps : (call : Call) → IsCarriedOut (course page) call → Helps page call
  helps call f =
      let tried = f.says.tried in
      let none = ap length f.says.are_told in
      record {
        shows = shown call f.answer f.says.answers f.delivers;
        unread = f.says.added ∙ append-nil call.files.before.reads;
        untried = omega (arith, tried, none);
        untouched = elim f.says.keeps [ inl same ↦ same | inr left ↦ absurd left ];
      }

  pub ends_else : (call : Call) → IsCarriedOut (course page) call → (s : Status) → call.status ≡ s
      → status.Yes ≢ s → status.Memory ≢ s → status.WriteFault ≢ s → ⊥
  ends_else call f s is not_yes not_memory not_write = elim (helps call f).shows [
    | inl all ↦ not_yes (sym all.0 ∙ is)
    | inr (inl told) ↦ not_memory (sym told ∙ is)
    | inr (inr cut) ↦ not_write (sym cut ∙ is)
  ]
