use Rattle.std.proofs.Common.{◌≡◌, refl, sym, inl}
use Rattle.io_edge.specs.Change.{◌⟶◌}
use Rattle.io_edge.proofs.Going.{obeys, obeys_nothing, at_end, replied}
use Rattle.invar_app.specs.HelpClauses.{course, page_answer}
use Rattle.invar_app.proofs.pages.show.Goals as goal

pub returns-in-Some : goal.returns-in-Some
returns-in-Some c = λ files m.
    let page = c.in-Some.page in
    obeys course c.args.request page (files ⟶ files) (m ⟶ m) c.answer.result c.reply.result
    (sym c.in-Some.is)
    (at_end (files ⟶ files) (λ m. ⊥) (λ m a. a ≡ page_answer page) m m _ refl refl (inl refl)
    (replied c.answer.result (λ a. a ≡ page_answer page) c.answer.ensures))
    c.reply.ensures

pub returns-in-None : goal.returns-in-None
returns-in-None c = λ files m.
    obeys_nothing course c.args.request (files ⟶ files) m (sym c.in-None.is) refl refl
