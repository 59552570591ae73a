use Rattle.std.proofs.Common.{◌≡◌, ◌++◌, ◌∷◌, [], length, take, sym, ap, subst, ◌∙◌}
use Rattle.std.proofs.lemmas.List.{append_assoc, take_all}
use Rattle.frac128.specs.FracMeaning.{fraction_of}
use Rattle.poly.specs.View.{terms_of}
use Rattle.loop_model.proofs.Items.{in_list, item_of, past_list}
use Rattle.program_families.specs.RestRows.{monomials_in, IsSetOf}
use Rattle.program_families.proofs.RestRows.{term_long, terms_more}
use Rattle.program_families.proofs.rows.put_all.Goals as goal
use Rattle.program_families.proofs.rows.put_all.Goals.{After-term-item}

-- the term has as many exponents as the polynomial has variables
long : (c : After-term-item) → length c.term-item.result.mono ≡ c.args.polynomial.now.arity
long c =
    let ts = c.args.polynomial.now.terms.items in
    let value = c.deref-term-items.ensures.value ∙ ap (λ v. v.items) c.terms.ensures in
    term_long c.args.polynomial.now c.loop-term.term-index c.term-item.result
    (in_list ts _ value c.loop-term.term-index c.loop-term-test.true)
    (item_of ts _ value c.loop-term.term-index c.term-item.result c.term-item.is)

pub put-requires : goal.put-requires
put-requires c = record {
  long = λ k d l.
      c.loop-term.invariant.long k d l ∙ sym (long (goal.at.put-requires c).After-term-item);
}

pub loop-term-preserved : goal.loop-term-preserved
loop-term-preserved c =
    let ts = c.args.polynomial.now.terms.items in
    let i = c.loop-term.term-index in
    let value = c.deref-term-items.ensures.value ∙ ap (λ v. v.items) c.terms.ensures in
    record {
      long = λ k d l.
          c.in_ok-put.ensures.long k d l
          ∙ long (goal.at.loop-term-preserved c).After-term-item;
      set = λ ms s.
          subst (λ xs. IsSetOf xs c.put.new.monomials.items)
          (append_assoc ms (monomials_in (terms_of fraction_of (take i ts)))
          (c.term-item.result.mono ∷ [])
          ∙ ap (λ xs. ms ++ xs) (sym (terms_more ts i c.term-item.result
          (in_list ts _ value i c.loop-term-test.true)
          (item_of ts _ value i c.term-item.result c.term-item.is))))
          (c.in_ok-put.ensures.set (ms ++ monomials_in (terms_of fraction_of (take i ts)))
          (c.loop-term.invariant.set ms s));
    }

pub returns-clause-set : goal.returns-clause-set
returns-clause-set c = λ ms s.
    let ts = c.args.polynomial.now.terms.items in
    let value = c.deref-term-items.ensures.value ∙ ap (λ v. v.items) c.terms.ensures in
    subst (λ xs. IsSetOf (ms ++ monomials_in (terms_of fraction_of xs))
    c.loop-term.monomials.items)
    (take_all c.loop-term.term-index ts
    (past_list ts _ value c.loop-term.term-index c.loop-term-test.false))
    (c.loop-term.invariant.set ms s)
