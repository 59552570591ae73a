use Rattle.std.proofs.Common.{pos, map, sym, subst, ◌∙◌}
use Rattle.std.proofs.lemmas.List.{length-map}
use Rattle.std.proofs.lemmas.Result.{IfOk-weaker}
use Rattle.std.specs.List.{AllZip}
use Rattle.algebra.specs.Ring.{operations}
use Rattle.algebra.proofs.IntRing.{ℤ_ring}
use Rattle.polynomials.specs.Terms.{monomial_at}
use Rattle.closures.specs.Modulo.{AreCongruent}
use Rattle.loop_model.specs.View.{program_of}
use Rattle.residue_rows.specs.Modulus.{modulus}
use Rattle.residue_rows.specs.Numbers.{number_of, numbers_of}
use Rattle.closing.proofs.Ends.{sample_shows}
use Rattle.closing.proofs.Letters.{length_both}
use Rattle.closing.proofs.samples.sample_row.Goals as goal

pub returns-clause-row : goal.returns-clause-row
returns-clause-row c = λ ns begun.
    IfOk-weaker c.monomials_at.result _ _
    (λ row near. sample_shows (program_of c.args.lp.now) (pos modulus) ns c.args.word.now
    (numbers_of c.in_ok-end.end.items) (numbers_of row.items) c.args.monomials.now
    (c.in_ok-end.ensures ns begun)
    (subst (λ state. AllZip (AreCongruent (pos modulus)) (numbers_of row.items)
    (map (monomial_at (operations ℤ_ring) (numbers_of state)) c.args.monomials.now))
    c.deref.ensures.value near)) c.monomials_at.ensures

pub returns-clause-width : goal.returns-clause-width
returns-clause-width c =
    IfOk-weaker c.monomials_at.result _ _ (λ row near. sym (length-map row.items number_of)
    ∙ length_both (AreCongruent (pos modulus)) _ _ near ∙ length-map c.args.monomials.now
    (monomial_at (operations ℤ_ring) (numbers_of c.deref.result.now))) c.monomials_at.ensures
